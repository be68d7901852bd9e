use Rattle.std.proofs.Common.{◌≡◌, ◌⊎◌, ◌≤◌, ℕ, List, Contains, get_or, ap, ◌∙◌, subst}
use Rattle.std.specs.Mem.Slots.{slots_items}
use Rattle.steal_sweep.specs.BestRule.{none_yet}
use Rattle.steal_sweep.proofs.Leading.{closes, read_first}
use Rattle.steal_sweep.proofs.best.Best.close.Goals as goal

pub returns-clause-put : goal.returns-clause-put
returns-clause-put c =
    let f = c.close_with-closed.ensures.values.2 in
    let is = ap (λ (l : List ℕ). get_or l 0 0) f.2 ∙ read_first (slots_items c.close_with-closed.result.words) c.word-word.result c.word-word.ensures in
    subst (λ (z : ℕ). (z ≡ none_yet) ⊎ Contains c.args.seat.seat.me.0.put z) is (closes f.0 c.args.seat.seat.id c.args.seat.seat.me.0 f.1.0 f.1.1 c.requires.whole).1

pub returns-clause-least : goal.returns-clause-least
returns-clause-least c =
    let f = c.close_with-closed.ensures.values.2 in
    let is = ap (λ (l : List ℕ). get_or l 0 0) f.2 ∙ read_first (slots_items c.close_with-closed.result.words) c.word-word.result c.word-word.ensures in
    subst (λ (z : ℕ). z ≤ c.args.seat.seat.me.0.least) is (closes f.0 c.args.seat.seat.id c.args.seat.seat.me.0 f.1.0 f.1.1 c.requires.whole).0
