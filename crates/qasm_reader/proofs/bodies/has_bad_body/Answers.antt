use Rattle.std.proofs.Common.{◌≡◌, List, ℕ, map, ap, ◌∙◌, sym}
use Rattle.std.specs.List.{list_any}
use Rattle.qasm_reader.specs.Known.{known}
use Rattle.qasm_reader.specs.Rows.{is_among, is_bad_entry}
use Rattle.qasm_reader.specs.View.{known_behind, name_list, names, entry}
use Rattle.qasm_reader.proofs.Kept.{some_at}
use Rattle.qasm_reader.proofs.Places.{or_right}
use Rattle.qasm_reader.proofs.bodies.has_bad_body.Goals as goal

pub returns-then-branch-2 : goal.returns-then-branch-2
returns-then-branch-2 c =
    let gates = known_behind known c.args.list.now.list.items in
    let definition = c.args.definition.now in
    let among = name_list definition.names.items in
    let seen : (other : List ℕ) → names c.in_ok-set.set other ≡ is_among among other =
    λ other. c.in_ok-set.ensures other ∙ ap (λ l. is_among (name_list l) other) c.deref-2.ensures.value in
    let here = ap (λ x. is_bad_entry gates among (entry x)) (sym c.line-item.is) ∙ sym (c.in_ok-is_bad_entry.ensures among seen) ∙ c.if-branch-2.true in
    let some = some_at (is_bad_entry gates among) entry c.deref-line-items.result.now c.loop-line.line-index c.line-item.result here c.loop-line-test.true in
    sym (or_right _ _ (sym (ap (λ (l : List _). list_any (is_bad_entry gates among) (map entry l)) c.deref-line-items.ensures.value) ∙ some))
