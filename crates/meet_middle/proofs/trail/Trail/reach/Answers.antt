use Rattle.std.proofs.Common.{◌≡◌, ◌+◌, ◌-◌, ◌++◌, ◌∷◌, [], ℕ, List, false, IsTrue, ap, sym, ◌∙◌, subst, rules}
use Rattle.channel_rep.specs.Cells.{ChannelGrid, scaled}
use Rattle.meet_middle.specs.Trails.{IsPast}
use Rattle.meet_middle.proofs.Trailing.{take_letter, part_past}
use Rattle.meet_middle.proofs.trail.Trail.reach.Goals as goal

pub returns-then-not-push-clause-past : goal.returns-then-not-push-clause-past
returns-then-not-push-clause-past c =
    λ no.
    let inv = c.loop-i.invariant in
    let letters = c.args.word.letters in
    let i = c.loop-i.i in
    let p = c.letter.result.code in
    let first = c.loop-i.self.word.letters in
    let left : ℕ = c.len.result - 1 - i + c.args.behind in
    let failed : c.push.result ≡ false = search rules in
    let past = c.push.ensures.past failed in
    let at_target = subst (λ (t : ChannelGrid). IsPast c.loop-i.self.word.qubits (scaled t) (first ++ p ∷ []) left) inv.target past in
    let at = subst (λ (q : ℕ). IsPast q (scaled c.args.self.now.target) (first ++ p ∷ []) left) inv.qubits at_target in
    part_past c.args.self.now.word.qubits left c.args.behind i p (scaled c.args.self.now.target) letters first inv.letters c.letter.ensures.code (ap (λ (k : ℕ). k - 1 - i + c.args.behind) c.len.ensures.value) at

pub loop-i-preserved : goal.loop-i-preserved
loop-i-preserved c =
    let inv = c.loop-i.invariant in
    let yes : IsTrue c.push.result = search rules in
    record {
      target = c.push.ensures.target ∙ inv.target;
      qubits = c.push.ensures.qubits ∙ inv.qubits;
      letters = c.push.ensures.letters yes ∙ (ap (λ (w : List ℕ). w ++ c.letter.result.code ∷ []) inv.letters ∙ sym (take_letter c.args.word.letters c.loop-i.i c.letter.result.code c.letter.ensures.code));
    }
