use Rattle.std.proofs.Common.{◌≡◌, ℕ, ◌+◌, ◌<◌, ◌++◌, ◌∷◌, [], length, set, IsTrue, ap, sym, ◌∙◌, subst, rules}
use Rattle.channel_rep.specs.Cells.{ChannelGrid, scaled}
use Rattle.coset_label.specs.Words.{RotationWord, most_letters}
use Rattle.meet_middle.specs.Trails.{HeldTrail, IsTrail, IsRest}
use Rattle.meet_middle.proofs.Trailing.{pushed}
use Rattle.meet_middle.proofs.trail.Trail.push.Goals as goal

pub invariant_of-self : goal.invariant_of-self
invariant_of-self c =
    let s = c.self.inside in
    let p = c.args.letter.code in
    let old = c.args.self.now in
    let now = c.leave.new.self in
    let yes : IsTrue c.leave.result = search rules in
    let at_old = c.leave.ensures.rest yes in
    let at_target = subst (λ (t : ChannelGrid). IsRest old.word.qubits (scaled t) (old.word.letters ++ p ∷ []) now.rest) (sym c.leave.ensures.target) at_old in
    let at_word = subst (λ (w : RotationWord). IsRest w.qubits (scaled now.target) (w.letters ++ p ∷ []) now.rest) (sym c.leave.ensures.word) at_target in
    let inside = subst (λ (h : HeldTrail). IsRest h.word.qubits (scaled h.target) (h.word.letters ++ p ∷ []) h.rest) (sym c.self.view_is) at_word in
    let word : s.word ≡ old.word = ap (λ (h : HeldTrail). h.word) c.self.view_is ∙ c.leave.ensures.word in
    let room = subst (λ (w : RotationWord). length w.letters < most_letters w.qubits) (sym word) c.requires.room in
    let is = pushed s.rests.items s.rest s.turns s.word.qubits p s.word.letters c.self.invariant room inside in
    subst (λ (w : RotationWord). IsTrail (set s.rests.items (c.len.result + 1) c.take.new.self) w s.rest s.turns) (sym c.push_back-self-inside.ensures)
    (subst (λ (m : ChannelGrid). IsTrail (set s.rests.items (c.len.result + 1) m) (record { qubits = s.word.qubits; letters = s.word.letters ++ p ∷ [] }) s.rest s.turns) (sym c.take.ensures)
    (subst (λ (k : ℕ). IsTrail (set s.rests.items (k + 1) s.rest) (record { qubits = s.word.qubits; letters = s.word.letters ++ p ∷ [] }) s.rest s.turns) (sym c.len.ensures.value) is))
