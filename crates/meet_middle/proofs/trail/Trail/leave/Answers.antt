use Rattle.std.proofs.Common.{◌≢◌, ℕ, ◌^◌, ◌<◌, ap, sym, ◌∙◌, subst, rules}
use Rattle.channel_rep.specs.Cells.{ChannelGrid, scaled}
use Rattle.channel_rep.specs.Tables.{IsCircuitChannel}
use Rattle.meet_middle.specs.Trails.{HeldTrail}
use Rattle.meet_middle.proofs.Trailing.{held_some, held_few, held_kept, past_one, rest_one, rest_replaced}
use Rattle.meet_middle.proofs.trail.Trail.leave.Goals as goal

pub exponent_without-requires-clause-circuit : goal.exponent_without-requires-clause-circuit
exponent_without-requires-clause-circuit c =
    let s = c.self.inside in
    let kept = held_kept s.rests.items s.word s.rest s.turns c.args.self.now c.self.invariant c.self.view_is c.len.ensures.valid c.len.result c.len.ensures.value c.index-kept.result.now c.index-kept.ensures in
    subst (λ (q : ℕ). IsCircuitChannel q (scaled c.index-kept.result.now)) (sym kept.qubits) kept.circuit

pub returns-then-exponent_without-left-clause-past : goal.returns-then-exponent_without-left-clause-past
returns-then-exponent_without-left-clause-past c =
    λ no.
    let s = c.self.inside in
    let held = c.args.self.now in
    let kept = held_kept s.rests.items s.word s.rest s.turns held c.self.invariant c.self.view_is c.len.ensures.valid c.len.result c.len.ensures.value c.index-kept.result.now c.index-kept.ensures in
    let l : c.args.left < c.exponent_without.result = search rules in
    past_one held.word.qubits c.args.left c.args.letter.code c.exponent_without.result (scaled held.target) held.word.letters c.index-kept.result.now kept c.exponent_without.ensures.least l

pub copy_from-requires : goal.copy_from-requires
copy_from-requires c =
    let s = c.self.inside in
    let kept = held_kept s.rests.items s.word s.rest s.turns c.args.self.now c.self.invariant c.self.view_is c.len.ensures.valid c.len.result c.len.ensures.value c.index-kept.result.now c.index-kept.ensures in
    c.self.invariant.rest_qubits ∙ (ap (λ (h : HeldTrail). h.word.qubits) c.self.view_is ∙ sym (ap (λ (m : ChannelGrid). m.qubits) c.narrow.ensures.value ∙ kept.qubits))

pub left_rotation_inverse-requires-clause-same : goal.left_rotation_inverse-requires-clause-same
left_rotation_inverse-requires-clause-same c =
    let s = c.self.inside in
    let kept = held_kept s.rests.items s.word s.rest s.turns c.args.self.now c.self.invariant c.self.view_is c.len.ensures.valid c.len.result c.len.ensures.value c.index-kept.result.now c.index-kept.ensures in
    c.requires.same ∙ sym (ap (λ (m : ChannelGrid). m.qubits) (c.copy_from.ensures ∙ c.narrow.ensures.value) ∙ kept.qubits)

pub invariant_of-self : goal.invariant_of-self
invariant_of-self c =
    let s = c.self.inside in
    let kept = held_kept s.rests.items s.word s.rest s.turns c.args.self.now c.self.invariant c.self.view_is c.len.ensures.valid c.len.result c.len.ensures.value c.index-kept.result.now c.index-kept.ensures in
    rest_replaced s.rests.items s.word s.rest c.reduce.new.self s.turns c.self.invariant
    (c.reduce.ensures.qubits ∙ (c.left_rotation_inverse.ensures.qubits ∙ (ap (λ (m : ChannelGrid). m.qubits) (c.copy_from.ensures ∙ c.narrow.ensures.value) ∙ (kept.qubits ∙ sym (ap (λ (h : HeldTrail). h.word.qubits) c.self.view_is)))))

pub returns-clause-rest : goal.returns-clause-rest
returns-clause-rest c =
    λ yes.
    let s = c.self.inside in
    let held = c.args.self.now in
    let n = held.word.qubits in
    let p = c.args.letter.code in
    let kept = held_kept s.rests.items s.word s.rest s.turns held c.self.invariant c.self.view_is c.len.ensures.valid c.len.result c.len.ensures.value c.index-kept.result.now c.index-kept.ensures in
    let good : (p < 4 ^ n) × (p ≢ 0) = (subst (λ (q : ℕ). p < 4 ^ q) c.requires.same c.exponent_without.ensures.letter, c.requires.other) in
    rest_one n p (scaled held.target) held.word.letters c.index-kept.result.now c.copy_from.new.self c.left_rotation_inverse.new.self c.reduce.new.self
    (held_some s.rests.items s.word s.rest s.turns held c.self.invariant c.self.view_is) (held_few s.rests.items s.word s.rest s.turns held c.self.invariant c.self.view_is) good kept
    (c.copy_from.ensures ∙ c.narrow.ensures.value) c.left_rotation_inverse.ensures.qubits c.left_rotation_inverse.ensures.exponent c.left_rotation_inverse.ensures.table c.reduce.ensures.qubits c.reduce.ensures.value c.reduce.ensures.reduced
