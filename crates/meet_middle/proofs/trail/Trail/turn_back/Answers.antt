use Rattle.meet_middle.proofs.Trailing.{turned_back}
use Rattle.meet_middle.proofs.trail.Trail.turn_back.Goals as goal

pub invariant_of-self : goal.invariant_of-self
invariant_of-self c =
    let s = c.self.inside in
    turned_back s.rests.items s.word s.rest s.turns c.common_prefix-self-inside.result c.self.invariant c.common_prefix-self-inside.ensures.qubits c.common_prefix-self-inside.ensures.of_first
