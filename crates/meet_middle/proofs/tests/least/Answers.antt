use Rattle.std.proofs.Common.{ℕ, sym, subst}
use Rattle.channel_rep.specs.Cells.{scaled}
use Rattle.channel_rep.specs.Tables.{IsCircuitChannel}
use Rattle.meet_middle.proofs.tests.least.Goals as goal

pub least_word-requires-clause-circuit : goal.least_word-requires-clause-circuit
least_word-requires-clause-circuit g c κs within = subst (λ (n : ℕ). IsCircuitChannel n (scaled c.in_ok-target.target)) (sym c.in_ok-target.ensures.qubits) c.in_ok-target.ensures.of_a_circuit
