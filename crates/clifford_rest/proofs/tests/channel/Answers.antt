use Rattle.std.proofs.Common.{ℕ, subst}
use Rattle.channel_rep.specs.Cells.{scaled}
use Rattle.channel_rep.specs.Tables.{IsCircuitChannel}
use Rattle.clifford_rest.proofs.tests.channel.Goals as goal

pub returns-clause-channel : goal.returns-clause-channel
returns-clause-channel g c = subst (λ (n : ℕ). IsCircuitChannel n (scaled c.in_ok-channel.channel)) c.loop-gate.invariant c.in_ok-channel.ensures.of_a_circuit
