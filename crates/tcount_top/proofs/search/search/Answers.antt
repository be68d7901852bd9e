use Rattle.std.proofs.Common.{ℕ, sym, subst}
use Rattle.channel_rep.specs.Cells.{scaled}
use Rattle.channel_rep.specs.Tables.{IsCircuitChannel}
use Rattle.tcount_top.proofs.search.search.Goals as goal

pub least_word-requires-clause-circuit : goal.least_word-requires-clause-circuit
least_word-requires-clause-circuit g c κs within = subst (λ (n : ℕ). IsCircuitChannel n (scaled c.in_ok-channel.channel)) (sym c.in_ok-channel.ensures.qubits) c.in_ok-channel.ensures.of_a_circuit

pub returns-clause-circuit : goal.returns-clause-circuit
returns-clause-circuit g c = subst (λ (n : ℕ). IsCircuitChannel n (scaled c.in_ok-channel.channel)) (sym c.in_ok-channel.ensures.qubits) c.in_ok-channel.ensures.of_a_circuit
