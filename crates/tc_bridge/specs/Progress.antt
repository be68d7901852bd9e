-- The channel of a circuit's first gates, under way.
use Rattle.std.specs.Prelude.{◌≡◌, List, ◌++◌}
use Rattle.channel_rep.specs.Cells.{scaled}
use Rattle.channel_rep.specs.Conjugations.{IsConjugationBy, gate_steps}
use Rattle.channel_rep.specs.Tables.{Step, IsBuiltOf}
use Rattle.channel_rep.specs.declared.gate.ChannelGate.{ChannelGate}
use Rattle.tc_bridge.specs.declared.progress.Progress.{Progress}

-- these steps were taken: the channel has the first of them, and Clifford gates behind these are pending
pub record HasTaken (steps : List Step) (p : Progress) : Type 0 where
  pub settled : List Step
  pub gates : List ChannelGate
  pub all : steps ≡ settled ++ gate_steps gates
  pub built : IsBuiltOf p.channel.qubits settled (scaled p.channel)
  pub by : IsConjugationBy gates p.pending
