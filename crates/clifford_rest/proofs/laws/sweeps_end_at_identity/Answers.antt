use Rattle.std.proofs.Common.{◌∙◌}
use Rattle.channel_rep.specs.Cells.{scaled}
use Rattle.clifford_rest.specs.Rest.{undo_gates}
use Rattle.clifford_rest.proofs.Rests.{undo_fits, undo_short, undone_table}
use Rattle.tc_bridge.proofs.CliffordTables.{gates_exponent}
use Rattle.clifford_rest.proofs.laws.sweeps_end_at_identity.Goals as goal

pub returns : goal.returns
returns c = λ grid h. record {
  fit = undo_fits grid h.some h.few h.permutation h.channel;
  short = undo_short grid h.some h.few h.permutation h.channel;
  table = undone_table grid h.some h.few h.permutation h.channel;
  exponent = gates_exponent grid.qubits (undo_gates grid) (scaled grid) ∙ h.permutation.exponent;
}
