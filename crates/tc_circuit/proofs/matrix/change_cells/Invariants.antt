use Rattle.std.proofs.Common.{◌≡◌, ℕ, ◌^◌, ◌<◌, ◌≤◌}
use Rattle.ring_laws.specs.Matrix.{product}
use Rattle.ring_laws.specs.Cyclotomic.{cyclotomics}
use Rattle.tc_circuit.specs.Gate.{gate_table}
use Rattle.tc_circuit.specs.Grid.{entries}
use Rattle.tc_circuit.proofs.matrix.change_cells.Given as goal

abbrev pub invariant-loop-col : goal.invariant-loop-col
invariant-loop-col l = record {
  done : (r c : ℕ) → r < 2 ^ l.n → c < l.col → entries l.n l.cells r c ≡ product cyclotomics (2 ^ l.n) (gate_table l.gate) (entries l.n l.initial.cells) r c;
  rest : (r c : ℕ) → r < 2 ^ l.n → c < 2 ^ l.n → l.col ≤ c → entries l.n l.cells r c ≡ entries l.n l.initial.cells r c;
}
