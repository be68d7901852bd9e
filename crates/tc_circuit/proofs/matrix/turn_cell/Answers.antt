use Rattle.std.proofs.Common.{◌∙◌, sym, ap}
use Rattle.std.proofs.lemmas.Bool.{cond-false}
use Rattle.ring_laws.specs.Ring.{power}
use Rattle.ring_laws.specs.Cyclotomic.{cyclotomics, ω, one_number, times}
use Rattle.ring_laws.proofs.Cyclotomic.{one-times}
use Rattle.tc_circuit.specs.Bits.{has_bit}
use Rattle.tc_circuit.specs.Grid.{entries}
use Rattle.tc_circuit.proofs.matrix.turn_cell.Goals as goal

pub returns-else-is_set : goal.returns-else-is_set
returns-else-is_set c =
    let cell = entries c.args.n c.args.cells.now c.args.row c.args.col in
    c.cell_at-cell.ensures ∙ sym (one-times cell)
    ∙ sym (ap (λ x. times x cell) (cond-false (has_bit c.args.q c.args.row) (power cyclotomics ω c.args.turns) one_number (sym c.is_set.ensures ∙ c.if-is_set.false)))
