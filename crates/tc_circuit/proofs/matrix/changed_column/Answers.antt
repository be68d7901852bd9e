use Rattle.std.proofs.Common.{◌≢◌, ◌<◌, arith, length, ap, ◌∙◌, below_more, get_or-set_same, get_or-set_other}
use Rattle.std.proofs.lemmas.List.{length-set}
use Rattle.tc_ring.specs.Omega.{number_of}
use Rattle.tc_circuit.specs.Grid.{no_cell}
use Rattle.tc_circuit.proofs.Flips.{state_small}
use Rattle.tc_circuit.proofs.matrix.changed_column.Goals as goal

pub bounds-column-row : goal.bounds-column-row
bounds-column-row c = state_small c.args.n c.loop-row.row c.requires.few (omega arith)

pub loop-row-preserved : goal.loop-row-preserved
loop-row-preserved c =
    let small : c.loop-row.row < 8 = state_small c.args.n c.loop-row.row c.requires.few (omega arith) in
    let inside : c.loop-row.row < length c.loop-row.column = omega arith in
    record {
      long = length-set c.loop-row.column c.loop-row.row c.changed_cell.result ∙ c.loop-row.invariant.long;
      done = below_more _ _
          (λ r l. let other : r ≢ c.loop-row.row = omega arith in
          ap number_of (get_or-set_other c.loop-row.column c.loop-row.row r c.changed_cell.result no_cell other) ∙ c.loop-row.invariant.done r l)
          (ap number_of (get_or-set_same c.loop-row.column c.loop-row.row c.changed_cell.result no_cell inside) ∙ c.changed_cell.ensures);
    }
