use Rattle.std.proofs.Common.{◌≡◌, drop}
use Rattle.std.specs.List.{find}
use Rattle.qasm_reader.specs.Rows.{applies, order}
use Rattle.qasm_reader.specs.View.{statement_of, state}
use Rattle.qasm_reader.proofs.rows.first_row.Given as goal

abbrev pub invariant-loop-why : goal.invariant-loop-why
invariant-loop-why l = find (applies (state l.scan) (statement_of l.statement)) (drop l.why-index order) ≡ find (applies (state l.scan) (statement_of l.statement)) order
