use Rattle.std.proofs.Common.{◌∙◌, sym}
use Rattle.qasm_reader.specs.Rows.{applies, row_of}
use Rattle.qasm_reader.specs.View.{statement_of, state}
use Rattle.qasm_reader.proofs.Order.{row_failed, row_passed}
use Rattle.qasm_reader.proofs.rows.first_row.Goals as goal

pub loop-why-preserved : goal.loop-why-preserved
loop-why-preserved c =
    row_failed (applies (state c.args.scan.now) (statement_of c.args.statement.now)) c.loop-why.why-index _ c.loop-why-test.true (sym c.applies.ensures ∙ c.if-applies.false) ∙ c.loop-why.invariant

pub returns-then-applies : goal.returns-then-applies
unfolding row_of
returns-then-applies c =
    row_passed (applies (state c.args.scan.now) (statement_of c.args.statement.now)) c.loop-why.why-index _ c.loop-why-test.true (sym c.applies.ensures ∙ c.if-applies.true) ∙ c.loop-why.invariant
