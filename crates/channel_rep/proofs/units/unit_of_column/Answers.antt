use Rattle.std.proofs.Common.{ap, sym, ◌∙◌, subst, arith}
use Rattle.std.proofs.lemmas.Bool.{true≢false}
use Rattle.pauli_basis.specs.Products.{Signed}
use Rattle.channel_rep.specs.Tables.{signed}
use Rattle.tc_ring.specs.Root2.{surd_of}
use Rattle.tc_ring.specs.Surds.{surd_integer, surd_negative, one_surd}
use Rattle.channel_rep.specs.Cells.{IsUnit, entries}
use Rattle.channel_rep.proofs.OneUnit.{same_by_parts, unit_sign, unit_here, not_none}
use Rattle.channel_rep.proofs.units.unit_of_column.Goals as goal

pub returns-then-not-is_zero-clause-cell : goal.returns-then-not-is_zero-clause-cell
unfolding surd_integer surd_negative
returns-then-not-is_zero-clause-cell c =
    let unit = unit_here (λ row. entries c.args.size c.args.cells.now row c.args.column) c.loop-row.row c.args.size c.loop-row-test.true c.requires.one
    (λ e. true≢false (sym (c.is_zero.ensures.1 (c.cell_at-cell.ensures ∙ e)) ∙ c.if-not-is_zero.true)) in
    ap (λ (s : Signed). entries c.args.size c.args.cells.now s.code c.args.column) c.new.ensures ∙ sym c.cell_at-cell.ensures
    ∙ unit_sign (surd_of c.cell_at-cell.result) c.eq.result (subst IsUnit (sym c.cell_at-cell.ensures) unit) (same_by_parts (surd_of c.cell_at-cell.result) (surd_negative one_surd) _ c.eq.ensures)
    ∙ ap (λ (s : Signed). signed s.is_negative one_surd) (sym c.new.ensures)

pub unreachable-requires : goal.unreachable-requires
unreachable-requires c = not_none (λ row. entries c.args.size c.args.cells.now row c.args.column) c.args.size (λ r l. c.loop-row.invariant r (omega arith)) c.requires.one
