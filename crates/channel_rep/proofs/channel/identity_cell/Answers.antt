use Rattle.std.proofs.Common.{sym}
use Rattle.std.proofs.lemmas.Bool.{cond-true, cond-false, eq-eqb, ne_eqb}
use Rattle.ring_laws.specs.Matrix.{identity}
use Rattle.tc_ring.specs.Surds.{surd_integer}
use Rattle.channel_rep.proofs.channel.identity_cell.Goals as goal

pub returns-then-row-column : goal.returns-then-row-column
unfolding identity surd_integer
returns-then-row-column c = sym (cond-true _ _ _ (eq-eqb _ _ c.if-row-column.true))

pub returns-else-row-column : goal.returns-else-row-column
unfolding identity surd_integer
returns-else-row-column c = sym (cond-false _ _ _ (ne_eqb _ _ c.if-row-column.false))
