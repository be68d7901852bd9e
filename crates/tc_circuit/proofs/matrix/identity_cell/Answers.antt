use Rattle.std.proofs.Common.{sym}
use Rattle.std.proofs.lemmas.Bool.{cond-true, cond-false, eq-eqb, ne_eqb}
use Rattle.ring_laws.specs.Cyclotomic.{integer}
use Rattle.ring_laws.specs.Matrix.{identity}
use Rattle.tc_circuit.proofs.matrix.identity_cell.Goals as goal

pub returns-then-row-col : goal.returns-then-row-col
unfolding identity integer
returns-then-row-col c = sym (cond-true _ _ _ (eq-eqb _ _ c.if-row-col.true))

pub returns-else-row-col : goal.returns-else-row-col
unfolding identity integer
returns-else-row-col c = sym (cond-false _ _ _ (ne_eqb _ _ c.if-row-col.false))
