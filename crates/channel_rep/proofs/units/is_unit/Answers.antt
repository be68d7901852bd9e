use Rattle.tc_ring.specs.Root2.{surd_of}
use Rattle.tc_ring.specs.Surds.{surd_integer, surd_negative, one_surd}
use Rattle.channel_rep.proofs.OneUnit.{same_by_parts, first_of_units, second_of_units}
use Rattle.channel_rep.proofs.units.is_unit.Goals as goal

pub returns-then-eq : goal.returns-then-eq
unfolding surd_integer
returns-then-eq c = first_of_units (surd_of c.args.x) _ (same_by_parts (surd_of c.args.x) one_surd _ c.eq.ensures) c.if-eq.true

pub returns-else-eq : goal.returns-else-eq
unfolding surd_integer surd_negative
returns-else-eq c =
    second_of_units (surd_of c.args.x) _ _ (same_by_parts (surd_of c.args.x) one_surd _ c.eq.ensures)
    (same_by_parts (surd_of c.args.x) (surd_negative one_surd) _ c.eq-else-eq.ensures) c.if-eq.false
