-- The number of Z[√2] that a `Root2` stands for.
use Rattle.tc_ring.specs.Surds.{Surd, surd}
use Rattle.tc_ring.specs.declared.root2.Root2.{Root2}

abbrev pub surd_of : Root2 → Surd
surd_of x = surd x.a x.b
