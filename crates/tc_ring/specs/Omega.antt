-- The number of Z[ω] that an `Omega` stands for.
use Rattle.std.specs.Prelude.{pos, slice_index_or}
use Rattle.ring_laws.specs.Cyclotomic.{Zω, number}
use Rattle.tc_ring.specs.declared.omega.Omega.{Omega}

abbrev pub number_of : Omega → Zω
number_of a = number (slice_index_or a.x 0 (pos 0)) (slice_index_or a.x 1 (pos 0)) (slice_index_or a.x 2 (pos 0)) (slice_index_or a.x 3 (pos 0))
