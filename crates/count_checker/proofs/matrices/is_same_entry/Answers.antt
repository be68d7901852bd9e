use Rattle.std.proofs.Common.{◌∙◌, ap, arith}
use Rattle.ring_laws.specs.Ring.{power}
use Rattle.ring_laws.specs.Cyclotomic.{cyclotomics, times, ω}
use Rattle.tc_ring.specs.Omega.{number_of}
use Rattle.count_checker.proofs.Entries.{within_grid, within_start, within_at, tested_left, tested_right}
use Rattle.count_checker.proofs.matrices.is_same_entry.Goals as goal

pub times_omega-right-requires-clause-small : goal.times_omega-right-requires-clause-small
times_omega-right-requires-clause-small c = within_grid c.args.b.now.exponent (number_of c.cell.result) c.cell.ensures.exponent c.cell.ensures.small

pub raise-requires-clause-small : goal.raise-requires-clause-small
raise-requires-clause-small c =
    within_start c.exponent-low.result c.exponent-high.result (number_of c.cell-left.result) c.if-low-high.true c.exponent-high.ensures.low
    (within_at _ _ _ c.exponent-low.ensures.value c.cell-left.ensures.small)

pub raise-requires-else-low-high-clause-small : goal.raise-requires-else-low-high-clause-small
raise-requires-else-low-high-clause-small c =
    within_start c.exponent-high.result c.exponent-low.result (number_of c.times_omega-right.result) (omega arith) c.exponent-low.ensures.low
    (within_at _ _ _ c.exponent-high.ensures.value (c.times_omega-right.ensures.bound _ c.cell.ensures.small))

pub returns-then-low-high : goal.returns-then-low-high
returns-then-low-high c =
    tested_left _ _ _ _ _ _ _ _ _ _ c.exponent-low.ensures.value c.exponent-high.ensures.value c.cell-left.ensures.value
    (c.times_omega-right.ensures.value ∙ ap (times (power cyclotomics ω c.args.turns)) c.cell.ensures.value) c.if-low-high.true c.raise.ensures c.is_equal.ensures

pub returns-else-low-high : goal.returns-else-low-high
returns-else-low-high c =
    tested_right _ _ _ _ _ _ _ _ _ _ c.exponent-low.ensures.value c.exponent-high.ensures.value c.cell-left.ensures.value
    (c.times_omega-right.ensures.value ∙ ap (times (power cyclotomics ω c.args.turns)) c.cell.ensures.value) (omega arith) c.raise-else-low-high.ensures c.is_equal-else-low-high.ensures
