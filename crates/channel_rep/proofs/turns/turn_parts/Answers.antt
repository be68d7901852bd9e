use Rattle.std.proofs.Common.{◌<◌, ap, arith}
use Rattle.tc_ring.specs.Surds.{surd_plus}
use Rattle.channel_rep.specs.Cells.{entries}
use Rattle.channel_rep.specs.Parts.{cells_of}
use Rattle.channel_rep.proofs.Places.{changes_pair_to}
use Rattle.channel_rep.proofs.Signs.{signed-true, signed-false, signed-not_true, signed-not_false}
use Rattle.channel_rep.proofs.TurnedParts.{small_whole_parts, small_root_parts, turned_parts, changes_pair_back}
use Rattle.channel_rep.proofs.turns.turn_parts.Goals as goal

pub subtract_and_add-requires-clause-small : goal.subtract_and_add-requires-clause-small
subtract_and_add-requires-clause-small c =
    let low : c.args.low < c.args.size = omega arith in
    small_whole_parts c.args.size c.args.a.now c.args.b.now c.requires.whole c.requires.root c.args.low c.args.high low c.requires.below c.requires.small_low c.requires.small_high

pub subtract_and_add-requires-then-low_first-clause-small : goal.subtract_and_add-requires-then-low_first-clause-small
subtract_and_add-requires-then-low_first-clause-small c =
    let low : c.args.low < c.args.size = omega arith in
    small_root_parts c.args.size c.args.a.now c.args.b.now c.requires.whole c.requires.root c.args.low c.args.high low c.requires.below c.requires.small_low c.requires.small_high

pub subtract_and_add-requires-else-low_first-clause-small : goal.subtract_and_add-requires-else-low_first-clause-small
subtract_and_add-requires-else-low_first-clause-small c =
    let low : c.args.low < c.args.size = omega arith in
    small_whole_parts c.args.size c.args.a.now c.args.b.now c.requires.whole c.requires.root c.args.high c.args.low c.requires.below low c.requires.small_high c.requires.small_low

pub subtract_and_add-requires-else-low_first-2-clause-small : goal.subtract_and_add-requires-else-low_first-2-clause-small
subtract_and_add-requires-else-low_first-2-clause-small c =
    let low : c.args.low < c.args.size = omega arith in
    small_root_parts c.args.size c.args.a.now c.args.b.now c.requires.whole c.requires.root c.args.high c.args.low c.requires.below low c.requires.small_high c.requires.small_low

pub returns-then-low_first : goal.returns-then-low_first
returns-then-low_first c =
    let low : c.args.low < c.args.size = omega arith in
    let old = cells_of c.args.a.now c.args.b.now in
    changes_pair_to c.args.size c.args.low c.args.high _ _ _ _ old _
    (λ k l. ap (surd_plus (entries c.args.size old c.args.low k)) (signed-true c.args.low_first (entries c.args.size old c.args.high k) c.if-low_first.true))
    (λ k l. ap (surd_plus (entries c.args.size old c.args.high k)) (signed-not_true c.args.low_first (entries c.args.size old c.args.low k) c.if-low_first.true))
    (turned_parts c.args.size c.args.a.now c.args.b.now c.requires.whole c.requires.root c.subtract_and_add.new.numbers c.subtract_and_add-then-low_first.new.numbers c.subtract_and_add.auto.numbers c.subtract_and_add-then-low_first.auto.numbers
    c.args.low c.args.high low c.requires.below c.subtract_and_add.ensures c.subtract_and_add-then-low_first.ensures)

pub returns-else-low_first : goal.returns-else-low_first
returns-else-low_first c =
    let low : c.args.low < c.args.size = omega arith in
    let old = cells_of c.args.a.now c.args.b.now in
    changes_pair_to c.args.size c.args.low c.args.high _ _ _ _ old _
    (λ k l. ap (surd_plus (entries c.args.size old c.args.low k)) (signed-false c.args.low_first (entries c.args.size old c.args.high k) c.if-low_first.false))
    (λ k l. ap (surd_plus (entries c.args.size old c.args.high k)) (signed-not_false c.args.low_first (entries c.args.size old c.args.low k) c.if-low_first.false))
    (changes_pair_back c.args.size c.args.high c.args.low _ _ old _
    (turned_parts c.args.size c.args.a.now c.args.b.now c.requires.whole c.requires.root c.subtract_and_add-else-low_first.new.numbers c.subtract_and_add-else-low_first-2.new.numbers c.subtract_and_add-else-low_first.auto.numbers c.subtract_and_add-else-low_first-2.auto.numbers
    c.args.high c.args.low c.requires.below low c.subtract_and_add-else-low_first.ensures c.subtract_and_add-else-low_first-2.ensures))
