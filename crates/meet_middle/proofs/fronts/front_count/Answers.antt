use Rattle.std.proofs.Common.{arith}
use Rattle.meet_middle.proofs.Few.{words_few, product_few}
use Rattle.meet_middle.proofs.fronts.front_count.Goals as goal

pub overflow_mul-result : goal.overflow_mul-result
overflow_mul-result c =
    let few = words_few c.args.n c.args.half c.args.level.now c.requires.number in
    let product = product_few c.count-count.result c.letter_count.result (omega arith) c.letter_count.ensures.small.1 in
    omega arith

pub returns-then-odd-clause-few : goal.returns-then-odd-clause-few
returns-then-odd-clause-few c =
    let few = words_few c.args.n c.args.half c.args.level.now c.requires.number in
    let product = product_few c.count-count.result c.letter_count.result (omega arith) c.letter_count.ensures.small.1 in
    omega arith

pub returns-else-odd-clause-few : goal.returns-else-odd-clause-few
returns-else-odd-clause-few c = let few = words_few c.args.n c.args.half c.args.level.now c.requires.number in omega arith
