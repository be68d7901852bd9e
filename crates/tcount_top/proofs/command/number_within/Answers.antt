use Rattle.std.proofs.Common.{◌≡◌, arith}
use Rattle.tcount_top.proofs.Words.{one_number}
use Rattle.tcount_top.proofs.command.number_within.Goals as goal
use Rattle.tcount_top.proofs.command.number_within.Goals.{then-number-low-via-then-number-low, then-number-low-via-else-number-low+then-number-high}

pub returns-then-number-low-clause-none : goal.returns-then-number-low-clause-none
returns-then-number-low-clause-none c = λ n h low high.
    let same : c.in_ok-number.number ≡ n = one_number c.args.word.now c.in_ok-number.number n c.in_ok-number.ensures.some h in elim c.then-number-low.branch [
      | then-number-low-via-then-number-low w ↦ omega (arith, same, low, w.if-number-low.true)
      | then-number-low-via-else-number-low+then-number-high w ↦ omega (arith, same, high, w.if-number-high.true)
    ]
