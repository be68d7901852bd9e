use Rattle.std.proofs.Common.{◌≡◌, sym, ◌∙◌, arith}
use Rattle.std.proofs.lemmas.Int.{ints}
use Rattle.word_laws.specs.Parities.{parity}
use Rattle.quick_label.proofs.ParityBits.{one_below, one_kept, one_set}
use Rattle.quick_label.proofs.parities.with_parity.Goals as goal

pub returns-then-number-eq0-clause-fresh : goal.returns-then-number-eq0-clause-fresh
returns-then-number-eq0-clause-fresh c none =
    let even : parity c.args.number ≡ 0 = omega (arith, ints, c.if-number-eq0.true) in
    none ∙ sym even

pub returns-else-number-eq0-clause-below : goal.returns-else-number-eq0-clause-below
returns-else-number-eq0-clause-below c = one_below c.args.word c.args.place c.requires.place

pub returns-else-number-eq0-clause-kept : goal.returns-else-number-eq0-clause-kept
returns-else-number-eq0-clause-kept c = one_kept c.args.word c.args.place c.requires.place

pub returns-else-number-eq0-clause-fresh : goal.returns-else-number-eq0-clause-fresh
returns-else-number-eq0-clause-fresh c none =
    let odd : parity c.args.number ≡ 1 = omega (arith, ints, c.if-number-eq0.false) in
    one_set c.args.word c.args.place c.requires.place ∙ sym odd

pub returns-else-number-eq0-clause-again : goal.returns-else-number-eq0-clause-again
returns-else-number-eq0-clause-again c same =
    let odd : parity c.args.number ≡ 1 = omega (arith, ints, c.if-number-eq0.false) in
    one_set c.args.word c.args.place c.requires.place ∙ sym odd
