use Rattle.std.proofs.Common.{◌∙◌, arith}
use Rattle.std.proofs.lemmas.Int.{ints}
use Rattle.tc_ring.specs.Root2.{surd_of}
use Rattle.tc_ring.proofs.Surds.{same_surd, root2_surd-times, odd_is_no_multiple}
use Rattle.tc_ring.proofs.root2.Root2.half_root2.Goals as goal

pub returns-then-self-eq0-clause-some : goal.returns-then-self-eq0-clause-some
returns-then-self-eq0-clause-some c =
    let even = c.if-self-eq0.true in
    root2_surd-times _ ∙ same_surd {y = surd_of c.args.self} (omega (arith, ints, even)) (omega (arith, ints))

pub returns-else-self-eq0-clause-no_quotient : goal.returns-else-self-eq0-clause-no_quotient
returns-else-self-eq0-clause-no_quotient c = λ none x. odd_is_no_multiple x (surd_of c.args.self) (omega (arith, ints, c.if-self-eq0.false))
