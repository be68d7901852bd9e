use Rattle.std.proofs.Common.{[], ◌∷◌, refl, arith}
use Rattle.pauli_basis.proofs.Products.{product_code-lt}
use Rattle.quick_label.proofs.BlockHomes.{span_marks}
use Rattle.quick_label.proofs.tests.letters.span_of_two.Goals as goal

pub widen-requires-clause-closed : goal.widen-requires-clause-closed
widen-requires-clause-closed c v l = omega (arith, c.empty_span.auto.span, product_code-lt 2 c.args.p v c.requires.p (omega (arith, c.empty_span.auto.span)))

pub widen-requires-2-clause-closed : goal.widen-requires-2-clause-closed
widen-requires-2-clause-closed c v l = omega (arith, c.widen.auto.wider, product_code-lt 2 c.args.q v c.requires.q (omega (arith, c.widen.auto.wider)))

pub returns : goal.returns
returns c = span_marks 2 (c.args.q ∷ c.args.p ∷ []) _ (c.widen-2.ensures 2 (c.args.p ∷ []) (c.widen.ensures 2 [] (c.empty_span.ensures 2 refl)))
