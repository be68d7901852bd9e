use Rattle.std.proofs.Common.{arith}
use Rattle.channel_rep.proofs.Conjugated.{identity_images, identity_map, identity_by}
use Rattle.channel_rep.proofs.conjugation.Conjugation.identity.Goals as goal

pub invariant_of-result : goal.invariant_of-result
invariant_of-result c = identity_map c.args.n c.requires.some c.requires.few c.loop-code.images (λ p l. c.loop-code.invariant.own p (omega arith))

pub returns-clause-images : goal.returns-clause-images
returns-clause-images c = identity_images c.args.n c.requires.some c.requires.few c.loop-code.images (λ p l. c.loop-code.invariant.own p (omega arith))

pub returns-clause-by : goal.returns-clause-by
returns-clause-by c = identity_by c.args.n c.requires.some c.requires.few c.loop-code.images (λ p l. c.loop-code.invariant.own p (omega arith))
