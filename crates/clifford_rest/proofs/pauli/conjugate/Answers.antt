use Rattle.std.proofs.Common.{◌^◌, ◌<◌, ap, sym, ◌∙◌, subst, ℕ}
use Rattle.pauli_basis.specs.Products.{Signed}
use Rattle.pauli_basis.proofs.Masks.{six_bits}
use Rattle.channel_rep.proofs.Images.{image_below}
use Rattle.clifford_rest.proofs.pauli.conjugate.Goals as goal

pub image-image-requires-clause-code : goal.image-image-requires-clause-code
image-image-requires-clause-code c =
    six_bits c.args.n _ c.requires.few (subst (λ (k : ℕ). k < 4 ^ c.args.n) (sym c.code.ensures) c.requires.below)

pub returns-clause-below : goal.returns-clause-below
returns-clause-below c =
    let low : c.code.result < 4 ^ c.args.n = subst (λ (k : ℕ). k < 4 ^ c.args.n) (sym c.code.ensures) c.requires.below in
    image_below c.args.n c.requires.some c.requires.few c.args.gate c.requires.fits c.code.result _ low
    (ap (λ (s : Signed). s.code) c.new.ensures ∙ (c.code-2.ensures ∙ ap (λ (s : Signed). s.code) (c.image-image.ensures c.args.n c.requires.few c.requires.fits low)))
