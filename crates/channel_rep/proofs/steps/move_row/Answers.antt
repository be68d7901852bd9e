use Rattle.std.proofs.Common.{◌≡◌, ℕ, Bool, ◌<◌, ◌≤◌, ap, sym, ◌∙◌, subst, arith}
use Rattle.pauli_basis.specs.Products.{Signed}
use Rattle.pauli_basis.proofs.Masks.{six_bits}
use Rattle.channel_rep.proofs.Images.{fits_three, image_below}
use Rattle.channel_rep.proofs.Sweeps.{small_at, moved_pair, moved_alone, moved_before, turn_before_image, turn_of_image}
use Rattle.channel_rep.proofs.steps.move_row.Goals as goal

-- a code and a sign that were read from an image
read_code : (read made : Signed) (code : ℕ) → code ≡ read.code → read ≡ made → code ≡ made.code
read_code read made code e d = e ∙ ap (λ (s : Signed). s.code) d

read_sign : (read made : Signed) (negative : Bool) → negative ≡ read.is_negative → read ≡ made → negative ≡ made.is_negative
read_sign read made negative e d = e ∙ ap (λ (s : Signed). s.is_negative) d

pub overflow_cast-row : goal.overflow_cast-row
overflow_cast-row c = omega (arith, six_bits c.args.n c.args.row c.requires.few c.requires.below)

pub image-image-requires-clause-fits : goal.image-image-requires-clause-fits
image-image-requires-clause-fits c = fits_three c.args.n c.requires.few c.args.gate c.requires.fits

pub image-image-requires-clause-code : goal.image-image-requires-clause-code
image-image-requires-clause-code c = six_bits c.args.n c.args.row c.requires.few c.requires.below

pub image-back-requires-clause-fits : goal.image-back-requires-clause-fits
image-back-requires-clause-fits c = fits_three c.args.n c.requires.few c.args.gate c.requires.fits

pub image-back-requires-clause-code : goal.image-back-requires-clause-code
image-back-requires-clause-code c =
    let below = image_below c.args.n c.requires.some c.requires.few c.args.gate c.requires.fits c.args.row c.code-code.result c.requires.below (read_code _ _ _ c.code-code.ensures (c.image-image.ensures c.args.n c.requires.few c.requires.fits c.requires.below)) in
    six_bits c.args.n c.code-code.result c.requires.few below

pub swap_pair-requires-clause-below : goal.swap_pair-requires-clause-below
swap_pair-requires-clause-below c =
    let below = image_below c.args.n c.requires.some c.requires.few c.args.gate c.requires.fits c.args.row c.code-code.result c.requires.below (read_code _ _ _ c.code-code.ensures (c.image-image.ensures c.args.n c.requires.few c.requires.fits c.requires.below)) in
    subst (λ size. c.code-code.result < size) (sym c.codes-size.ensures) below

pub swap_pair-requires-clause-small_low : goal.swap_pair-requires-clause-small_low
swap_pair-requires-clause-small_low c =
    let order : c.args.row ≤ c.code-code.result = omega arith in
    small_at _ _ _ c.args.row _ c.args.cells.now c.codes-size.ensures c.requires.small c.args.row c.requires.below
    (turn_before_image c.args.n c.requires.some c.requires.few c.args.gate c.requires.fits c.args.row c.code-code.result (read_code _ _ _ c.code-code.ensures (c.image-image.ensures c.args.n c.requires.few c.requires.fits c.requires.below)) order)

pub swap_pair-requires-clause-small_high : goal.swap_pair-requires-clause-small_high
swap_pair-requires-clause-small_high c =
    let order : c.args.row ≤ c.code-code.result = omega arith in
    let below = image_below c.args.n c.requires.some c.requires.few c.args.gate c.requires.fits c.args.row c.code-code.result c.requires.below (read_code _ _ _ c.code-code.ensures (c.image-image.ensures c.args.n c.requires.few c.requires.fits c.requires.below)) in
    small_at _ _ _ c.args.row _ c.args.cells.now c.codes-size.ensures c.requires.small c.code-code.result below
    (turn_of_image c.args.n c.requires.some c.requires.few c.args.gate c.requires.fits c.args.row c.code-code.result c.requires.below (read_code _ _ _ c.code-code.ensures (c.image-image.ensures c.args.n c.requires.few c.requires.fits c.requires.below)) order)

pub sign_row-requires-clause-small : goal.sign_row-requires-clause-small
sign_row-requires-clause-small c =
    let order : c.args.row ≤ c.code-code.result = omega arith in
    small_at _ _ _ c.args.row _ c.args.cells.now c.codes-size.ensures c.requires.small c.args.row c.requires.below
    (turn_before_image c.args.n c.requires.some c.requires.few c.args.gate c.requires.fits c.args.row c.code-code.result (read_code _ _ _ c.code-code.ensures (c.image-image.ensures c.args.n c.requires.few c.requires.fits c.requires.below)) order)

pub returns-then-row-partner-clause-change : goal.returns-then-row-partner-clause-change
returns-then-row-partner-clause-change c =
    let below = image_below c.args.n c.requires.some c.requires.few c.args.gate c.requires.fits c.args.row c.code-code.result c.requires.below (read_code _ _ _ c.code-code.ensures (c.image-image.ensures c.args.n c.requires.few c.requires.fits c.requires.below)) in
    moved_pair c.args.n c.requires.some c.requires.few c.args.gate c.requires.fits _ c.args.row c.code-code.result c.is_negative.result c.is_negative-negative.result _ _ c.requires.below c.codes-size.ensures
    (read_code _ _ _ c.code-code.ensures (c.image-image.ensures c.args.n c.requires.few c.requires.fits c.requires.below)) c.if-row-partner.true (read_sign _ _ _ c.is_negative.ensures (c.image-back.ensures c.args.n c.requires.few c.requires.fits below))
    (read_sign _ _ _ c.is_negative-negative.ensures (c.image-image.ensures c.args.n c.requires.few c.requires.fits c.requires.below)) c.swap_pair.ensures.pair

pub returns-then-partner-row-clause-change : goal.returns-then-partner-row-clause-change
returns-then-partner-row-clause-change c =
    moved_alone c.args.n c.requires.some c.requires.few c.args.gate c.requires.fits _ c.args.row c.code-code.result c.is_negative-negative.result _ _ c.requires.below c.codes-size.ensures
    (read_code _ _ _ c.code-code.ensures (c.image-image.ensures c.args.n c.requires.few c.requires.fits c.requires.below)) c.if-partner-row.true (read_sign _ _ _ c.is_negative-negative.ensures (c.image-image.ensures c.args.n c.requires.few c.requires.fits c.requires.below)) c.sign_row.ensures.row

pub returns-else-partner-row-clause-change : goal.returns-else-partner-row-clause-change
returns-else-partner-row-clause-change c =
    moved_before c.args.n c.requires.some c.requires.few c.args.gate c.requires.fits c.args.row c.code-code.result _ c.requires.below (read_code _ _ _ c.code-code.ensures (c.image-image.ensures c.args.n c.requires.few c.requires.fits c.requires.below)) (omega arith)
