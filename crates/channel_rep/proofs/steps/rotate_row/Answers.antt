use Rattle.std.proofs.Common.{◌<◌, ◌^◌, ℕ, ap, sym, ◌∙◌, subst, arith}
use Rattle.pauli_basis.specs.Products.{commute, product_code, anti_sign}
use Rattle.pauli_basis.proofs.Masks.{six_bits}
use Rattle.channel_rep.proofs.Sweeps.{small_at, scaled_at, turned_at, left_at, turn_of_row, turn_of_low, turn_of_high}
use Rattle.channel_rep.proofs.steps.rotate_row.Goals as goal

pub overflow_cast-row : goal.overflow_cast-row
overflow_cast-row c = omega (arith, six_bits c.args.p.now.qubits c.args.row (omega arith) c.requires.below)

pub returns-then-commutes-clause-change : goal.returns-then-commutes-clause-change
returns-then-commutes-clause-change c =
    let code = c.of_code-q.ensures.whole (subst (λ (n : ℕ). c.args.row < 4 ^ n) (sym c.qubits-n.ensures.value) c.requires.below) in
    scaled_at _ _ c.args.inverse _ c.args.row _ _ c.requires.below (c.codes-size.ensures ∙ ap (λ (n : ℕ). 4 ^ n) c.qubits-n.ensures.value)
    (ap (commute c.args.p.now.qubits c.args.p.now.code) (sym code) ∙ sym c.commutes.ensures.value ∙ c.if-commutes.true) c.scale_row.ensures.row

pub returns-then-row-partner-clause-change : goal.returns-then-row-partner-clause-change
returns-then-row-partner-clause-change c =
    let code = c.of_code-q.ensures.whole (subst (λ (n : ℕ). c.args.row < 4 ^ n) (sym c.qubits-n.ensures.value) c.requires.below) in
    turned_at _ _ c.args.inverse _ c.args.row _ c.is_negative.result _ _ c.requires.below (c.codes-size.ensures ∙ ap (λ (n : ℕ). 4 ^ n) c.qubits-n.ensures.value)
    (c.code-partner.ensures ∙ c.anti_image-image.ensures.code ∙ ap (product_code c.args.p.now.code) code)
    (ap (commute c.args.p.now.qubits c.args.p.now.code) (sym code) ∙ sym c.commutes.ensures.value ∙ c.if-commutes.false)
    c.if-row-partner.true (c.is_negative.ensures ∙ c.anti_image-image.ensures.sign ∙ ap (anti_sign c.args.p.now.qubits c.args.p.now.code) code)
    c.turn_pair.ensures.pair

pub returns-else-row-partner-clause-change : goal.returns-else-row-partner-clause-change
returns-else-row-partner-clause-change c =
    let code = c.of_code-q.ensures.whole (subst (λ (n : ℕ). c.args.row < 4 ^ n) (sym c.qubits-n.ensures.value) c.requires.below) in
    left_at _ c.args.inverse _ c.args.row _ _ c.requires.below
    (c.code-partner.ensures ∙ c.anti_image-image.ensures.code ∙ ap (product_code c.args.p.now.code) code)
    (ap (commute c.args.p.now.qubits c.args.p.now.code) (sym code) ∙ sym c.commutes.ensures.value ∙ c.if-commutes.false)
    c.if-row-partner.false

pub scale_row-requires-clause-small : goal.scale_row-requires-clause-small
scale_row-requires-clause-small c =
    let code = c.of_code-q.ensures.whole (subst (λ (n : ℕ). c.args.row < 4 ^ n) (sym c.qubits-n.ensures.value) c.requires.below) in
    small_at _ _ _ c.args.row _ c.args.cells.now (c.codes-size.ensures ∙ ap (λ (n : ℕ). 4 ^ n) c.qubits-n.ensures.value) c.requires.small c.args.row c.requires.below
    (turn_of_row _ _ c.args.row (ap (commute c.args.p.now.qubits c.args.p.now.code) (sym code) ∙ sym c.commutes.ensures.value ∙ c.if-commutes.true))

pub turn_pair-requires-clause-small_low : goal.turn_pair-requires-clause-small_low
turn_pair-requires-clause-small_low c =
    let code = c.of_code-q.ensures.whole (subst (λ (n : ℕ). c.args.row < 4 ^ n) (sym c.qubits-n.ensures.value) c.requires.below) in
    small_at _ _ _ c.args.row _ c.args.cells.now (c.codes-size.ensures ∙ ap (λ (n : ℕ). 4 ^ n) c.qubits-n.ensures.value) c.requires.small c.args.row c.requires.below
    (turn_of_low _ _ c.args.row _ (c.code-partner.ensures ∙ c.anti_image-image.ensures.code ∙ ap (product_code c.args.p.now.code) code) (ap (commute c.args.p.now.qubits c.args.p.now.code) (sym code) ∙ sym c.commutes.ensures.value ∙ c.if-commutes.false) c.if-row-partner.true)

pub turn_pair-requires-clause-small_high : goal.turn_pair-requires-clause-small_high
turn_pair-requires-clause-small_high c =
    let code = c.of_code-q.ensures.whole (subst (λ (n : ℕ). c.args.row < 4 ^ n) (sym c.qubits-n.ensures.value) c.requires.below) in
    let below : c.code-partner.result < 4 ^ c.args.p.now.qubits = subst (λ (m : ℕ). m < 4 ^ c.args.p.now.qubits) (sym c.code-partner.ensures) c.anti_image-image.ensures.below in
    small_at _ _ _ c.args.row _ c.args.cells.now (c.codes-size.ensures ∙ ap (λ (n : ℕ). 4 ^ n) c.qubits-n.ensures.value) c.requires.small c.code-partner.result below
    (turn_of_high _ _ c.args.row _ (c.code-partner.ensures ∙ c.anti_image-image.ensures.code ∙ ap (product_code c.args.p.now.code) code) (ap (commute c.args.p.now.qubits c.args.p.now.code) (sym code) ∙ sym c.commutes.ensures.value ∙ c.if-commutes.false) c.if-row-partner.true)
