-- Lemmas for the crates above: the channel of a rotation by a Pauli, and of its inverse.
use Rattle.std.proofs.Common.{◌≡◌, ℕ, ◌^◌, ◌<◌, Bool, true, false, not, T, [], ◌∷◌, refl, ap, sym, ◌∙◌}
use Rattle.std.proofs.lemmas.Bool.{cond-true, cond-false}
use Rattle.ring_laws.specs.Ring.{power}
use Rattle.ring_laws.specs.Matrix.{product, identity}
use Rattle.ring_laws.specs.Cyclotomic.{Zω, cyclotomics, integer, plus, times, negative, ω, root2, one_number}
use Rattle.ring_laws.proofs.Ring.{power-one}
use Rattle.ring_laws.proofs.Reader.{ring, reads}
use Rattle.tc_bridge.proofs.Matrices.{Alike, ◌⊙◌, alike, alike-refl, alike-sym, assoc, add-cong, matrix_add, multiple, multiple-cong, multiple-factor, multiple-multiple, multiple-one, multiple-product, product-multiple, combination-weights, combination-add, combination-multiple, combination-identity, product-left, product-right, one-product}
use Rattle.ring_laws.proofs.Cyclotomic.{cyclotomics_laws as laws, one-times}
use Rattle.tc_ring.specs.Surds.{surds, root2_surd, embed}
use Rattle.tc_ring.proofs.Surds.{embed-plus, embed-times, embed-root2}
use Rattle.tc_circuit.specs.Gate.{Table}
use Rattle.pauli_basis.specs.Products.{product_code, commute, anti_sign}
use Rattle.pauli_basis.proofs.Products.{product_code-lt, commute-swap}
use Rattle.channel_rep.specs.Tables.{turned_over, rotation_table}
use Rattle.tc_bridge.specs.Pauli.{imaginary, pauli_matrix, sign}
use Rattle.tc_bridge.specs.Rotation.{axis}
use Rattle.tc_bridge.specs.Channel.{IsChannel}
use Rattle.tc_bridge.proofs.Decide.{same_number, number_equal}
use Rattle.tc_bridge.proofs.Powers.{sign-times}
use Rattle.tc_bridge.proofs.Paulis.{pauli_square}
use Rattle.tc_bridge.proofs.Commuting.{pauli_swap, pauli_anti}
use Rattle.tc_bridge.proofs.Embeddings.{embed-identity, embed-signed}
use Rattle.tc_bridge.proofs.Channels.{spread, channel_from}
use Rattle.tc_bridge.proofs.Axes.{axis-product, product-axis}

-- ω, or its inverse
abbrev pub step_turn : Bool → Zω
step_turn false = ω
step_turn true = power cyclotomics ω 7

-- 2·R(P), or twice its inverse
abbrev pub turned_axis : ℕ → Bool → ℕ → Table
turned_axis n inverse p = axis n (plus one_number (step_turn inverse)) (plus one_number (negative (step_turn inverse))) p

module _ (n p q : ℕ) where
  -- where P and Q commute, so do R(P) and Q
  commuting : (a b : Zω) → commute n p q ≡ true → Alike cyclotomics (2 ^ n) (product cyclotomics (2 ^ n) (axis n a b p) (pauli_matrix n q)) (product cyclotomics (2 ^ n) (pauli_matrix n q) (axis n a b p))
  unfolding multiple sign
  commuting a b e =
      axis-product n a b p (pauli_matrix n q)
      ⊙ add-cong laws (multiple-cong laws a (alike (λ r c. refl)))
      (multiple-cong laws b (alike (λ r c. pauli_swap n p q r c ∙ ap (λ s. times (sign (not s)) (product cyclotomics (2 ^ n) (pauli_matrix n q) (pauli_matrix n p) r c)) e ∙ one-times _)))
      ⊙ alike-sym (product-axis n a b p (pauli_matrix n q))

-- ---- where they do not, with −i·P·Q = σ·S
minus_imaginary-imaginary : times imaginary (negative imaginary) ≡ one_number
unfolding power integer times negative ω imaginary
minus_imaginary-imaginary = refl

module _ (n p q : ℕ) (apart : commute n p q ≡ false) where
  -- σ·S
  image : Table
  image = multiple cyclotomics (sign (anti_sign n p q)) (pauli_matrix n (product_code p q))

  -- σ·S·U
  image-product : (u : Table) → Alike cyclotomics (2 ^ n) (product cyclotomics (2 ^ n) image u) (multiple cyclotomics (sign (anti_sign n p q)) (product cyclotomics (2 ^ n) (pauli_matrix n (product_code p q)) u))
  unfolding image
  image-product u = multiple-product laws _ _ u

  -- P·Q is i·σ·S
  forward : Alike cyclotomics (2 ^ n) (product cyclotomics (2 ^ n) (pauli_matrix n p) (pauli_matrix n q)) (multiple cyclotomics imaginary image)
  unfolding image multiple
  forward =
      alike-sym (multiple-multiple laws imaginary (negative imaginary) _ ⊙ multiple-factor laws minus_imaginary-imaginary _ ⊙ multiple-one laws _)
      ⊙ multiple-cong laws imaginary (alike (λ r c. pauli_anti n p q r c apart))

  -- Q·P is −i·σ·S
  backward : Alike cyclotomics (2 ^ n) (product cyclotomics (2 ^ n) (pauli_matrix n q) (pauli_matrix n p)) (multiple cyclotomics (sign true) (product cyclotomics (2 ^ n) (pauli_matrix n p) (pauli_matrix n q)))
  unfolding multiple
  backward = alike (λ r c. pauli_swap n q p r c ∙ ap (λ s. times (sign (not s)) (product cyclotomics (2 ^ n) (pauli_matrix n p) (pauli_matrix n q) r c)) (commute-swap n q p ∙ apart))

  -- σ·S·P is i·Q
  turned_back : Alike cyclotomics (2 ^ n) (product cyclotomics (2 ^ n) image (pauli_matrix n p)) (multiple cyclotomics (times (negative imaginary) (sign true)) (pauli_matrix n q))
  unfolding image multiple
  turned_back =
      product-right laws (alike-sym (alike (λ r c. pauli_anti n p q r c apart))) (pauli_matrix n p)
      ⊙ multiple-product laws (negative imaginary) _ (pauli_matrix n p)
      ⊙ multiple-cong laws _ (assoc laws _ _ _ ⊙ product-left laws _ backward ⊙ product-multiple laws _ _ _
      ⊙ multiple-cong laws _ (alike-sym (assoc laws _ _ _) ⊙ product-right laws (pauli_square n p) _ ⊙ one-product laws _))
      ⊙ multiple-multiple laws _ _ _

-- the two equations between 1 + w, 1 − w, i and √2 on which a rotation's channel rests
abbrev on_q : Zω → Bool → Bool
on_q w b = same_number (times root2 (plus one_number w)) (plus (plus one_number w) (times (sign b) (times (plus one_number (negative w)) (times (negative imaginary) (sign true)))))

-- the second
abbrev on_s : Zω → Bool → Bool
on_s w b =
    same_number (times root2 (times (plus one_number (negative w)) imaginary)) (plus (times (sign b) (plus one_number w)) (times (plus one_number (negative w)) (times (sign true) imaginary)))

-- computed for both turns
on_q_computed : (inverse : Bool) → T (on_q (step_turn inverse) inverse)
unfolding power integer plus times negative ω root2 imaginary sign
on_q_computed true = tt
on_q_computed false = tt

on_s_computed : (inverse : Bool) → T (on_s (step_turn inverse) inverse)
unfolding power integer plus times negative ω root2 imaginary sign
on_s_computed true = tt
on_s_computed false = tt

-- as equations
on_q_is : (inverse : Bool) → let w = step_turn inverse in times root2 (plus one_number w) ≡ plus (plus one_number w) (times (sign inverse) (times (plus one_number (negative w)) (times (negative imaginary) (sign true))))
on_q_is inverse = number_equal _ _ (on_q_computed inverse)

on_s_is : (inverse : Bool) → let w = step_turn inverse in
    times root2 (times (plus one_number (negative w)) imaginary) ≡ plus (times (sign inverse) (plus one_number w)) (times (plus one_number (negative w)) (times (sign true) imaginary))
on_s_is inverse = number_equal _ _ (on_s_computed inverse)

-- one entry of √2·U·Q = Q·U ± σ·S·U, from those of Q and σ·S
gather : (inverse : Bool) (x y : Zω) → let a = plus one_number (step_turn inverse) in let b = plus one_number (negative (step_turn inverse)) in
    times root2 (plus (times a x) (times b (times imaginary y)))
    ≡ plus (plus (times a x) (times b (times (sign true) (times imaginary y)))) (times (sign inverse) (plus (times a y) (times b (times (times (negative imaginary) (sign true)) x))))
gather inverse x y =
    let w = step_turn inverse in
    let a = plus one_number w in
    let b = plus one_number (negative w) in
    front a b imaginary x y
    ∙ (λ i. plus (times (on_q_is inverse i) x) (times (on_s_is inverse i) y))
    ∙ back a b (sign inverse) (times (negative imaginary) (sign true)) (sign true) imaginary x y
  where
    front : (a b i x y : Zω) → times root2 (plus (times a x) (times b (times i y))) ≡ plus (times (times root2 a) x) (times (times root2 (times b i)) y)
    front a b i x y = ring laws (a ∷ b ∷ i ∷ x ∷ y ∷ root2 ∷ []) (search reads depth 30 parts 0 fits 10000) tt

    back : (a b t m s i x y : Zω)
        → plus (times (plus a (times t (times b m))) x) (times (plus (times t a) (times b (times s i))) y)
        ≡ plus (plus (times a x) (times b (times s (times i y)))) (times t (plus (times a y) (times b (times m x))))
    back a b t m s i x y = ring laws (a ∷ b ∷ t ∷ m ∷ s ∷ i ∷ x ∷ y ∷ []) (search reads depth 30 parts 0 fits 10000) tt

-- the same equation of matrices
gathered : {n : ℕ} (inverse : Bool) (x y : Table) → let a = plus one_number (step_turn inverse) in let b = plus one_number (negative (step_turn inverse)) in
    Alike cyclotomics n (multiple cyclotomics root2 (matrix_add cyclotomics (multiple cyclotomics a x) (multiple cyclotomics b (multiple cyclotomics imaginary y))))
    (matrix_add cyclotomics (matrix_add cyclotomics (multiple cyclotomics a x) (multiple cyclotomics b (multiple cyclotomics (sign true) (multiple cyclotomics imaginary y))))
    (multiple cyclotomics (sign inverse) (matrix_add cyclotomics (multiple cyclotomics a y) (multiple cyclotomics b (multiple cyclotomics (times (negative imaginary) (sign true)) x)))))
unfolding multiple matrix_add
gathered inverse x y = alike (λ r c. gather inverse (x r c) (y r c))

-- √2·U·Q is Q·U ± σ·S·U, for U twice R(P), and with the other sign for its inverse
anticommuting : (n p q : ℕ) (inverse : Bool) (apart : commute n p q ≡ false) → let u = turned_axis n inverse p in
    Alike cyclotomics (2 ^ n) (multiple cyclotomics root2 (product cyclotomics (2 ^ n) u (pauli_matrix n q)))
    (matrix_add cyclotomics (product cyclotomics (2 ^ n) (pauli_matrix n q) u) (multiple cyclotomics (sign inverse) (product cyclotomics (2 ^ n) (image n p q apart) u)))
anticommuting n p q inverse apart =
    let a = plus one_number (step_turn inverse) in
    let b = plus one_number (negative (step_turn inverse)) in
    let y = image n p q apart in
    multiple-cong laws root2 (axis-product n a b p (pauli_matrix n q) ⊙ add-cong laws (alike-refl _) (multiple-cong laws b (forward n p q apart)))
    ⊙ gathered inverse (pauli_matrix n q) y
    ⊙ add-cong laws
    (add-cong laws (alike-refl _) (multiple-cong laws b (alike-sym (backward n p q apart ⊙ multiple-cong laws _ (forward n p q apart)))) ⊙ alike-sym (product-axis n a b p (pauli_matrix n q)))
    (multiple-cong laws _ (add-cong laws (alike-refl _) (multiple-cong laws b (alike-sym (turned_back n p q apart))) ⊙ alike-sym (product-axis n a b p y)))

-- ---- the channel
-- the entry of a rotation's table at a column whose Pauli commutes
table_commuting : (n : ℕ) (inverse : Bool) (p q k : ℕ) → commute n p q ≡ true → embed (rotation_table n inverse p k q) ≡ times root2 (identity cyclotomics k q)
unfolding rotation_table
table_commuting n inverse p q k e =
    ap embed (cond-true (commute n p q) _ _ e) ∙ embed-times root2_surd (identity surds k q) ∙ (λ i. times (embed-root2 i) (embed-identity k q i))

-- and at one whose Pauli does not
table_anticommuting : (n : ℕ) (inverse : Bool) (p q k : ℕ) → commute n p q ≡ false
    → embed (rotation_table n inverse p k q) ≡ plus (identity cyclotomics k q) (times (times (sign inverse) (sign (anti_sign n p q))) (identity cyclotomics k (product_code p q)))
unfolding rotation_table
table_anticommuting n inverse p q k e =
    ap embed (cond-false (commute n p q) _ _ e) ∙ embed-plus _ _
    ∙ (λ i. plus (embed-identity k q i) ((embed-signed (turned_over inverse (anti_sign n p q)) (identity surds k (product_code p q)) ∙ (λ j. times (sym (sign-times inverse (anti_sign n p q)) j) (embed-identity k (product_code p q) j))) i))

-- the table of a rotation is its channel
pub rotation_channel : (n : ℕ) (inverse : Bool) (p : ℕ) → p < 4 ^ n → IsChannel n (turned_axis n inverse p) (record { table = rotation_table n inverse p; exponent = 1 })
rotation_channel n inverse p lp = channel_from n u _ (λ q lq. multiple-factor laws (power-one laws root2) _ ⊙ by q lq (commute n p q) refl)
  where
    u : Table
    u = turned_axis n inverse p

    by : (q : ℕ) → q < 4 ^ n → (b : Bool) → commute n p q ≡ b
        → Alike cyclotomics (2 ^ n) (multiple cyclotomics root2 (product cyclotomics (2 ^ n) u (pauli_matrix n q))) (spread n (λ k. embed (rotation_table n inverse p k q)) u)
    by q lq true e =
        multiple-cong laws root2 (commuting n p q _ _ e ⊙ alike-sym (combination-identity laws (4 ^ n) q _ lq))
        ⊙ alike-sym (combination-weights laws (4 ^ n) _ _ _ (λ k l. table_commuting n inverse p q k e) ⊙ combination-multiple laws (4 ^ n) root2 _ _)
    by q lq false e =
        let s = product_code p q in
        anticommuting n p q inverse e
        ⊙ add-cong laws
        (alike-sym (combination-identity laws (4 ^ n) q _ lq))
        (multiple-cong laws _ (image-product n p q e u) ⊙ multiple-multiple laws _ _ _ ⊙ multiple-cong laws _ (alike-sym (combination-identity laws (4 ^ n) s _ (product_code-lt n p q lp lq))) ⊙ alike-sym (combination-multiple laws (4 ^ n) _ _ _))
        ⊙ alike-sym (combination-weights laws (4 ^ n) _ _ _ (λ k l. table_anticommuting n inverse p q k e) ⊙ combination-add laws (4 ^ n) _ _ _)
