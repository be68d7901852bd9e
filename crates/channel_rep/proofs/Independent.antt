-- Lemmas for the crates above: the columns of a circuit's channel are linearly independent, and so no two of them agree up
-- to sign.
use Rattle.std.proofs.Common.{◌≡◌, ◌≢◌, ℕ, ◌^◌, ◌<◌, ◌≤◌, Bool, true, false, not, List, [], ◌∷◌, refl, ap, sym, ◌∙◌, inl, inr, arith}
use Rattle.std.specs.List.{AllByRecursion}
use Rattle.std.proofs.lemmas.Bool.{cond-true, cond-false, cases_eq, cases_Bool}
use Rattle.std.proofs.lemmas.Int.{ints}
use Rattle.ring_laws.specs.Matrix.{sum, product, identity}
use Rattle.ring_laws.proofs.Ring.{mul_left_comm, mul-zero}
use Rattle.ring_laws.proofs.Sums.{sum_cong, mul-sum, product-add, product_assoc, identity-product, product-identity}
use Rattle.tc_ring.specs.Surds.{Surd, surds, surd_integer, surd_plus, surd_times, surd_negative, zero_surd, one_surd, root2_surd}
use Rattle.tc_ring.proofs.Surds.{surds_laws, same_surd, surd_plus-zero, surd_times_assoc, cancel_root2_surd, cancel_root2_power}
use Rattle.pauli_basis.specs.Products.{product_code, commute, anti_sign}
use Rattle.pauli_basis.proofs.Products.{product_code-lt, product_code-back, commute-back, anti_sign-back}
use Rattle.channel_rep.specs.Gates.{image, GateFits}
use Rattle.channel_rep.specs.Tables.{SurdTable, ScaledTable, Step, by_gate, by_rotation, by_inverse_rotation, IsStep, step_table, stepped, built_on, built, IsCircuitChannel, signed, turned_over, gate_table, rotation_table}
use Rattle.channel_rep.specs.Rows.{rotated, moved}
use Rattle.channel_rep.specs.declared.gate.ChannelGate.{ChannelGate}
use Rattle.channel_rep.proofs.Images.{image-lt, image-image}
use Rattle.channel_rep.proofs.Signs.{signed_is, signed-zero, signed-opposite, zero_of_signed, turned_over-not}
use Rattle.channel_rep.proofs.Rules.{one_at, zero_at, gate_rule, rotation_rule}
use Rattle.channel_rep.proofs.Built.{root2_to}
use Rattle.channel_rep.proofs.OneUnit.{unit_is_not_zero}

-- the columns, each times the number of a column x at its place, add up to zero only where all these numbers are zero
abbrev pub HasIndependentColumns : ℕ → SurdTable → Type 0
HasIndependentColumns size m = (x : SurdTable) → ((row : ℕ) → row < size → product surds size m x row 0 ≡ zero_surd) → (k : ℕ) → k < size → x k 0 ≡ zero_surd

-- ---- steps
-- a gate moves each number to some row
gate_independent : (n : ℕ) → 0 < n → n ≤ 3 → (g : ChannelGate) → GateFits n g → HasIndependentColumns (4 ^ n) (gate_table n g)
unfolding moved
gate_independent n some few g fits x h k l =
    let low = image-lt n some few g fits k l in
    let there = sym (gate_rule n some few g fits x (image n g k).code 0 low) ∙ h (image n g k).code low in
    ap (λ j. x j 0) (sym (image-image n some few g fits k l)) ∙ zero_of_signed _ _ there

-- the sum and the difference of two numbers are zero only where both are
both_ways : (b : Bool) (x y : Surd) → surd_plus x (signed b y) ≡ zero_surd → surd_plus y (signed (not b) x) ≡ zero_surd → x ≡ zero_surd
unfolding signed surd_plus surd_negative surd_integer
both_ways true x y e d = same_surd (omega (arith, ints, ap (λ (s : Surd). s.a) e, ap (λ (s : Surd). s.a) d)) (omega (arith, ints, ap (λ (s : Surd). s.b) e, ap (λ (s : Surd). s.b) d))
both_ways false x y e d = same_surd (omega (arith, ints, ap (λ (s : Surd). s.a) e, ap (λ (s : Surd). s.a) d)) (omega (arith, ints, ap (λ (s : Surd). s.b) e, ap (λ (s : Surd). s.b) d))

module _ (n : ℕ) (inverse : Bool) (p : ℕ) where
  -- a row with which the rotation commutes
  pub commuting_row : (m : SurdTable) (r c : ℕ) → commute n p r ≡ true → rotated n inverse p m r c ≡ surd_times root2_surd (m r c)
  unfolding rotated
  commuting_row m r c e = cond-true (commute n p r) _ _ e

  -- and one with which it doesn't
  pub mixed_row : (m : SurdTable) (r c : ℕ) → commute n p r ≡ false
      → rotated n inverse p m r c ≡ surd_plus (m r c) (signed (turned_over inverse (not (anti_sign n p r))) (m (product_code p r) c))
  unfolding rotated
  mixed_row m r c e = cond-false (commute n p r) _ _ e

  -- a rotation adds and subtracts rows in pairs
  rotation_independent : p < 4 ^ n → p ≢ 0 → HasIndependentColumns (4 ^ n) (rotation_table n inverse p)
  rotation_independent lp d x h k l = elim (cases_Bool (commute n p k)) [
    | inl e ↦ cancel_root2_surd (x k 0) zero_surd (sym (commuting_row x k 0 e) ∙ row k l ∙ sym (mul-zero surds_laws root2_surd))
    | inr e ↦ both_ways (turned_over inverse (not (anti_sign n p k))) (x k 0) (x (product_code p k) 0) (sym (mixed_row x k 0 e) ∙ row k l) (partner e)
  ]
    where
      row : (r : ℕ) → r < 4 ^ n → rotated n inverse p x r 0 ≡ zero_surd
      row r m = sym (rotation_rule n inverse p lp d x r 0 m) ∙ h r m

      partner : commute n p k ≡ false → surd_plus (x (product_code p k) 0) (signed (not (turned_over inverse (not (anti_sign n p k)))) (x k 0)) ≡ zero_surd
      partner e =
          let sign = turned_over-not inverse (not (anti_sign n p k)) in
          let other = ap (λ b. turned_over inverse (not b)) (anti_sign-back n p k e) ∙ sign in
          (λ i. surd_plus (x (product_code p k) 0) (signed (sym other i) (x (sym (product_code-back p k) i) 0)))
          ∙ sym (mixed_row x (product_code p k) 0 (commute-back n p k ∙ e)) ∙ row (product_code p k) (product_code-lt n p k lp l)

-- the table of each step has independent columns
step_independent : (n : ℕ) → 0 < n → n ≤ 3 → (s : Step) → IsStep n s → HasIndependentColumns (4 ^ n) (step_table n s)
step_independent n some few (by_gate g) fits = gate_independent n some few g fits
step_independent n some few (by_rotation p) fits = rotation_independent n false p fits.0 fits.1
step_independent n some few (by_inverse_rotation p) fits = rotation_independent n true p fits.0 fits.1

-- ---- lists of steps
-- a product of two such tables
product_independent : (size : ℕ) (t m : SurdTable) → HasIndependentColumns size t → HasIndependentColumns size m → HasIndependentColumns size (product surds size t m)
product_independent size t m left right x h = right x (left (product surds size m x) (λ r l. sym (product_assoc surds_laws size size t m x r 0) ∙ h r l))

-- the identity
identity_independent : (size : ℕ) → HasIndependentColumns size (identity surds)
identity_independent size x h k l = sym (identity-product surds_laws size x k 0 l) ∙ h k l

-- steps behind such a table
built_on_independent : (n : ℕ) → 0 < n → n ≤ 3 → (steps : List Step) → AllByRecursion (IsStep n) steps → (m : ScaledTable) → HasIndependentColumns (4 ^ n) m.table
    → HasIndependentColumns (4 ^ n) (built_on n m steps).table
built_on_independent n some few [] all m h = h
built_on_independent n some few (s ∷ steps) all m h =
    built_on_independent n some few steps all.1 (stepped n s m) (product_independent (4 ^ n) (step_table n s) m.table (step_independent n some few s all.0) h)

-- a factor goes into the left table
factor_left : (size : ℕ) (y : Surd) (m x : SurdTable) (r c : ℕ) → surd_times y (product surds size m x r c) ≡ product surds size (λ r k. surd_times y (m r k)) x r c
unfolding product
factor_left size y m x r c = mul-sum surds_laws size y (λ k. surd_times (m r k) (x k c)) ∙ sum_cong surds_laws size _ _ (λ k l. sym (surd_times_assoc y (m r k) (x k c)))

-- a circuit's channel has independent columns
pub circuit_independent : (n : ℕ) → 0 < n → n ≤ 3 → (m : ScaledTable) → IsCircuitChannel n m → HasIndependentColumns (4 ^ n) m.table
unfolding product
circuit_independent n some few m circuit x h =
    built_on_independent n some few circuit.0 circuit.1 (record { table = identity surds; exponent = 0 }) (identity_independent (4 ^ n)) x
    (λ r l. cancel_root2_power m.exponent _ _ (
    factor_left (4 ^ n) (root2_to m.exponent) whole.table x r 0
    ∙ sum_cong surds_laws (4 ^ n) _ _ (λ k j. ap (λ y. surd_times y (x k 0)) (sym (circuit.2 r k l j)))
    ∙ sym (factor_left (4 ^ n) (root2_to whole.exponent) m.table x r 0)
    ∙ ap (surd_times (root2_to whole.exponent)) (h r l)
    ∙ mul-zero surds_laws (root2_to whole.exponent) ∙ sym (mul-zero surds_laws (root2_to m.exponent))))
  where
    whole : ScaledTable
    whole = built n circuit.0

-- ---- no two columns agree up to sign
-- a table times a column of the identity with a sign is that column of the table with the sign
pub signed_column : (size : ℕ) (b : Bool) (m : SurdTable) (r s : ℕ) → s < size → sum surds size (λ k. surd_times (m r k) (signed b (identity surds k s))) ≡ signed b (m r s)
unfolding product
signed_column size b m r s l =
    sum_cong surds_laws size _ _ (λ k h. ap (surd_times (m r k)) (signed_is b (identity surds k s)) ∙ mul_left_comm surds_laws (m r k) (signed b one_surd) (identity surds k s))
    ∙ sym (mul-sum surds_laws size (signed b one_surd) (λ k. surd_times (m r k) (identity surds k s)))
    ∙ ap (surd_times (signed b one_surd)) (plain_column size m r s l) ∙ sym (signed_is b (m r s))
  where
    plain_column : (size : ℕ) (m : SurdTable) (r s : ℕ) → s < size → sum surds size (λ k. surd_times (m r k) (identity surds k s)) ≡ m r s
    plain_column size m r s l = product-identity surds_laws size m r s l

-- columns that agree up to sign are one
pub one_column : (size : ℕ) (m : SurdTable) → HasIndependentColumns size m → (c d : ℕ) → c < size → d < size → (negative : Bool)
    → ((row : ℕ) → row < size → m row c ≡ signed negative (m row d)) → c ≡ d
unfolding product
one_column size m independent c d lc ld negative agree = elim (cases_eq c d) [
  | inl e ↦ e
  | inr apart ↦ absurd (unit_is_not_zero one_surd (inl refl) (sym (one_there apart) ∙ independent difference nothing c lc))
]
  where
    difference : SurdTable
    difference = λ k _. surd_plus (identity surds k c) (signed (not negative) (identity surds k d))

    nothing : (row : ℕ) → row < size → product surds size m difference row 0 ≡ zero_surd
    nothing row l =
        product-add surds_laws size m (λ k _. identity surds k c) (λ k _. signed (not negative) (identity surds k d)) row 0
        ∙ (λ i. surd_plus (product-identity surds_laws size m row c lc i) (signed_column size (not negative) m row d ld i))
        ∙ ap (λ x. surd_plus x (signed (not negative) (m row d))) (agree row l) ∙ signed-opposite negative (m row d)

    one_there : c ≢ d → difference c 0 ≡ one_surd
    one_there apart =
        (λ i. surd_plus (one_at c c refl i) (signed (not negative) (zero_at c d apart i)))
        ∙ ap (surd_plus one_surd) (signed-zero (not negative)) ∙ surd_plus-zero one_surd
