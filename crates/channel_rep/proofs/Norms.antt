-- Lemmas for the crates above: tables with orthogonal columns: products and moved rows have them too, so each circuit's channel has. Their norm bounds
-- each entry.
use Rattle.std.proofs.Common.{◌≡◌, ◌≢◌, ℕ, zero, suc, ◌+◌, ◌*◌, ◌^◌, ◌<◌, ◌≤◌, Bool, true, false, not, List, [], ◌∷◌, refl, ap, sym, ◌∙◌, subst, inl, inr, arith, lit<}
use Rattle.std.specs.Prelude.{pos, ◌+ℤ◌, ◌*ℤ◌, nat_abs}
use Rattle.std.specs.List.{AllByRecursion}
use Rattle.std.proofs.lemmas.Bool.{cases_eq, cases_lt, cases_Bool, cond-true, cond-false}
use Rattle.std.proofs.lemmas.Int.{ints}
use Rattle.std.proofs.lemmas.Nat.{pow-add, pow_pos, mul-lt, mul-le}
use Rattle.std.proofs.Math.Nat.{pow-le-pow_right}
use Rattle.ring_laws.specs.Ring.{integers, power}
use Rattle.ring_laws.specs.Matrix.{sum, product, identity, Agree}
use Rattle.ring_laws.proofs.Ring.{mul_left_comm, mul_mul_comm, one-mul, zero-mul}
use Rattle.ring_laws.proofs.Sums.{sum_cong, sum_swap, sum_single, mul-sum, product_assoc, identity-product}
use Rattle.ring_laws.proofs.Integers.{integers_laws}
use Rattle.ring_laws.proofs.Squares.{square_is}
use Rattle.tc_ring.specs.Surds.{Surd, surds, surd_integer, surd_plus, surd_negative, surd_times, one_surd, root2_surd, SurdWithin}
use Rattle.tc_ring.proofs.Surds.{surds_laws, same_surd, surd_times_assoc, surd_times_comm, surd_times-one, surd_integer-times, root2_surd-squared, cancel_root2_power}
use Rattle.pauli_basis.specs.Products.{product_code, commute, anti_sign}
use Rattle.pauli_basis.proofs.Products.{product_code-back, commute-back, anti_sign-back}
use Rattle.channel_rep.specs.Gates.{image, GateFits}
use Rattle.channel_rep.specs.Tables.{SurdTable, ScaledTable, Step, by_gate, by_rotation, by_inverse_rotation, IsStep, step_table, step_exponent, stepped, built_on, built, SameTable, IsCircuitChannel, signed, turned_over, gate_table, rotation_table}
use Rattle.channel_rep.specs.Rows.{moved}
use Rattle.channel_rep.specs.Conjugations.{PauliMap, image_of, IsPauliMap, MovesRows}
use Rattle.channel_rep.specs.Norms.{norm, HasNorm, transposed, HasOrthogonalColumns}
use Rattle.channel_rep.specs.declared.gate.ChannelGate.{ChannelGate}
use Rattle.channel_rep.proofs.Images.{image-lt, image-image}
use Rattle.channel_rep.proofs.Signs.{signed-zero, signed-twice, times-signed}
use Rattle.channel_rep.proofs.Rules.{one_at, zero_at, same_entry, signed_row, entry_of, row_entry, gate_rule, rotation_rule}
use Rattle.channel_rep.proofs.Built.{root2_to}
use Rattle.channel_rep.proofs.Moves.{source}
use Rattle.channel_rep.proofs.Independent.{commuting_row, mixed_row}

-- 2^k among the numbers a + b·√2
abbrev pub two_to : ℕ → Surd
two_to k = surd_integer (pos (2 ^ k))

-- exponents add up
two_to-add : (j k : ℕ) → two_to (j + k) ≡ surd_times (two_to j) (two_to k)
two_to-add j k = ap (λ m. surd_integer (pos m)) (pow-add 2 j k) ∙ surd_integer-times (pos (2 ^ j)) (pos (2 ^ k))

-- 2^k is the square of √2^k
two_to_is : (k : ℕ) → two_to k ≡ surd_times (root2_to k) (root2_to k)
unfolding power
two_to_is zero = sym (surd_times-one one_surd)
two_to_is (suc k) =
    (let e : suc k ≡ 1 + k = omega arith in ap (λ m. two_to m) e) ∙ two_to-add 1 k ∙ (λ i. surd_times (sym root2_surd-squared i) (two_to_is k i)) ∙ mul_mul_comm surds_laws root2_surd root2_surd (root2_to k) (root2_to k)

-- a factor 2^k cancels
cancel_two_to : (k : ℕ) (x y : Surd) → surd_times (two_to k) x ≡ surd_times (two_to k) y → x ≡ y
cancel_two_to k x y h =
    let at = λ (z : Surd). ap (λ t. surd_times t z) (two_to_is k) ∙ surd_times_assoc (root2_to k) (root2_to k) z in
    cancel_root2_power k x y (cancel_root2_power k _ _ (sym (at x) ∙ h ∙ at y))

-- ---- products
-- the identity
pub identity_orthogonal : (size : ℕ) → HasOrthogonalColumns size 0 (identity surds)
unfolding product
identity_orthogonal size r c l m =
    sum_cong surds_laws size _ _ (λ k h. ap (λ x. surd_times x (identity surds k c)) (same_entry k r r k sym sym))
    ∙ identity_row ∙ sym (one-mul surds_laws (identity surds r c))
  where
    identity_row : sum surds size (λ k. surd_times (identity surds r k) (identity surds k c)) ≡ identity surds r c
    identity_row = identity-product surds_laws size (identity surds) r c l

-- tables with the same entries
pub agree_orthogonal : (size k : ℕ) (m m' : SurdTable) → Agree surds size m' m → HasOrthogonalColumns size k m → HasOrthogonalColumns size k m'
unfolding product
agree_orthogonal size k m m' agree h r c l l' =
    sum_cong surds_laws size _ _ (λ j b i. surd_times (agree j r b l i) (agree j c b l' i)) ∙ h r c l l'

-- the rows of a product are the columns of the product the other way round
transposed_product : (size : ℕ) (a b : SurdTable) (r c : ℕ) → product surds size a b c r ≡ product surds size (transposed b) (transposed a) r c
unfolding product
transposed_product size a b r c = sum_cong surds_laws size _ _ (λ k l. surd_times_comm (a c k) (b k r))

-- a product of two such tables is one: (a·b)ᵀ·(a·b) is bᵀ·(aᵀ·a)·b
pub product_orthogonal : (size j k : ℕ) (a b : SurdTable) → HasOrthogonalColumns size j a → HasOrthogonalColumns size k b → HasOrthogonalColumns size (j + k) (product surds size a b)
unfolding product
product_orthogonal size j k a b ha hb r c l l' =
    sum_cong surds_laws size _ _ (λ i h. ap (λ x. surd_times x (product surds size a b i c)) (transposed_product size a b r i))
    ∙ product_assoc surds_laws size size (transposed b) (transposed a) (product surds size a b) r c
    ∙ sum_cong surds_laws size _ _ (λ i h. ap (surd_times (b i r)) (inner i h) ∙ mul_left_comm surds_laws (b i r) (two_to j) (b i c))
    ∙ sym (mul-sum surds_laws size (two_to j) (λ i. surd_times (b i r) (b i c)))
    ∙ ap (surd_times (two_to j)) (hb r c l l')
    ∙ sym (surd_times_assoc (two_to j) (two_to k) (identity surds r c))
    ∙ ap (λ x. surd_times x (identity surds r c)) (sym (two_to-add j k))
  where
    plain : (i : ℕ) → i < size → sum surds size (λ x. surd_times (identity surds i x) (b x c)) ≡ b i c
    plain i h = identity-product surds_laws size b i c h

    inner : (i : ℕ) → i < size → product surds size (transposed a) (product surds size a b) i c ≡ surd_times (two_to j) (b i c)
    inner i h =
        sym (product_assoc surds_laws size size (transposed a) a b i c)
        ∙ sum_cong surds_laws size _ _ (λ x lx. ap (λ y. surd_times y (b x c)) (ha i x h lx) ∙ surd_times_assoc (two_to j) (identity surds i x) (b x c))
        ∙ sym (mul-sum surds_laws size (two_to j) (λ x. surd_times (identity surds i x) (b x c))) ∙ ap (surd_times (two_to j)) (plain i h)

-- ---- steps
-- the rows of a rotation's table are the columns of its inverse's
transposed_rotation : (n : ℕ) (inverse : Bool) (p : ℕ) → p ≢ 0 → (r c : ℕ) → rotation_table n inverse p c r ≡ rotation_table n (not inverse) p r c
unfolding rotation_table
transposed_rotation n inverse p d r c =
    row_entry n inverse p c r d
    ∙ (λ i. entry_of (commute n p c) (same_entry c r r c sym sym i) (other inverse (anti_sign n p c) i) (same_entry (product_code p c) r r (product_code p c) sym sym i))
  where
    other : (inverse b : Bool) → turned_over inverse (not b) ≡ turned_over (not inverse) b
    other true true = refl
    other true false = refl
    other false true = refl
    other false false = refl

-- what a rotation and its inverse make of two entries
twice : (inverse b : Bool) (x y : Surd)
    → surd_plus (surd_plus x (signed (turned_over inverse (not b)) y)) (signed (turned_over (not inverse) (not b)) (surd_plus y (signed (turned_over inverse (not (not b))) x))) ≡ surd_times (two_to 1) x
unfolding signed surd_plus surd_negative surd_times surd_integer
twice true true x y = same_surd (omega (arith, ints)) (omega (arith, ints))
twice true false x y = same_surd (omega (arith, ints)) (omega (arith, ints))
twice false true x y = same_surd (omega (arith, ints)) (omega (arith, ints))
twice false false x y = same_surd (omega (arith, ints)) (omega (arith, ints))

-- a rotation's table and its inverse's make 2
inverse_rotation : (n : ℕ) (inverse : Bool) (p : ℕ) → p < 4 ^ n → p ≢ 0 → (r c : ℕ) → r < 4 ^ n
    → product surds (4 ^ n) (rotation_table n (not inverse) p) (rotation_table n inverse p) r c ≡ surd_times (two_to 1) (identity surds r c)
inverse_rotation n inverse p lp d r c l =
    rotation_rule n (not inverse) p lp d (rotation_table n inverse p) r c l
    ∙ elim (cases_Bool (commute n p r)) [
      | inl e ↦
          commuting_row n (not inverse) p (rotation_table n inverse p) r c e
          ∙ ap (surd_times root2_surd) (row_entry n inverse p r c d ∙ cond-true (commute n p r) _ _ e)
          ∙ sym (surd_times_assoc root2_surd root2_surd (identity surds r c)) ∙ ap (λ x. surd_times x (identity surds r c)) root2_surd-squared
      | inr e ↦
          mixed_row n (not inverse) p (rotation_table n inverse p) r c e
          ∙ (λ i. surd_plus (here e i) (signed (turned_over (not inverse) (not (anti_sign n p r))) (there e i)))
          ∙ twice inverse (anti_sign n p r) (identity surds r c) (identity surds (product_code p r) c)
    ]
  where
    here : commute n p r ≡ false → rotation_table n inverse p r c ≡ surd_plus (identity surds r c) (signed (turned_over inverse (not (anti_sign n p r))) (identity surds (product_code p r) c))
    here e = row_entry n inverse p r c d ∙ cond-false (commute n p r) _ _ e

    there : commute n p r ≡ false
        → rotation_table n inverse p (product_code p r) c ≡ surd_plus (identity surds (product_code p r) c) (signed (turned_over inverse (not (not (anti_sign n p r)))) (identity surds r c))
    there e =
        row_entry n inverse p (product_code p r) c d ∙ cond-false (commute n p (product_code p r)) _ _ (commute-back n p r ∙ e)
        ∙ (λ i. surd_plus (identity surds (product_code p r) c) (signed (turned_over inverse (not (anti_sign-back n p r e i))) (identity surds (product_code-back p r i) c)))

module _ (n : ℕ) (some : 0 < n) (few : n ≤ 3) where
  -- the columns of a gate's table
  gate_columns : (g : ChannelGate) → GateFits n g → HasOrthogonalColumns (4 ^ n) 0 (gate_table n g)
  unfolding product gate_table
  gate_columns g fits r c l l' =
      sum_cong surds_laws (4 ^ n) _ _ (λ k h. ap (λ x. surd_times (signed (image n g r).is_negative x) (gate_table n g k c)) (same_entry k (image n g r).code (image n g r).code k sym sym))
      ∙ signed_row (4 ^ n) (image n g r).is_negative (image n g r).code c (gate_table n g) (image-lt n some few g fits r l)
      ∙ elim (cases_eq r c) [
        | inl e ↦
            ap (λ j. signed (image n g r).is_negative (signed (image n g j).is_negative (identity surds (image n g r).code (image n g j).code))) (sym e)
            ∙ signed-twice (image n g r).is_negative _ ∙ one_at _ _ refl ∙ sym (one-mul surds_laws (identity surds r c) ∙ one_at r c e)
        | inr d ↦
            ap (λ x. signed (image n g r).is_negative (signed (image n g c).is_negative x)) (zero_at _ _ (λ e. d (one_source e)))
            ∙ ap (signed (image n g r).is_negative) (signed-zero (image n g c).is_negative) ∙ signed-zero (image n g r).is_negative
            ∙ sym (one-mul surds_laws (identity surds r c) ∙ zero_at r c d)
      ]
    where
      one_source : (image n g r).code ≡ (image n g c).code → r ≡ c
      one_source e = sym (image-image n some few g fits r l) ∙ ap (λ j. (image n g j).code) e ∙ image-image n some few g fits c l'

  -- and its rows
  gate_rows : (g : ChannelGate) → GateFits n g → HasOrthogonalColumns (4 ^ n) 0 (transposed (gate_table n g))
  unfolding moved gate_table
  gate_rows g fits r c l l' =
      gate_rule n some few g fits (transposed (gate_table n g)) r c l
      ∙ signed-twice (image n g (image n g r).code).is_negative (identity surds c (image n g (image n g r).code).code)
      ∙ same_entry c _ r c (λ e. sym (image-image n some few g fits r l) ∙ sym e) (λ e. sym e ∙ sym (image-image n some few g fits r l))
      ∙ sym (one-mul surds_laws (identity surds r c))

  -- the columns of a rotation's table
  rotation_columns : (inverse : Bool) (p : ℕ) → p < 4 ^ n → p ≢ 0 → HasOrthogonalColumns (4 ^ n) 1 (rotation_table n inverse p)
  unfolding product
  rotation_columns inverse p lp d r c l l' =
      sum_cong surds_laws (4 ^ n) _ _ (λ k h. ap (λ x. surd_times x (rotation_table n inverse p k c)) (transposed_rotation n inverse p d r k))
      ∙ inverse_rotation n inverse p lp d r c l

  -- and its rows
  rotation_rows : (inverse : Bool) (p : ℕ) → p < 4 ^ n → p ≢ 0 → HasOrthogonalColumns (4 ^ n) 1 (transposed (rotation_table n inverse p))
  rotation_rows inverse p lp d =
      agree_orthogonal (4 ^ n) 1 (rotation_table n (not inverse) p) (transposed (rotation_table n inverse p)) (λ r c l l'. transposed_rotation n inverse p d r c) (rotation_columns (not inverse) p lp d)

  -- the columns of a step's table are orthogonal
  pub step_columns : (s : Step) → IsStep n s → HasOrthogonalColumns (4 ^ n) (step_exponent s) (step_table n s)
  step_columns (by_gate g) fits = gate_columns g fits
  step_columns (by_rotation p) fits = rotation_columns false p fits.0 fits.1
  step_columns (by_inverse_rotation p) fits = rotation_columns true p fits.0 fits.1

  -- and so are its rows
  step_rows : (s : Step) → IsStep n s → HasOrthogonalColumns (4 ^ n) (step_exponent s) (transposed (step_table n s))
  step_rows (by_gate g) fits = gate_rows g fits
  step_rows (by_rotation p) fits = rotation_rows false p fits.0 fits.1
  step_rows (by_inverse_rotation p) fits = rotation_rows true p fits.0 fits.1

  -- a table and then steps
  built_on_columns : (steps : List Step) → AllByRecursion (IsStep n) steps → (m : ScaledTable) → HasOrthogonalColumns (4 ^ n) m.exponent m.table
      → HasOrthogonalColumns (4 ^ n) (built_on n m steps).exponent (built_on n m steps).table
  built_on_columns [] all m h = h
  built_on_columns (s ∷ steps) all m h =
      built_on_columns steps all.1 (stepped n s m) (product_orthogonal (4 ^ n) (step_exponent s) m.exponent (step_table n s) m.table (step_columns s all.0) h)

  -- by rows
  built_on_rows : (steps : List Step) → AllByRecursion (IsStep n) steps → (m : ScaledTable) → HasOrthogonalColumns (4 ^ n) m.exponent (transposed m.table)
      → HasOrthogonalColumns (4 ^ n) (built_on n m steps).exponent (transposed (built_on n m steps).table)
  built_on_rows [] all m h = h
  built_on_rows (s ∷ steps) all m h =
      let both = product_orthogonal (4 ^ n) m.exponent (step_exponent s) (transposed m.table) (transposed (step_table n s)) h (step_rows s all.0) in
      built_on_rows steps all.1 (stepped n s m)
      (agree_orthogonal (4 ^ n) _ _ _ (λ r c l l'. transposed_product (4 ^ n) (step_table n s) m.table r c)
      (subst (λ k. HasOrthogonalColumns (4 ^ n) k (product surds (4 ^ n) (transposed m.table) (transposed (step_table n s)))) (omega arith) both))

-- ---- tables that are the same up to one power
-- a factor of each entry
factored : (size : ℕ) (y : Surd) (m : SurdTable) (r c : ℕ)
    → product surds size (λ r k. surd_times y (m k r)) (λ k c. surd_times y (m k c)) r c ≡ surd_times (surd_times y y) (product surds size (transposed m) m r c)
unfolding product
factored size y m r c =
    sum_cong surds_laws size _ _ (λ k l. mul_mul_comm surds_laws y (m k r) y (m k c)) ∙ sym (mul-sum surds_laws size (surd_times y y) (λ k. surd_times (m k r) (m k c)))

-- both have orthogonal columns
pub same_orthogonal : (n : ℕ) (a b : ScaledTable) → SameTable n a b → HasOrthogonalColumns (4 ^ n) b.exponent b.table → HasOrthogonalColumns (4 ^ n) a.exponent a.table
unfolding product
same_orthogonal n a b same h r c l l' =
    cancel_two_to b.exponent _ _
    (squared b.exponent a.table
    ∙ sum_cong surds_laws (4 ^ n) _ _ (λ k j i. surd_times (same k r j l i) (same k c j l' i))
    ∙ sym (squared a.exponent b.table)
    ∙ ap (surd_times (two_to a.exponent)) (h r c l l')
    ∙ mul_left_comm surds_laws (two_to a.exponent) (two_to b.exponent) (identity surds r c))
  where
    squared : (k : ℕ) (m : SurdTable) → surd_times (two_to k) (product surds (4 ^ n) (transposed m) m r c)
        ≡ product surds (4 ^ n) (λ r j. surd_times (root2_to k) (m j r)) (λ j c. surd_times (root2_to k) (m j c)) r c
    squared k m = ap (λ x. surd_times x (product surds (4 ^ n) (transposed m) m r c)) (two_to_is k) ∙ sym (factored (4 ^ n) (root2_to k) m r c)

-- the same of rows
same_rows : (n : ℕ) (a b : ScaledTable) → SameTable n a b → HasOrthogonalColumns (4 ^ n) b.exponent (transposed b.table) → HasOrthogonalColumns (4 ^ n) a.exponent (transposed a.table)
same_rows n a b same =
    same_orthogonal n (record { table = transposed a.table; exponent = a.exponent }) (record { table = transposed b.table; exponent = b.exponent }) (λ r c l l'. same c r l' l)

-- ---- circuits
-- a circuit's channel has orthogonal columns
pub circuit_columns : (n : ℕ) → 0 < n → n ≤ 3 → (m : ScaledTable) → IsCircuitChannel n m → HasOrthogonalColumns (4 ^ n) m.exponent m.table
circuit_columns n some few m circuit =
    same_orthogonal n m (built n circuit.0) circuit.2 (built_on_columns n some few circuit.0 circuit.1 (record { table = identity surds; exponent = 0 }) (identity_orthogonal (4 ^ n)))

-- and orthogonal rows
pub circuit_rows : (n : ℕ) → 0 < n → n ≤ 3 → (m : ScaledTable) → IsCircuitChannel n m → HasOrthogonalColumns (4 ^ n) m.exponent (transposed m.table)
circuit_rows n some few m circuit =
    same_rows n m (built n circuit.0) circuit.2 (built_on_rows n some few circuit.0 circuit.1 (record { table = identity surds; exponent = 0 })
    (agree_orthogonal (4 ^ n) 0 (identity surds) (transposed (identity surds)) (λ r c l l'. same_entry c r r c sym sym) (identity_orthogonal (4 ^ n))))

-- ---- moved rows
-- a sum whose terms change places
moved_sum : (size : ℕ) (f : ℕ → Surd) (to : ℕ → ℕ) → ((k : ℕ) → k < size → to k < size) → ((j k : ℕ) → j < size → k < size → to j ≡ to k → j ≡ k)
    → ((r : ℕ) → r < size → (k : ℕ) × (k < size) × (to k ≡ r)) → sum surds size f ≡ sum surds size (λ k. f (to k))
unfolding product
moved_sum size f to below one source =
    sum_cong surds_laws size _ _ (λ r l. sym (own r l)) ∙ sum_swap surds_laws size size (λ r k. surd_times (identity surds (to k) r) (f r))
    ∙ sum_cong surds_laws size _ _ (λ k l. plain (to k) (below k l))
  where
    plain : (s : ℕ) → s < size → sum surds size (λ r. surd_times (identity surds s r) (f r)) ≡ f s
    plain s l = identity-product surds_laws size (λ r _. f r) s 0 l

    own : (r : ℕ) → r < size → sum surds size (λ k. surd_times (identity surds (to k) r) (f r)) ≡ f r
    own r l =
        let from = source r l in
        sum_single surds_laws size from.0 (λ k. surd_times (identity surds (to k) r) (f r)) from.1
        (λ k h d. ap (λ x. surd_times x (f r)) (zero_at (to k) r (λ e. d (one k from.0 h from.1 (e ∙ sym from.2)))) ∙ zero-mul surds_laws (f r))
        ∙ ap (λ x. surd_times x (f r)) (one_at (to from.0) r from.2) ∙ one-mul surds_laws (f r)

-- rows that change places and turn their signs
pub moved_orthogonal : (k : ℕ) (by : PauliMap) (old new : SurdTable) → IsPauliMap by → MovesRows by old new → HasOrthogonalColumns (4 ^ by.qubits) k old → HasOrthogonalColumns (4 ^ by.qubits) k new
unfolding product
moved_orthogonal k by old new valid moves h r c l l' =
    moved_sum (4 ^ by.qubits) (λ j. surd_times (new j r) (new j c)) (λ p. (image_of by p).code) valid.below valid.one_to_one (source by valid)
    ∙ sum_cong surds_laws (4 ^ by.qubits) _ _ (λ p b. (λ i. surd_times (moves p r b l i) (moves p c b l' i)) ∙ both (image_of by p).is_negative (old p r) (old p c))
    ∙ h r c l l'
  where
    both : (negative : Bool) (x y : Surd) → surd_times (signed negative x) (signed negative y) ≡ surd_times x y
    both negative x y =
        times-signed negative (signed negative x) y ∙ ap (signed negative) (surd_times_comm (signed negative x) y ∙ times-signed negative y x)
        ∙ signed-twice negative (surd_times y x) ∙ surd_times_comm y x

-- ---- the norm
-- the whole part of a sum
whole_of_sum : (size : ℕ) (f : ℕ → Surd) → (sum surds size f).a ≡ sum integers size (λ k. (f k).a)
unfolding sum surd_plus surd_integer
whole_of_sum zero f = refl
whole_of_sum (suc size) f = ap (λ x. x +ℤ (f size).a) (whole_of_sum size f)

-- that of 2^k
whole_of_two_to : (k : ℕ) → (two_to k).a ≡ pos (2 ^ k)
unfolding surd_integer
whole_of_two_to k = refl

-- orthogonal columns have the norm
pub norm_of_orthogonal : (size k : ℕ) (m : SurdTable) → HasOrthogonalColumns size k m → HasNorm size k m
unfolding product surd_times
norm_of_orthogonal size k m h c l =
    sym (whole_of_sum size (λ r. surd_times (m r c) (m r c)))
    ∙ ap (λ (x : Surd). x.a) (h c c l l ∙ ap (surd_times (two_to k)) (one_at c c refl) ∙ surd_times-one (two_to k)) ∙ whole_of_two_to k

-- ---- the bound by the norm
-- a norm as a natural number
abbrev pub square_weight : Surd → ℕ
square_weight x = nat_abs x.a * nat_abs x.a + 2 * (nat_abs x.b * nat_abs x.b)

-- by squares
norm_is : (x : Surd) → norm x ≡ pos (square_weight x)
norm_is x = λ i. square_is x.a i +ℤ pos 2 *ℤ square_is x.b i

-- natural numbers added up
unfoldable pub total : ℕ → (ℕ → ℕ) → ℕ
total zero f = 0
total (suc n) f = total n f + f n

-- among the whole numbers
total_is : (n : ℕ) (f : ℕ → ℕ) → sum integers n (λ k. pos (f k)) ≡ pos (total n f)
unfolding sum total
total_is zero f = refl
total_is (suc n) f = ap (λ x. x +ℤ pos (f n)) (total_is n f)

-- no term is above the sum
term-le : (n k : ℕ) (f : ℕ → ℕ) → k < n → f k ≤ total n f
unfolding total
term-le zero k f l = absurd (omega arith)
term-le (suc n) k f l = elim (cases_eq k n) [
  | inl e ↦ let own : f k ≡ f n = ap f e in omega arith
  | inr d ↦ let below : f k ≤ total n f = term-le n k f (omega arith) in omega arith
]

-- no square is above the square of a larger number
root_le : (n m : ℕ) → n * n ≤ m * m → n ≤ m
root_le n m h = elim (cases_lt m n) [ inl l ↦ absurd (let over : m * m < n * n = mul-lt m m n n l l in omega arith) | inr l ↦ l ]

-- no square is as large as that of a number that isn't larger
root_lt : (n m : ℕ) → n * n < m * m → n < m
root_lt n m h = elim (cases_lt n m) [ inl l ↦ l | inr l ↦ absurd (let over : m * m ≤ n * n = mul-le m m n n l l in omega arith) ]

-- the weights of a column add up to its norm
pub norm_total : (size k : ℕ) (m : SurdTable) → HasNorm size k m → (c : ℕ) → c < size → total size (λ r. square_weight (m r c)) ≡ 2 ^ k
norm_total size k m h c l =
    let column : pos (total size (λ r. square_weight (m r c))) ≡ pos (2 ^ k) = sym (total_is size (λ r. square_weight (m r c))) ∙ sym (sum_cong integers_laws size _ _ (λ r b. norm_is (m r c))) ∙ h c l in
    omega (arith, ints, column)

-- no entry weighs more than its column
weight_le : (size k : ℕ) (m : SurdTable) → HasNorm size k m → (r c : ℕ) → r < size → c < size → square_weight (m r c) ≤ 2 ^ k
weight_le size k m h r c l l' =
    let term : square_weight (m r c) ≤ total size (λ r. square_weight (m r c)) = term-le size r (λ r. square_weight (m r c)) l in
    omega (arith, norm_total size k m h c l')

-- each entry of a table with the norm 2^k, where k is at most 2j, is within 2^j
pub norm_within : (size k j : ℕ) (m : SurdTable) → HasNorm size k m → k ≤ j + j → (r c : ℕ) → r < size → c < size → SurdWithin (2 ^ j) (m r c)
norm_within size k j m h most r c l l' =
    let a : nat_abs (m r c).a ≤ 2 ^ j = root_le (nat_abs (m r c).a) (2 ^ j) (omega (arith, bound)) in
    let b : nat_abs (m r c).b ≤ 2 ^ j = root_le (nat_abs (m r c).b) (2 ^ j) (omega (arith, bound)) in
    record { low_a = omega (arith, ints); high_a = omega (arith, ints); low_b = omega (arith, ints); high_b = omega (arith, ints) }
  where
    bound : square_weight (m r c) ≤ 2 ^ j * 2 ^ j
    bound =
        let more : 2 ^ k ≤ 2 ^ (j + j) = pow-le-pow_right {n = 2} (lit< tt) most in
        let square : 2 ^ (j + j) ≡ 2 ^ j * 2 ^ j = pow-add 2 j j in
        omega (arith, weight_le size k m h r c l l')

-- and where k is below 2j, it is below 2^j
pub norm_below : (size k j most : ℕ) (m : SurdTable) → HasNorm size k m → k < j + j → most + 1 ≡ 2 ^ j → (r c : ℕ) → r < size → c < size → SurdWithin most (m r c)
norm_below size k j most m h less e r c l l' =
    let a : nat_abs (m r c).a < 2 ^ j = root_lt (nat_abs (m r c).a) (2 ^ j) (omega (arith, bound)) in
    let b : nat_abs (m r c).b < 2 ^ j = root_lt (nat_abs (m r c).b) (2 ^ j) (omega (arith, bound)) in
    record { low_a = omega (arith, ints); high_a = omega (arith, ints); low_b = omega (arith, ints); high_b = omega (arith, ints) }
  where
    bound : square_weight (m r c) < 2 ^ j * 2 ^ j
    bound =
        let next : k + 1 ≤ j + j = omega arith in
        let more : 2 ^ (k + 1) ≤ 2 ^ (j + j) = pow-le-pow_right {n = 2} (lit< tt) next in
        let double : 2 ^ (k + 1) ≡ 2 ^ k * 2 = pow-add 2 k 1 in
        let square : 2 ^ (j + j) ≡ 2 ^ j * 2 ^ j = pow-add 2 j j in
        omega (arith, weight_le size k m h r c l l', pow_pos k)
