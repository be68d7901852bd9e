-- Lemmas for the crates above: a step's table times a table is the rule by rows.
use Rattle.std.proofs.Common.{◌≡◌, ◌≢◌, ℕ, ◌^◌, ◌<◌, ◌≤◌, Bool, true, false, not, eqb, refl, ap, sym, ◌∙◌, inl, inr}
use Rattle.std.specs.Prelude.{if◌then◌else◌}
use Rattle.std.proofs.lemmas.Bool.{cond-true, cond-false, ne_eqb, eq-eqb, cases_eq}
use Rattle.ring_laws.specs.Matrix.{sum, product, identity}
use Rattle.ring_laws.proofs.Ring.{add-mul, mul-zero}
use Rattle.ring_laws.proofs.Sums.{sum_cong, sum-add, mul-sum, identity-product}
use Rattle.tc_ring.specs.Surds.{Surd, surds, surd_plus, surd_times, zero_surd, one_surd, root2_surd}
use Rattle.tc_ring.proofs.Surds.{surds_laws, surd_plus-zero, surd_times_assoc}
use Rattle.pauli_basis.specs.Products.{product_code, commute, anti_sign}
use Rattle.pauli_basis.proofs.Products.{product_code-lt, product_code-back, product_code-apart, commute-back, anti_sign-back}
use Rattle.channel_rep.specs.Gates.{image, GateFits}
use Rattle.channel_rep.specs.Tables.{SurdTable, signed, turned_over, gate_table, rotation_table}
use Rattle.channel_rep.specs.Rows.{rotated, moved}
use Rattle.channel_rep.specs.declared.gate.ChannelGate.{ChannelGate}
use Rattle.channel_rep.proofs.Images.{image-lt, image-image}
use Rattle.channel_rep.proofs.Signs.{signed_is, signed-zero}

-- ---- entries of the identity
pub one_at : (r c : ℕ) → r ≡ c → identity surds r c ≡ one_surd
unfolding identity
one_at r c e = cond-true (eqb r c) one_surd zero_surd (eq-eqb r c e)

-- off the diagonal
pub zero_at : (r c : ℕ) → r ≢ c → identity surds r c ≡ zero_surd
unfolding identity
zero_at r c d = cond-false (eqb r c) one_surd zero_surd (ne_eqb r c d)

-- entries of the identity that are one where the other is
pub same_entry : (r c s d : ℕ) → (r ≡ c → s ≡ d) → (s ≡ d → r ≡ c) → identity surds r c ≡ identity surds s d
same_entry r c s d there back = elim (cases_eq r c) [
  | inl e ↦ one_at r c e ∙ sym (one_at s d (there e))
  | inr n ↦ zero_at r c n ∙ sym (zero_at s d (λ e. n (back e)))
]

-- a row of the identity with a sign, times a table, is that row of the table with the sign
pub signed_row : (size : ℕ) (b : Bool) (s c : ℕ) (m : SurdTable) → s < size → sum surds size (λ k. surd_times (signed b (identity surds s k)) (m k c)) ≡ signed b (m s c)
unfolding product
signed_row size b s c m l =
    sum_cong surds_laws size _ _ (λ k h. ap (λ x. surd_times x (m k c)) (signed_is b (identity surds s k)) ∙ surd_times_assoc (signed b one_surd) (identity surds s k) (m k c))
    ∙ sym (mul-sum surds_laws size (signed b one_surd) (λ k. surd_times (identity surds s k) (m k c)))
    ∙ ap (surd_times (signed b one_surd)) (plain_row size s c m l) ∙ sym (signed_is b (m s c))
  where
    plain_row : (size s c : ℕ) (m : SurdTable) → s < size → sum surds size (λ k. surd_times (identity surds s k) (m k c)) ≡ m s c
    plain_row size s c m l = identity-product surds_laws size m s c l

-- ---- gates
pub gate_rule : (n : ℕ) → 0 < n → n ≤ 3 → (g : ChannelGate) → GateFits n g → (m : SurdTable) (r c : ℕ) → r < 4 ^ n → product surds (4 ^ n) (gate_table n g) m r c ≡ moved n g m r c
unfolding product moved gate_table
gate_rule n some few g fits m r c l =
    sum_cong surds_laws (4 ^ n) _ _ (λ k h. ap (λ x. surd_times x (m k c)) (entry k h)) ∙ signed_row (4 ^ n) (image n g from).is_negative from c m (image-lt n some few g fits r l)
  where
    from : ℕ
    from = (image n g r).code

    entry : (k : ℕ) → k < 4 ^ n → signed (image n g k).is_negative (identity surds r (image n g k).code) ≡ signed (image n g from).is_negative (identity surds from k)
    entry k h =
        ap (signed (image n g k).is_negative)
        (same_entry r (image n g k).code from k
        (λ e. ap (λ x. (image n g x).code) e ∙ image-image n some few g fits k h)
        (λ e. sym (image-image n some few g fits r l) ∙ ap (λ x. (image n g x).code) e))
        ∙ elim (cases_eq k from) [
          | inl e ↦ ap (λ x. signed (image n g x).is_negative (identity surds from k)) e
          | inr d ↦
              ap (signed (image n g k).is_negative) (zero_at from k (λ e. d (sym e))) ∙ signed-zero (image n g k).is_negative
              ∙ sym (ap (signed (image n g from).is_negative) (zero_at from k (λ e. d (sym e))) ∙ signed-zero (image n g from).is_negative)
        ]

-- ---- rotations
-- one entry of a rotation, from its parts
abbrev pub entry_of : Bool → Surd → Bool → Surd → Surd
entry_of b x s y = if b then surd_times root2_surd x else surd_plus x (signed s y)

-- an entry of two zeros
both_zero : (b s : Bool) (x y : Surd) → x ≡ zero_surd → y ≡ zero_surd → entry_of b x s y ≡ zero_surd
both_zero true s x y e d = ap (surd_times root2_surd) e ∙ mul-zero surds_laws root2_surd
both_zero false s x y e d = (λ i. surd_plus (e i) (signed s (d i))) ∙ ap (surd_plus zero_surd) (signed-zero s) ∙ surd_plus-zero zero_surd

-- where the second part is zero, the sign doesn't matter
any_sign : (b s t : Bool) (x y : Surd) → y ≡ zero_surd → entry_of b x s y ≡ entry_of b x t y
any_sign true s t x y e = refl
any_sign false s t x y e =
    ap (λ y. surd_plus x (signed s y)) e ∙ ap (surd_plus x) (signed-zero s ∙ sym (signed-zero t)) ∙ ap (λ y. surd_plus x (signed t y)) (sym e)

-- nor does it where the two commute
sign_where_apart : (b s t : Bool) (x y : Surd) → (b ≡ false → s ≡ t) → entry_of b x s y ≡ entry_of b x t y
sign_where_apart true s t x y h = refl
sign_where_apart false s t x y h = ap (λ s. surd_plus x (signed s y)) (h refl)

-- the entry of column k in row r, by the row
pub row_entry : (n : ℕ) (inverse : Bool) (p r k : ℕ) → p ≢ 0
    → rotation_table n inverse p r k
    ≡ entry_of (commute n p r) (identity surds r k) (turned_over inverse (not (anti_sign n p r))) (identity surds (product_code p r) k)
unfolding rotation_table
row_entry n inverse p r k d =
    ap (λ x. entry_of (commute n p k) (identity surds r k) (turned_over inverse (anti_sign n p k)) x) moved_over
    ∙ elim (cases_eq k r) [
      | inl e ↦
          ap (λ j. entry_of (commute n p j) (identity surds r k) (turned_over inverse (anti_sign n p j)) (identity surds (product_code p r) k)) e
          ∙ any_sign (commute n p r) _ _ (identity surds r k) (identity surds (product_code p r) k) (zero_at (product_code p r) k (λ q. product_code-apart p r d (q ∙ e)))
      | inr other ↦ elim (cases_eq k (product_code p r)) [
        | inl e ↦
            ap (λ j. entry_of (commute n p j) (identity surds r k) (turned_over inverse (anti_sign n p j)) (identity surds (product_code p r) k)) e
            ∙ ap (λ b. entry_of b (identity surds r k) (turned_over inverse (anti_sign n p (product_code p r))) (identity surds (product_code p r) k)) (commute-back n p r)
            ∙ sign_where_apart (commute n p r) _ _ (identity surds r k) (identity surds (product_code p r) k) (λ a. ap (turned_over inverse) (anti_sign-back n p r a))
        | inr another ↦
            both_zero (commute n p k) _ _ _ (zero_at r k (λ q. other (sym q))) (zero_at (product_code p r) k (λ q. another (sym q)))
            ∙ sym (both_zero (commute n p r) _ _ _ (zero_at r k (λ q. other (sym q))) (zero_at (product_code p r) k (λ q. another (sym q))))
      ]
    ]
  where
    moved_over : identity surds r (product_code p k) ≡ identity surds (product_code p r) k
    moved_over = same_entry r (product_code p k) (product_code p r) k
        (λ e. ap (product_code p) e ∙ product_code-back p k)
        (λ e. sym (product_code-back p r) ∙ ap (product_code p) e)

-- a rotation's table times a table is the rule by rows
pub rotation_rule : (n : ℕ) (inverse : Bool) (p : ℕ) → p < 4 ^ n → p ≢ 0 → (m : SurdTable) (r c : ℕ) → r < 4 ^ n → product surds (4 ^ n) (rotation_table n inverse p) m r c ≡ rotated n inverse p m r c
unfolding product rotated
rotation_rule n inverse p lp d m r c l =
    sum_cong surds_laws (4 ^ n) _ _ (λ k h. ap (λ x. surd_times x (m k c)) (row_entry n inverse p r k d)) ∙ by (commute n p r) (turned_over inverse (not (anti_sign n p r)))
  where
    partner : product_code p r < 4 ^ n
    partner = product_code-lt n p r lp l

    plain : (s : ℕ) → s < 4 ^ n → sum surds (4 ^ n) (λ k. surd_times (identity surds s k) (m k c)) ≡ m s c
    plain s h = identity-product surds_laws (4 ^ n) m s c h

    by : (b s : Bool) → sum surds (4 ^ n) (λ k. surd_times (entry_of b (identity surds r k) s (identity surds (product_code p r) k)) (m k c)) ≡ entry_of b (m r c) s (m (product_code p r) c)
    by true s =
        sum_cong surds_laws (4 ^ n) _ _ (λ k h. surd_times_assoc root2_surd (identity surds r k) (m k c))
        ∙ sym (mul-sum surds_laws (4 ^ n) root2_surd (λ k. surd_times (identity surds r k) (m k c))) ∙ ap (surd_times root2_surd) (plain r l)
    by false s =
        sum_cong surds_laws (4 ^ n) _ _ (λ k h. add-mul surds_laws (identity surds r k) (signed s (identity surds (product_code p r) k)) (m k c))
        ∙ sum-add surds_laws (4 ^ n) (λ k. surd_times (identity surds r k) (m k c)) (λ k. surd_times (signed s (identity surds (product_code p r) k)) (m k c))
        ∙ (λ i. surd_plus (plain r l i) (signed_row (4 ^ n) s (product_code p r) c m partner i))
