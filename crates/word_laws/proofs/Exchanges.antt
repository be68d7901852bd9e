-- Lemmas for the crates above: letters that commute may change places in a word.
use Rattle.std.proofs.Common.{◌≡◌, ◌≢◌, ℕ, ◌+◌, ◌^◌, ◌<◌, Bool, true, false, not, List, [], ◌∷◌, ◌++◌, refl, ap, sym, ◌∙◌, subst, inl, inr}
use Rattle.std.proofs.lemmas.Bool.{cases_Bool}
use Rattle.ring_laws.proofs.Integers.{integers_laws}
use Rattle.ring_laws.proofs.Reader.{ring, reads}
use Rattle.tc_ring.specs.Surds.{Surd, surd_plus, surd_times, one_surd, root2_surd}
use Rattle.tc_ring.proofs.Surds.{surd_times-plus, same_surd}
use Rattle.pauli_basis.specs.Products.{product_code, commute, anti_sign}
use Rattle.pauli_basis.proofs.Products.{commute-swap}
use Rattle.channel_rep.specs.Tables.{SurdTable, ScaledTable, by_rotation, stepped, SameTable, signed, turned_over}
use Rattle.channel_rep.specs.Rows.{rotated}
use Rattle.channel_rep.specs.Words.{IsWord}
use Rattle.channel_rep.proofs.Built.{root2_to, same_step}
use Rattle.channel_rep.proofs.Signs.{signed_is, signed-signed, times-signed}
use Rattle.coset_label.specs.Words.{word_channel}
use Rattle.coset_label.specs.Cosets.{SameCosetWords}
use Rattle.coset_label.proofs.OneCoset.{same_coset_of_same}
use Rattle.word_laws.proofs.Spans.{code_swap}
use Rattle.word_laws.proofs.Sparse.{word_channel-front, front_row}
use Rattle.channel_rep.proofs.Independent.{commuting_row, mixed_row}
use Rattle.word_laws.proofs.Rotations.{partner_sign, rotated_agree}
use Rattle.word_laws.proofs.Commuting.{commute-product, both_signs}

-- ---- signs
-- both signs turned
not_both : (a b : Bool) → turned_over (not a) (not b) ≡ turned_over a b
not_both true true = refl
not_both true false = refl
not_both false true = refl
not_both false false = refl

-- ---- two rotations
-- √2 goes into a sum
root2_sum : (s : Bool) (x y : Surd) → surd_times root2_surd (surd_plus x (signed s y)) ≡ surd_plus (surd_times root2_surd x) (signed s (surd_times root2_surd y))
root2_sum s x y = surd_times-plus root2_surd x (signed s y) ∙ ap (surd_plus (surd_times root2_surd x)) (times-signed s root2_surd y)

-- a sign goes into a sum
signed-sum : (s : Bool) (x y : Surd) → signed s (surd_plus x y) ≡ surd_plus (signed s x) (signed s y)
signed-sum s x y = signed_is s (surd_plus x y) ∙ surd_times-plus (signed s one_surd) x y ∙ (λ i. surd_plus (sym (signed_is s x) i) (sym (signed_is s y) i))

-- sums of four, in either order
regrouped : (x y z w : Surd) → surd_plus (surd_plus x z) (surd_plus y w) ≡ surd_plus (surd_plus x y) (surd_plus z w)
unfolding surd_plus
regrouped x y z w =
    same_surd (ring integers_laws (x.a ∷ y.a ∷ z.a ∷ w.a ∷ []) (search reads depth 30 parts 0 fits 10000) tt) (ring integers_laws (x.b ∷ y.b ∷ z.b ∷ w.b ∷ []) (search reads depth 30 parts 0 fits 10000) tt)

four_terms : (s t u v : Bool) (x y z w : Surd) → turned_over t s ≡ turned_over v u
    → surd_plus (surd_plus x (signed u z)) (signed s (surd_plus y (signed t w))) ≡ surd_plus (surd_plus x (signed s y)) (signed u (surd_plus z (signed v w)))
four_terms s t u v x y z w e =
    ap (surd_plus (surd_plus x (signed u z))) (signed-sum s y (signed t w) ∙ ap (surd_plus (signed s y)) (signed-signed s t w ∙ ap (λ b. signed b w) e ∙ sym (signed-signed u v w)))
    ∙ regrouped x (signed s y) (signed u z) (signed u (signed v w))
    ∙ ap (surd_plus (surd_plus x (signed s y))) (sym (signed-sum u z (signed v w)))

module _ (n p q : ℕ) (e : commute n p q ≡ true) where
  -- they may be made in either order
  pub rotations_exchange : (m : SurdTable) (row column : ℕ) → rotated n false p (rotated n false q m) row column ≡ rotated n false q (rotated n false p m) row column
  rotations_exchange m row column = elim (cases_Bool (commute n p row)) [
    | inl cp ↦ elim (cases_Bool (commute n q row)) [
      | inl cq ↦
          commuting_row n false p (rotated n false q m) row column cp ∙ ap (surd_times root2_surd) (commuting_row n false q m row column cq)
          ∙ sym (commuting_row n false q (rotated n false p m) row column cq ∙ ap (surd_times root2_surd) (commuting_row n false p m row column cp))
      | inr aq ↦
          commuting_row n false p (rotated n false q m) row column cp ∙ ap (surd_times root2_surd) (mixed_row n false q m row column aq)
          ∙ root2_sum (partner_sign n false q row) (m row column) (m (product_code q row) column)
          ∙ sym (mixed_row n false q (rotated n false p m) row column aq
          ∙ (λ i. surd_plus (commuting_row n false p m row column cp i) (signed (partner_sign n false q row) (commuting_row n false p m (product_code q row) column (p_at cp) i))))
    ]
    | inr anti ↦ elim (cases_Bool (commute n q row)) [
      | inl cq ↦
          mixed_row n false p (rotated n false q m) row column anti
          ∙ (λ i. surd_plus (commuting_row n false q m row column cq i) (signed (partner_sign n false p row) (commuting_row n false q m (product_code p row) column (q_at cq) i)))
          ∙ sym (root2_sum (partner_sign n false p row) (m row column) (m (product_code p row) column))
          ∙ sym (commuting_row n false q (rotated n false p m) row column cq ∙ ap (surd_times root2_surd) (mixed_row n false p m row column anti))
      | inr aq ↦
          mixed_row n false p (rotated n false q m) row column anti
          ∙ (λ i. surd_plus (mixed_row n false q m row column aq i) (signed (partner_sign n false p row) (mixed_row n false q m (product_code p row) column (q_not aq) i)))
          ∙ four_terms (partner_sign n false p row) (partner_sign n false q (product_code p row)) (partner_sign n false q row) (partner_sign n false p (product_code q row))
          (m row column) (m (product_code p row) column) (m (product_code q row) column) (m (product_code q (product_code p row)) column) (signs anti aq)
          ∙ sym (mixed_row n false q (rotated n false p m) row column aq
          ∙ (λ i. surd_plus (mixed_row n false p m row column anti i) (signed (partner_sign n false q row) (mixed_row n false p m (product_code q row) column (p_not anti) i)))
          ∙ ap (λ c. surd_plus (surd_plus (m row column) (signed (partner_sign n false p row) (m (product_code p row) column)))
          (signed (partner_sign n false q row) (surd_plus (m (product_code q row) column) (signed (partner_sign n false p (product_code q row)) (m c column))))) (code_swap p q row))
    ]
  ]
    where
      p_at : commute n p row ≡ true → commute n p (product_code q row) ≡ true
      p_at h = commute-product n p q row e ∙ h

      p_not : commute n p row ≡ false → commute n p (product_code q row) ≡ false
      p_not h = commute-product n p q row e ∙ h

      q_at : commute n q row ≡ true → commute n q (product_code p row) ≡ true
      q_at h = commute-product n q p row (commute-swap n q p ∙ e) ∙ h

      q_not : commute n q row ≡ false → commute n q (product_code p row) ≡ false
      q_not h = commute-product n q p row (commute-swap n q p ∙ e) ∙ h

      signs : commute n p row ≡ false → commute n q row ≡ false
          → turned_over (partner_sign n false q (product_code p row)) (partner_sign n false p row) ≡ turned_over (partner_sign n false p (product_code q row)) (partner_sign n false q row)
      signs ep eq = not_both (anti_sign n q (product_code p row)) (anti_sign n p row) ∙ both_signs n p q row e ep eq ∙ sym (not_both (anti_sign n p (product_code q row)) (anti_sign n q row))

  -- so do the letters of a word
  pub front_exchange : (word : List ℕ) → p < 4 ^ n → p ≢ 0 → q < 4 ^ n → q ≢ 0 → SameTable n (word_channel n (p ∷ q ∷ word)) (word_channel n (q ∷ p ∷ word))
  front_exchange word lp dp lq dq row column l h = (λ i. surd_times (root2_to (exponents i)) (entry i))
    where
      under : (x y : ℕ) → x < 4 ^ n → x ≢ 0 → y < 4 ^ n → y ≢ 0 → (r : ℕ) → r < 4 ^ n → (word_channel n (x ∷ y ∷ word)).table r column ≡ rotated n false x (rotated n false y (word_channel n word).table) r column
      under x y lx dx ly dy r k = front_row n x (y ∷ word) lx dx r column k ∙ rotated_agree n false x lx _ _ r column k (λ s j. front_row n y word ly dy s column j)

      entry : (word_channel n (p ∷ q ∷ word)).table row column ≡ (word_channel n (q ∷ p ∷ word)).table row column
      entry = under p q lp dp lq dq row l ∙ rotations_exchange (word_channel n word).table row column ∙ sym (under q p lq dq lp dp row l)

      exponents : (word_channel n (q ∷ p ∷ word)).exponent ≡ (word_channel n (p ∷ q ∷ word)).exponent
      exponents = front_exponent q (p ∷ word) ∙ ap (λ k. 1 + k) (front_exponent p word) ∙ sym (front_exponent p (q ∷ word) ∙ ap (λ k. 1 + k) (front_exponent q word))
        where
          front_exponent : (x : ℕ) (w : List ℕ) → (word_channel n (x ∷ w)).exponent ≡ 1 + (word_channel n w).exponent
          front_exponent x w = ap (λ (m : ScaledTable). m.exponent) (word_channel-front n x w)

-- letters in front keep tables the same
behind_front : (n x : ℕ) (v w : List ℕ) → SameTable n (word_channel n v) (word_channel n w) → SameTable n (word_channel n (x ∷ v)) (word_channel n (x ∷ w))
behind_front n x v w h =
    subst (λ m. SameTable n m (word_channel n (x ∷ w))) (sym (word_channel-front n x v))
    (subst (SameTable n (stepped n (by_rotation x) (word_channel n v))) (sym (word_channel-front n x w))
    (same_step n (by_rotation x) (word_channel n v) (word_channel n w) (stepped n (by_rotation x) (word_channel n v)) h refl (λ r c l m. refl)))

-- so neighbours that commute may change places anywhere in a word
pub words_exchange : (n p q : ℕ) (front back : List ℕ) → commute n p q ≡ true → IsWord n (p ∷ q ∷ back) → SameTable n (word_channel n (front ++ p ∷ q ∷ back)) (word_channel n (front ++ q ∷ p ∷ back))
words_exchange n p q [] back e is = front_exchange n p q e back is.0.0 is.0.1 is.1.0.0 is.1.0.1
words_exchange n p q (x ∷ front) back e is = behind_front n x (front ++ p ∷ q ∷ back) (front ++ q ∷ p ∷ back) (words_exchange n p q front back e is)

-- and the word stays in its coset
pub cosets_exchange : (n p q : ℕ) (front back : List ℕ) → commute n p q ≡ true → IsWord n (p ∷ q ∷ back) → SameCosetWords n (front ++ p ∷ q ∷ back) (front ++ q ∷ p ∷ back)
cosets_exchange n p q front back e is = same_coset_of_same n _ _ (words_exchange n p q front back e is)
