-- What a signed permutation makes of a code.
use Rattle.std.proofs.Common.{◌≡◌, ◌≢◌, ℕ, zero, suc, ◌^◌, ◌<◌, Bool, true, false, refl, ap, sym, ◌∙◌, subst, inl, inr, arith}
use Rattle.std.proofs.lemmas.Bool.{cond-true, cond-false, cases_eq}
use Rattle.tc_ring.specs.Surds.{Surd, surd_integer, surd_negative, zero_surd, one_surd}
use Rattle.channel_rep.specs.Cells.{ChannelGrid, table_of, scaled, IsUnit, HasOneUnit, IsSignedPermutation}
use Rattle.channel_rep.specs.Tables.{signed}
use Rattle.channel_rep.proofs.Rules.{one_at, zero_at}
use Rattle.channel_rep.proofs.Signs.{signed-zero}
use Rattle.clifford_rest.specs.Rest.{is_zero, is_below_zero, place_of, sent_to}
use Rattle.tc_bridge.proofs.CliffordTables.{HasEntry}

-- the one place is found
place_is : (size : ℕ) (f : ℕ → Surd) (place : ℕ) → place < size → is_zero (f place).a ≡ false → ((k : ℕ) → k < size → k ≢ place → is_zero (f k).a ≡ true) → place_of size f ≡ place
unfolding place_of
place_is zero f place l here others = absurd (omega arith)
place_is (suc size) f place l here others = elim (cases_eq size place) [
  | inl e ↦ cond-false (is_zero (f size).a) (place_of size f) size (ap (λ (k : ℕ). is_zero (f k).a) e ∙ here) ∙ e
  | inr d ↦ cond-true (is_zero (f size).a) (place_of size f) size (others size (omega arith) d) ∙ place_is size f place (omega arith) here (λ k h. others k (omega arith))
]

-- 1 is not 0
one_is : is_zero one_surd.a ≡ false
unfolding surd_integer
one_is = refl

-- nor is −1
minus_one_is : is_zero (surd_negative one_surd).a ≡ false
unfolding surd_integer surd_negative
minus_one_is = refl

-- 0 is
zero_is : is_zero zero_surd.a ≡ true
unfolding surd_integer
zero_is = refl

-- 1 is not below 0
one_sign : is_below_zero one_surd.a ≡ false
unfolding surd_integer
one_sign = refl

-- −1 is
minus_one_sign : is_below_zero (surd_negative one_surd).a ≡ true
unfolding surd_integer surd_negative
minus_one_sign = refl

-- a unit is not 0
unit_nonzero : (x : Surd) → IsUnit x → is_zero x.a ≡ false
unit_nonzero x (inl e) = ap (λ (y : Surd). is_zero y.a) e ∙ one_is
unit_nonzero x (inr e) = ap (λ (y : Surd). is_zero y.a) e ∙ minus_one_is

-- a unit is 1 with its sign
unit_signed : (x : Surd) → IsUnit x → x ≡ signed (is_below_zero x.a) one_surd
unfolding signed
unit_signed x (inl e) = e ∙ sym (ap (λ (b : Bool). signed b one_surd) (ap (λ (y : Surd). is_below_zero y.a) e ∙ one_sign))
unit_signed x (inr e) = e ∙ sym (ap (λ (b : Bool). signed b one_surd) (ap (λ (y : Surd). is_below_zero y.a) e ∙ minus_one_sign))

-- a sign is read off
pub sign_of : (b : Bool) → is_below_zero (signed b one_surd).a ≡ b
unfolding signed surd_integer surd_negative
sign_of true = refl
sign_of false = refl

-- 1 with a sign is not 0
signed_nonzero : (b : Bool) → is_zero (signed b one_surd).a ≡ false
unfolding signed surd_integer surd_negative
signed_nonzero true = refl
signed_nonzero false = refl

-- a column with one unit
pub place_of_unit : (size : ℕ) (f : ℕ → Surd) (h : HasOneUnit size f) → place_of size f ≡ h.place
place_of_unit size f h = place_is size f h.place h.below (unit_nonzero (f h.place) h.unit) (λ k l d. ap (λ (y : Surd). is_zero y.a) (h.others k l d) ∙ zero_is)

module _ (c : ChannelGrid) (permutation : IsSignedPermutation c) (q : ℕ) (l : q < 4 ^ c.qubits) where
  abbrev n : ℕ
  n = c.qubits

  -- the column of the code
  abbrev column : ℕ → Surd
  column row = table_of c row q

  -- its one unit
  unit : HasOneUnit (4 ^ n) column
  unit = permutation.columns q l

  -- which is found
  place : place_of (4 ^ n) column ≡ unit.place
  place = place_of_unit (4 ^ n) column unit

  -- the column has the entry that `sent_to` says
  pub sent_entry : HasEntry n (scaled c) q (sent_to n (table_of c) q)
  sent_entry = record {
    below = subst (λ (k : ℕ). k < 4 ^ n) (sym place) unit.below;
    is = λ row h. elim (cases_eq row (place_of (4 ^ n) column)) [
      | inl e ↦ ap column (e ∙ place) ∙ unit_signed (column unit.place) unit.unit ∙ ap (λ (k : ℕ). signed (is_below_zero (column k).a) one_surd) (sym place)
          ∙ ap (signed (is_below_zero (column (place_of (4 ^ n) column)).a)) (sym (one_at row (place_of (4 ^ n) column) e))
      | inr d ↦ unit.others row h (λ e. d (e ∙ sym place)) ∙ sym (signed-zero (is_below_zero (column (place_of (4 ^ n) column)).a))
          ∙ ap (signed (is_below_zero (column (place_of (4 ^ n) column)).a)) (sym (zero_at row (place_of (4 ^ n) column) d))
    ];
  }

  -- and there is no other
  pub sent_is : (row : ℕ) (negative : Bool) → row < 4 ^ n → column row ≡ signed negative one_surd → sent_to n (table_of c) q ≡ record { code = row; is_negative = negative }
  sent_is row negative h e =
      λ i. record { code = here i; is_negative = (ap (λ (k : ℕ). is_below_zero (column k).a) here ∙ ap (λ (x : Surd). is_below_zero x.a) e ∙ sign_of negative) i }
    where
      nonzero : is_zero (column row).a ≡ false
      nonzero = ap (λ (x : Surd). is_zero x.a) e ∙ signed_nonzero negative

      here : place_of (4 ^ n) column ≡ row
      here = elim (cases_eq row unit.place) [
        | inl f ↦ place ∙ sym f
        | inr d ↦ absurd (let f = sym nonzero ∙ ap (λ (x : Surd). is_zero x.a) (unit.others row h d) ∙ zero_is in cc)
      ]
