-- A loop over the rows of a table that changes each row at one turn.
use Rattle.std.proofs.Common.{◌≡◌, ℕ, ◌+◌, ◌^◌, ◌<◌, ◌≤◌, min, Bool, true, false, not, List, refl, ap, sym, ◌∙◌, subst, inl, inr, ◌⊎◌, ◌≢◌, arith}
use Rattle.std.specs.Prelude.{if◌then◌else◌}
use mathlib.Core.Bool.{beq}
use Rattle.std.proofs.lemmas.Bool.{cond-true, cond-false, cases_eq, cases_Bool, cases_lt, true≢false}
use Rattle.tc_ring.specs.Surds.{surd_plus, surd_times, root2_surd, SurdWithin}
use Rattle.tc_ring.specs.declared.root2.Root2.{Root2}
use Rattle.pauli_basis.specs.Products.{product_code, commute, anti_sign}
use Rattle.pauli_basis.proofs.Products.{product_code-lt, product_code-back, commute-back, anti_sign-back}
use Rattle.channel_rep.specs.Gates.{image, GateFits}
use Rattle.channel_rep.specs.Tables.{SurdTable, signed, turned_over}
use Rattle.channel_rep.specs.Rows.{rotated, moved, rotation_turn, gate_turn}
use Rattle.channel_rep.specs.Cells.{entries}
use Rattle.channel_rep.specs.Changes.{ChangesRows, ChangesRow, ChangesPair}
use Rattle.channel_rep.specs.declared.gate.ChannelGate.{ChannelGate}
use Rattle.channel_rep.proofs.Images.{image-lt, image-image}

-- the rows whose turn was before i are changed, and the others are as they were
pub record ChangedBelow (size : ℕ) (turn : ℕ → ℕ) (changed : SurdTable → SurdTable) (i : ℕ) (old new : List Root2) : Type 0 where
  pub done : (r c : ℕ) → r < size → c < size → turn r < i → entries size new r c ≡ changed (entries size old) r c
  pub left : (r c : ℕ) → r < size → c < size → i ≤ turn r → entries size new r c ≡ entries size old r c

-- what a row becomes depends on the rows with its turn alone
abbrev pub IsLocal : ℕ → (ℕ → ℕ) → (SurdTable → SurdTable) → Type 0
IsLocal size turn changed = (m m' : SurdTable) (r c : ℕ) → r < size → ((s : ℕ) → s < size → turn s ≡ turn r → m s c ≡ m' s c) → changed m r c ≡ changed m' r c

-- before the first turn
pub changed_none : (size : ℕ) (turn : ℕ → ℕ) (changed : SurdTable → SurdTable) (i : ℕ) (old : List Root2) → i ≡ 0 → ChangedBelow size turn changed i old old
changed_none size turn changed i old e = record { done = λ r c l m h. absurd (omega arith); left = λ r c l m h. refl }

-- one turn more
pub changed_more : (size : ℕ) (turn : ℕ → ℕ) (changed : SurdTable → SurdTable) (i : ℕ) (old mid new : List Root2) → IsLocal size turn changed
    → ChangedBelow size turn changed i old mid → ChangesRows size turn i changed mid new → ChangedBelow size turn changed (i + 1) old new
changed_more size turn changed i old mid new local before step = record {
  done = λ r c l m h.
      elim (cases_eq (turn r) i) [
        | inl e ↦ step.here r c l m e ∙ local (entries size mid) (entries size old) r c l (λ s k d. before.left s c k m (omega arith))
        | inr d ↦ step.elsewhere r c l m d ∙ before.done r c l m (omega arith)
      ];
  left = λ r c l m h. step.elsewhere r c l m (λ e. omega arith) ∙ before.left r c l m (omega arith);
}

-- the rows that are still to be changed are as before
pub left_within : (size bound : ℕ) (turn : ℕ → ℕ) (changed : SurdTable → SurdTable) (i : ℕ) (old new : List Root2) → ChangedBelow size turn changed i old new
    → ((r c : ℕ) → r < size → c < size → SurdWithin bound (entries size old r c)) → (r c : ℕ) → r < size → c < size → turn r ≡ i → SurdWithin bound (entries size new r c)
left_within size bound turn changed i old new before small r c l m e = subst (SurdWithin bound) (sym (before.left r c l m (omega arith))) (small r c l m)

-- ---- the turns of a rotation
-- a row that commutes changes at its own turn
pub turn_of_row : (n p r : ℕ) → commute n p r ≡ true → rotation_turn n p r ≡ r
unfolding rotation_turn
turn_of_row n p r e = cond-true (commute n p r) r (min r (product_code p r)) e

-- a row that anticommutes changes at the lower of the two
paired_turn : (n p r : ℕ) → commute n p r ≡ false → rotation_turn n p r ≡ min r (product_code p r)
unfolding rotation_turn
paired_turn n p r e = cond-false (commute n p r) r (min r (product_code p r)) e

-- no row has to wait for longer than its own turn
pub rotation_turn-le : (n p r : ℕ) → rotation_turn n p r ≤ r
rotation_turn-le n p r = elim (cases_Bool (commute n p r)) [
  | inl e ↦ omega (arith, turn_of_row n p r e)
  | inr e ↦ omega (arith, paired_turn n p r e)
]

-- partners have one turn
partner_turn : (n p r : ℕ) → commute n p r ≡ false → rotation_turn n p (product_code p r) ≡ rotation_turn n p r
partner_turn n p r e =
    paired_turn n p (product_code p r) (commute-back n p r ∙ e) ∙ ap (min (product_code p r)) (product_code-back p r)
    ∙ (omega arith) ∙ sym (paired_turn n p r e)

-- a rotation's rule looks at the row and its partner alone
pub rotated_local : (n : ℕ) (inverse : Bool) (p : ℕ) → p < 4 ^ n → IsLocal (4 ^ n) (rotation_turn n p) (rotated n inverse p)
unfolding rotated
rotated_local n inverse p lp m m' r c l h = elim (cases_Bool (commute n p r)) [
  | inl e ↦ ap (λ b. if b then surd_times root2_surd (m r c) else surd_plus (m r c) (signed s (m (product_code p r) c))) e
      ∙ ap (surd_times root2_surd) (h r l refl)
      ∙ sym (ap (λ b. if b then surd_times root2_surd (m' r c) else surd_plus (m' r c) (signed s (m' (product_code p r) c))) e)
  | inr e ↦ ap (λ b. if b then surd_times root2_surd (m r c) else surd_plus (m r c) (signed s (m (product_code p r) c))) e
      ∙ (λ i. surd_plus (h r l refl i) (signed s (h (product_code p r) (product_code-lt n p r lp l) (partner_turn n p r e) i)))
      ∙ sym (ap (λ b. if b then surd_times root2_surd (m' r c) else surd_plus (m' r c) (signed s (m' (product_code p r) c))) e)
]
  where
    s : Bool
    s = turned_over inverse (not (anti_sign n p r))

-- which rows have the turn of a row
same_or_partner : (n p r row : ℕ) → rotation_turn n p r ≡ row → (r ≡ row) ⊎ ((commute n p r ≡ false) × (product_code p r ≡ row))
same_or_partner n p r row e = elim (cases_Bool (commute n p r)) [
  | inl t ↦ inl (sym (turn_of_row n p r t) ∙ e)
  | inr f ↦ by f (sym (paired_turn n p r f) ∙ e)
]
  where
    by : commute n p r ≡ false → min r (product_code p r) ≡ row → (r ≡ row) ⊎ ((commute n p r ≡ false) × (product_code p r ≡ row))
    by f h = elim (cases_lt r (product_code p r)) [ inl l ↦ inl (omega arith) | inr l ↦ inr (f, omega arith) ]

-- no row both commutes and anticommutes
clash : (n p r : ℕ) → commute n p r ≡ true → commute n p r ≡ false → ⊥
clash n p r t f = true≢false (sym t ∙ f)

-- two that anticommute differ
partner_apart : (n p r : ℕ) → commute n p r ≡ false → product_code p r ≢ r
partner_apart n p r f e = by (anti_sign n p r) (sym (anti_sign-back n p r f) ∙ ap (anti_sign n p) e)
  where
    by : (s : Bool) → not s ≡ s → ⊥
    by true h = true≢false (sym h)
    by false h = true≢false h

-- the partner has the opposite sign
turned_twice : (inverse s : Bool) → not (turned_over inverse (not s)) ≡ turned_over inverse (not (not s))
turned_twice true true = refl
turned_twice true false = refl
turned_twice false true = refl
turned_twice false false = refl

module _ (n : ℕ) (inverse : Bool) (p row : ℕ) (old new : List Root2) (l : row < 4 ^ n) where
  -- a row that commutes is scaled at its turn
  pub scaled_change : commute n p row ≡ true → ChangesRow (4 ^ n) row (λ c. surd_times root2_surd (entries (4 ^ n) old row c)) old new
      → ChangesRows (4 ^ n) (rotation_turn n p) row (rotated n inverse p) old new
  unfolding rotated
  scaled_change t step = record {
    here = λ r c k m e.
        elim (same_or_partner n p r row e) [
          | inl same ↦
              let P : ℕ → Type 0 = λ r. entries (4 ^ n) new r c ≡ rotated n inverse p (entries (4 ^ n) old) r c in
              subst P (sym same) (step.row_is c m ∙ sym (cond-true (commute n p row) _ _ t))
          | inr other ↦ absurd (clash n p row t (ap (commute n p) (sym other.1) ∙ commute-back n p r ∙ other.0))
        ];
    elsewhere = λ r c k m d. step.others r c k m (λ e. d (ap (rotation_turn n p) e ∙ turn_of_row n p row t));
  }

  -- a pair that anticommutes is turned at the turn of the lower row
  pub turned_change : (low_first : Bool) → commute n p row ≡ false → row < product_code p row → low_first ≡ turned_over inverse (not (anti_sign n p row))
      → ChangesPair (4 ^ n) row (product_code p row)
      (λ c. surd_plus (entries (4 ^ n) old row c) (signed low_first (entries (4 ^ n) old (product_code p row) c)))
      (λ c. surd_plus (entries (4 ^ n) old (product_code p row) c) (signed (not low_first) (entries (4 ^ n) old row c))) old new
      → ChangesRows (4 ^ n) (rotation_turn n p) row (rotated n inverse p) old new
  unfolding rotated
  turned_change low_first f order sign step = record {
    here = λ r c k m e.
        elim (same_or_partner n p r row e) [
          | inl same ↦ subst (P c) (sym same) (step.low_is c m ∙ ap (λ s. surd_plus (entries (4 ^ n) old row c) (signed s (entries (4 ^ n) old (product_code p row) c))) sign ∙ sym (cond-false (commute n p row) _ _ f))
          | inr other ↦ subst (P c) (ap (product_code p) (sym other.1) ∙ product_code-back p r) (at_partner c m)
        ];
    elsewhere = λ r c k m d. step.others r c k m (λ e. d (ap (rotation_turn n p) e ∙ here_first)) (λ e. d (ap (rotation_turn n p) e ∙ partner_turn n p row f ∙ here_first));
  }
    where
      P : ℕ → ℕ → Type 0
      P c r = entries (4 ^ n) new r c ≡ rotated n inverse p (entries (4 ^ n) old) r c

      here_first : rotation_turn n p row ≡ row
      here_first = omega (arith, paired_turn n p row f)

      at_partner : (c : ℕ) → c < 4 ^ n → P c (product_code p row)
      at_partner c m =
          step.high_is c m
          ∙ (λ i. surd_plus (entries (4 ^ n) old (product_code p row) c) (signed (((ap not sign ∙ turned_twice inverse (anti_sign n p row)) ∙ ap (λ s. turned_over inverse (not s)) (sym (anti_sign-back n p row f))) i) (entries (4 ^ n) old (sym (product_code-back p row) i) c)))
          ∙ sym (cond-false (commute n p (product_code p row)) _ _ (commute-back n p row ∙ f))

  -- nothing changes at the turn of the higher row
  pub no_change : commute n p row ≡ false → product_code p row ≤ row → ChangesRows (4 ^ n) (rotation_turn n p) row (rotated n inverse p) old old
  no_change f order = record {
    here = λ r c k m e. absurd (never r e);
    elsewhere = λ r c k m d. refl;
  }
    where
      never : (r : ℕ) → rotation_turn n p r ≡ row → ⊥
      never r e = elim (same_or_partner n p r row e) [
        | inl same ↦
            let first = sym (paired_turn n p row f) ∙ ap (rotation_turn n p) (sym same) ∙ e in
            partner_apart n p row f (omega arith)
        | inr other ↦
            let first = sym (paired_turn n p r other.0) ∙ e in
            let back : product_code p row ≡ r = ap (product_code p) (sym other.1) ∙ product_code-back p r in
            partner_apart n p row f (omega arith)
      ]

-- the same with sizes and partners that are given by equations
pub scaled_at : (n size : ℕ) (inverse : Bool) (p row : ℕ) (old new : List Root2) → row < 4 ^ n → size ≡ 4 ^ n → commute n p row ≡ true
    → ChangesRow size row (λ c. surd_times root2_surd (entries size old row c)) old new → ChangesRows (4 ^ n) (rotation_turn n p) row (rotated n inverse p) old new
scaled_at n size inverse p row old new l e t step =
    scaled_change n inverse p row old new l t (subst (λ size. ChangesRow size row (λ c. surd_times root2_surd (entries size old row c)) old new) e step)

-- the test of the code is the sign of the rule
sign_of_turn : (inverse negative : Bool) → beq negative inverse ≡ turned_over inverse (not negative)
sign_of_turn true true = refl
sign_of_turn true false = refl
sign_of_turn false true = refl
sign_of_turn false false = refl

-- a pair
pub turned_at : (n size : ℕ) (inverse : Bool) (p row partner : ℕ) (negative : Bool) (old new : List Root2) → row < 4 ^ n → size ≡ 4 ^ n → partner ≡ product_code p row
    → commute n p row ≡ false → row < partner → negative ≡ anti_sign n p row
    → ChangesPair size row partner
    (λ c. surd_plus (entries size old row c) (signed (beq negative inverse) (entries size old partner c)))
    (λ c. surd_plus (entries size old partner c) (signed (not (beq negative inverse)) (entries size old row c))) old new
    → ChangesRows (4 ^ n) (rotation_turn n p) row (rotated n inverse p) old new
turned_at n size inverse p row partner negative old new l e d f order sign step =
    turned_change n inverse p row old new l (beq negative inverse) f (subst (λ x. row < x) d order) (sign_of_turn inverse negative ∙ ap (λ s. turned_over inverse (not s)) sign)
    (subst (λ size. ChangesPair size row (product_code p row)
    (λ c. surd_plus (entries size old row c) (signed (beq negative inverse) (entries size old (product_code p row) c)))
    (λ c. surd_plus (entries size old (product_code p row) c) (signed (not (beq negative inverse)) (entries size old row c))) old new) e
    (subst (λ partner. ChangesPair size row partner
    (λ c. surd_plus (entries size old row c) (signed (beq negative inverse) (entries size old partner c)))
    (λ c. surd_plus (entries size old partner c) (signed (not (beq negative inverse)) (entries size old row c))) old new) d step))

-- the higher row
pub left_at : (n : ℕ) (inverse : Bool) (p row partner : ℕ) (old : List Root2) → row < 4 ^ n → partner ≡ product_code p row → commute n p row ≡ false → partner ≤ row
    → ChangesRows (4 ^ n) (rotation_turn n p) row (rotated n inverse p) old old
left_at n inverse p row partner old l d f order = no_change n inverse p row old old l f (subst (λ x. x ≤ row) d order)

-- the lower row of a pair
pub turn_of_low : (n p row partner : ℕ) → partner ≡ product_code p row → commute n p row ≡ false → row < partner → rotation_turn n p row ≡ row
turn_of_low n p row partner d f order = omega (arith, paired_turn n p row f)

-- the higher row of a pair
pub turn_of_high : (n p row partner : ℕ) → partner ≡ product_code p row → commute n p row ≡ false → row < partner → rotation_turn n p partner ≡ row
turn_of_high n p row partner d f order = ap (rotation_turn n p) d ∙ partner_turn n p row f ∙ turn_of_low n p row partner d f order

-- a bound on the rows with a turn, at a size that is given by an equation
pub small_at : (n size bound row : ℕ) (turn : ℕ → ℕ) (old : List Root2) → size ≡ 4 ^ n
    → ((r c : ℕ) → r < 4 ^ n → c < 4 ^ n → turn r ≡ row → SurdWithin bound (entries (4 ^ n) old r c))
    → (r : ℕ) → r < 4 ^ n → turn r ≡ row → (c : ℕ) → c < size → SurdWithin bound (entries size old r c)
small_at n size bound row turn old e small r l t =
    subst (λ size. (c : ℕ) → c < size → SurdWithin bound (entries size old r c)) (sym e) (λ c m. small r c l m t)

-- ---- the turns of a gate
gate_turn_is : (n : ℕ) (g : ChannelGate) (r : ℕ) → gate_turn n g r ≡ min r (image n g r).code
unfolding gate_turn
gate_turn_is n g r = refl

-- no row has to wait for longer than its own turn
pub gate_turn-le : (n : ℕ) (g : ChannelGate) (r : ℕ) → gate_turn n g r ≤ r
gate_turn-le n g r = omega (arith, gate_turn_is n g r)

module _ (n : ℕ) (some : 0 < n) (few : n ≤ 3) (g : ChannelGate) (fits : GateFits n g) where
  -- a row and its image have one turn
  image_turn : (r : ℕ) → r < 4 ^ n → gate_turn n g (image n g r).code ≡ gate_turn n g r
  image_turn r l =
      gate_turn_is n g (image n g r).code ∙ ap (min (image n g r).code) (image-image n some few g fits r l) ∙ (omega arith) ∙ sym (gate_turn_is n g r)

  -- a gate's rule looks at the row and its image alone
  pub moved_local : IsLocal (4 ^ n) (gate_turn n g) (moved n g)
  unfolding moved
  moved_local m m' r c l h = ap (signed (image n g (image n g r).code).is_negative) (h (image n g r).code (image-lt n some few g fits r l) (image_turn r l))

  -- which rows have the turn of a row
  same_or_image : (r row : ℕ) → r < 4 ^ n → gate_turn n g r ≡ row → (r ≡ row) ⊎ (r ≡ (image n g row).code)
  same_or_image r row l e = by (sym (gate_turn_is n g r) ∙ e)
    where
      by : min r (image n g r).code ≡ row → (r ≡ row) ⊎ (r ≡ (image n g row).code)
      by h = elim (cases_lt r (image n g r).code) [
        | inl m ↦ inl (omega arith)
        | inr m ↦
            let there : (image n g r).code ≡ row = omega arith in
            inr (sym (image-image n some few g fits r l) ∙ ap (λ x. (image n g x).code) there)
      ]

  -- the lower row of a pair
  pub turn_before_image : (row partner : ℕ) → partner ≡ (image n g row).code → row ≤ partner → gate_turn n g row ≡ row
  turn_before_image row partner d order = omega (arith, gate_turn_is n g row)

  -- the higher row of a pair
  pub turn_of_image : (row partner : ℕ) → row < 4 ^ n → partner ≡ (image n g row).code → row ≤ partner → gate_turn n g partner ≡ row
  turn_of_image row partner l d order = ap (gate_turn n g) d ∙ image_turn row l ∙ turn_before_image row partner d order

  -- a pair of rows swaps, each with the sign with which it comes
  pub moved_pair : (size row partner : ℕ) (back there : Bool) (old new : List Root2) → row < 4 ^ n → size ≡ 4 ^ n → partner ≡ (image n g row).code → row < partner
      → back ≡ (image n g partner).is_negative → there ≡ (image n g row).is_negative
      → ChangesPair size row partner (λ c. signed back (entries size old partner c)) (λ c. signed there (entries size old row c)) old new
      → ChangesRows (4 ^ n) (gate_turn n g) row (moved n g) old new
  unfolding moved
  moved_pair size row partner back there old new l e d order is_back is_there given = record {
    here = λ r c k m q.
        elim (same_or_image r row k q) [
          | inl same ↦ subst (P c) (sym same)
              (step.low_is c m ∙ (λ i. signed (is_back i) (entries (4 ^ n) old partner c)) ∙ ap (λ x. signed (image n g x).is_negative (entries (4 ^ n) old x c)) d)
          | inr other ↦ subst (P c) (d ∙ sym other)
              (step.high_is c m ∙ (λ i. signed (is_there i) (entries (4 ^ n) old row c)) ∙ ap (λ x. signed (image n g x).is_negative (entries (4 ^ n) old x c)) (sym (image-image n some few g fits row l) ∙ ap (λ x. (image n g x).code) (sym d)))
        ];
    elsewhere = λ r c k m q.
        step.others r c k m
        (λ h. q (ap (gate_turn n g) h ∙ turn_before_image row partner d (omega arith)))
        (λ h. q (ap (gate_turn n g) h ∙ turn_of_image row partner l d (omega arith)));
  }
    where
      P : ℕ → ℕ → Type 0
      P c r = entries (4 ^ n) new r c ≡ moved n g (entries (4 ^ n) old) r c

      step : ChangesPair (4 ^ n) row partner (λ c. signed back (entries (4 ^ n) old partner c)) (λ c. signed there (entries (4 ^ n) old row c)) old new
      step = subst (λ size. ChangesPair size row partner (λ c. signed back (entries size old partner c)) (λ c. signed there (entries size old row c)) old new) e given

  -- a row that stays in its place may turn its sign
  pub moved_alone : (size row partner : ℕ) (there : Bool) (old new : List Root2) → row < 4 ^ n → size ≡ 4 ^ n → partner ≡ (image n g row).code → partner ≡ row
      → there ≡ (image n g row).is_negative → ChangesRow size row (λ c. signed there (entries size old row c)) old new
      → ChangesRows (4 ^ n) (gate_turn n g) row (moved n g) old new
  unfolding moved
  moved_alone size row partner there old new l e d alone is_there given = record {
    here = λ r c k m q.
        elim (same_or_image r row k q) [
          | inl same ↦ subst (P c) (sym same) (row_case c m)
          | inr other ↦ subst (P c) (sym (other ∙ sym d ∙ alone)) (row_case c m)
        ];
    elsewhere = λ r c k m q. step.others r c k m (λ h. q (ap (gate_turn n g) h ∙ turn_before_image row partner d (omega arith)));
  }
    where
      P : ℕ → ℕ → Type 0
      P c r = entries (4 ^ n) new r c ≡ moved n g (entries (4 ^ n) old) r c

      step : ChangesRow (4 ^ n) row (λ c. signed there (entries (4 ^ n) old row c)) old new
      step = subst (λ size. ChangesRow size row (λ c. signed there (entries size old row c)) old new) e given

      row_case : (c : ℕ) → c < 4 ^ n → P c row
      row_case c m =
          step.row_is c m ∙ (λ i. signed (is_there i) (entries (4 ^ n) old row c)) ∙ ap (λ x. signed (image n g x).is_negative (entries (4 ^ n) old x c)) (sym alone ∙ d)

  -- the upper row of a pair was changed at the turn of the lower one
  pub moved_before : (row partner : ℕ) (old : List Root2) → row < 4 ^ n → partner ≡ (image n g row).code → partner < row → ChangesRows (4 ^ n) (gate_turn n g) row (moved n g) old old
  moved_before row partner old l d order = record {
    here = λ r c k m q. absurd (never r k q);
    elsewhere = λ r c k m q. refl;
  }
    where
      never : (r : ℕ) → r < 4 ^ n → gate_turn n g r ≡ row → ⊥
      never r k q = elim (same_or_image r row k q) [
        | inl same ↦ let first = sym (gate_turn_is n g r) ∙ q in let there : (image n g r).code ≡ partner = ap (λ x. (image n g x).code) same ∙ sym d in omega arith
        | inr other ↦ let first = gate_turn-le n g r in omega (arith, other, d, q)
      ]
