-- Orthogonal columns with the norm 1 make a signed permutation.
use Rattle.std.proofs.Common.{◌≡◌, ◌≢◌, ◌⊎◌, ℕ, zero, suc, ◌+◌, ◌*◌, ◌^◌, ◌<◌, ◌≤◌, refl, ap, sym, ◌∙◌, subst, inl, inr, arith}
use Rattle.std.specs.Prelude.{ℤ, pos, negsuc, neg_ℤ, nat_abs}
use Rattle.std.proofs.lemmas.Bool.{cases_eq, cases_lt}
use Rattle.std.proofs.lemmas.Int.{ints}
use Rattle.std.proofs.lemmas.Nat.{mul-le}
use Rattle.ring_laws.specs.Matrix.{product}
use Rattle.ring_laws.proofs.Ring.{mul-zero, zero-mul}
use Rattle.ring_laws.proofs.Sums.{sum_single}
use Rattle.tc_ring.specs.Surds.{Surd, surd_integer, surd_negative, surd_times, zero_surd, one_surd}
use Rattle.tc_ring.proofs.Surds.{surds_laws, same_surd}
use Rattle.channel_rep.specs.Tables.{SurdTable}
use Rattle.channel_rep.specs.Cells.{ChannelGrid, IsChannelGrid, table_of, IsUnit, HasOneUnit, IsSignedPermutation}
use Rattle.channel_rep.specs.Norms.{HasOrthogonalColumns}
use Rattle.channel_rep.proofs.Rules.{zero_at}
use Rattle.channel_rep.proofs.Norms.{square_weight, total, norm_total, norm_of_orthogonal}

-- ---- sums of natural numbers
-- numbers that add up to 0 are 0
all_zero : (n : ℕ) (f : ℕ → ℕ) → total n f ≡ 0 → (k : ℕ) → k < n → f k ≡ 0
unfolding total
all_zero zero f e k l = absurd (omega arith)
all_zero (suc n) f e k l = elim (cases_eq k n) [
  | inl same ↦ ap f same ∙ (omega arith)
  | inr d ↦ let none : total n f ≡ 0 = omega arith in all_zero n f none k (omega arith)
]

-- one of the first numbers is 1, and the others are 0
record HasOneOne (n : ℕ) (f : ℕ → ℕ) : Type 0 where
  pub place : ℕ
  pub below : place < n
  pub one : f place ≡ 1
  pub others : (k : ℕ) → k < n → k ≢ place → f k ≡ 0

-- where the numbers add up to 1
one_one : (n : ℕ) (f : ℕ → ℕ) → total n f ≡ 1 → HasOneOne n f
unfolding total
one_one zero f e = absurd (omega arith)
one_one (suc n) f e = elim (cases_eq (f n) 0) [
  | inl none ↦
      let before : total n f ≡ 1 = omega arith in
      let h = one_one n f before in
      let inside = h.below in
      record { place = h.place; below = omega arith; one = h.one; others = λ k l d. elim (cases_eq k n) [ inl same ↦ ap f same ∙ none | inr apart ↦ h.others k (omega arith) d ] }
  | inr some ↦
      let before : total n f ≡ 0 = omega arith in
      record { place = n; below = omega arith; one = omega arith; others = λ k l d. all_zero n f before k (omega arith) }
]

-- numbers of which each is at most 1, and no two are 1, add up to at most 1
at_most_one : (n : ℕ) (f : ℕ → ℕ) → ((k : ℕ) → k < n → f k ≤ 1) → ((j k : ℕ) → j < n → k < n → j ≢ k → f j ≡ 1 → f k ≡ 1 → ⊥) → total n f ≤ 1
unfolding total
at_most_one zero f low apart = omega arith
at_most_one (suc n) f low apart = elim (cases_eq (f n) 0) [
  | inl none ↦ let before : total n f ≤ 1 = at_most_one n f (λ k l. low k (omega arith)) (λ j k l m. apart j k (omega arith) (omega arith)) in omega arith
  | inr some ↦
      let here : f n ≤ 1 = low n (omega arith) in
      let before : total n f ≡ 0 = zeros n (λ k l. elim (cases_eq (f k) 0) [
        | inl e ↦ e
        | inr d ↦ let small : f k ≤ 1 = low k (omega arith) in absurd (apart k n (omega arith) (omega arith) (λ e. omega arith) (omega arith) (omega arith))
      ]) in
      omega arith
]
  where
    zeros : (m : ℕ) → ((k : ℕ) → k < m → f k ≡ 0) → total m f ≡ 0
    zeros zero h = refl
    zeros (suc m) h = let before : total m f ≡ 0 = zeros m (λ k l. h k (omega arith)) in let here : f m ≡ 0 = h m (omega arith) in omega arith

-- numbers that are at most 1 and add up to their count are all 1
all_one : (n : ℕ) (f : ℕ → ℕ) → ((k : ℕ) → k < n → f k ≤ 1) → n ≤ total n f → (k : ℕ) → k < n → f k ≡ 1
unfolding total
all_one zero f low all k l = absurd (omega arith)
all_one (suc n) f low all k l =
    let here : f n ≤ 1 = low n (omega arith) in
    let before : total n f ≤ n = few n (λ j m. low j (omega arith)) in
    elim (cases_eq k n) [
      | inl same ↦ ap f same ∙ (omega arith)
      | inr d ↦ all_one n f (λ j m. low j (omega arith)) (omega arith) k (omega arith)
    ]
  where
    few : (m : ℕ) → ((j : ℕ) → j < m → f j ≤ 1) → total m f ≤ m
    few zero h = omega arith
    few (suc m) h = let before : total m f ≤ m = few m (λ j l. h j (omega arith)) in let here : f m ≤ 1 = h m (omega arith) in omega arith

-- as many ones as there are
count_ones : (n : ℕ) (f : ℕ → ℕ) → ((k : ℕ) → k < n → f k ≡ 1) → total n f ≡ n
unfolding total
count_ones zero f h = refl
count_ones (suc n) f h = let before : total n f ≡ n = count_ones n f (λ k l. h k (omega arith)) in let here : f n ≡ 1 = h n (omega arith) in omega arith

-- sums of sums, the other way round
total_zero : (n : ℕ) → total n (λ k. 0) ≡ 0
unfolding total
total_zero zero = refl
total_zero (suc n) = let before : total n (λ k. 0) ≡ 0 = total_zero n in omega arith

total-add : (n : ℕ) (f g : ℕ → ℕ) → total n (λ k. f k + g k) ≡ total n f + total n g
unfolding total
total-add zero f g = refl
total-add (suc n) f g = let before : total n (λ k. f k + g k) ≡ total n f + total n g = total-add n f g in omega arith

total_swap : (m n : ℕ) (w : ℕ → ℕ → ℕ) → total m (λ r. total n (λ c. w r c)) ≡ total n (λ c. total m (λ r. w r c))
unfolding total
total_swap zero n w = sym (total_zero n)
total_swap (suc m) n w = ap (λ x. x + total n (λ c. w m c)) (total_swap m n w) ∙ sym (total-add n (λ c. total m (λ r. w r c)) (λ c. w m c))

-- ---- weights
-- a number that weighs 1 is 1 or −1
unit_of_weight : (x : Surd) → square_weight x ≡ 1 → IsUnit x
unfolding surd_integer surd_negative
unit_of_weight x e = elim (cases_eq (nat_abs x.b) 0) [
  | inl none ↦
      let flat : nat_abs x.b * nat_abs x.b ≡ 0 = ap (λ m. m * nat_abs x.b) none ∙ (let z : 0 * nat_abs x.b ≡ 0 = omega arith in z) in
      let one : nat_abs x.a ≡ 1 = elim (cases_lt (nat_abs x.a) 2) [
        | inl l ↦ (elim (cases_eq (nat_abs x.a) 0) [ inl z ↦ absurd (let flat_a : nat_abs x.a * nat_abs x.a ≡ 0 = ap (λ m. m * nat_abs x.a) z ∙ (let y : 0 * nat_abs x.a ≡ 0 = omega arith in y) in omega arith) | inr d ↦ omega arith ])
        | inr l ↦ absurd (let more : 2 * 2 ≤ nat_abs x.a * nat_abs x.a = mul-le 2 2 (nat_abs x.a) (nat_abs x.a) l l in omega arith)
      ] in
      elim (either x.a one) [ inl is ↦ inl (same_surd is (omega (arith, ints, none))) | inr is ↦ inr (same_surd is (omega (arith, ints, none))) ]
  | inr some ↦ absurd (let l : 1 ≤ nat_abs x.b = omega arith in let more : 1 * 1 ≤ nat_abs x.b * nat_abs x.b = mul-le 1 1 (nat_abs x.b) (nat_abs x.b) l l in omega arith)
]
  where
    either : (z : ℤ) → nat_abs z ≡ 1 → (z ≡ pos 1) ⊎ (z ≡ neg_ℤ (pos 1))
    either (pos m) one = inl (ap pos one)
    either (negsuc m) one = let none : m ≡ 0 = omega arith in inr (ap negsuc none)

-- one that weighs nothing is 0
zero_of_weight : (x : Surd) → square_weight x ≡ 0 → x ≡ zero_surd
unfolding surd_integer
zero_of_weight x e = same_surd (omega (arith, ints, flat (nat_abs x.a) (omega arith))) (omega (arith, ints, flat (nat_abs x.b) (omega arith)))
  where
    flat : (m : ℕ) → m * m ≡ 0 → m ≡ 0
    flat m h = elim (cases_eq m 0) [ inl z ↦ z | inr d ↦ absurd (let l : 1 ≤ m = omega arith in let more : 1 * 1 ≤ m * m = mul-le 1 1 m m l l in omega arith) ]

-- weights of which one is 1 are those of one unit
one_unit : (size : ℕ) (f : ℕ → Surd) → HasOneOne size (λ k. square_weight (f k)) → HasOneUnit size f
one_unit size f h = record { place = h.place; below = h.below; unit = unit_of_weight (f h.place) h.one; others = λ k l d. zero_of_weight (f k) (h.others k l d) }

-- the product of two units isn't 0
units_times : (x y : Surd) → IsUnit x → IsUnit y → surd_times x y ≡ zero_surd → ⊥
unfolding surd_times surd_integer surd_negative
units_times x y u v none = elim u [
  | inl e ↦ elim v [
    | inl d ↦ (let h = ap (λ (s : Surd). s.a) (sym (λ i. surd_times (e i) (d i)) ∙ none) in absurd (omega (arith, ints)))
    | inr d ↦ (let h = ap (λ (s : Surd). s.a) (sym (λ i. surd_times (e i) (d i)) ∙ none) in absurd (omega (arith, ints)))
  ]
  | inr e ↦ elim v [
    | inl d ↦ (let h = ap (λ (s : Surd). s.a) (sym (λ i. surd_times (e i) (d i)) ∙ none) in absurd (omega (arith, ints)))
    | inr d ↦ (let h = ap (λ (s : Surd). s.a) (sym (λ i. surd_times (e i) (d i)) ∙ none) in absurd (omega (arith, ints)))
  ]
]

-- ---- tables
module _ (size : ℕ) (m : SurdTable) (h : HasOrthogonalColumns size 0 m) where
  -- a column has one entry other than 0
  column_one : (c : ℕ) → c < size → HasOneOne size (λ r. square_weight (m r c))
  column_one c l = one_one size (λ r. square_weight (m r c)) (norm_total size 0 m (norm_of_orthogonal size 0 m h) c l)

  -- at the row where it weighs 1
  column_place : (r c : ℕ) → r < size → (l : c < size) → square_weight (m r c) ≡ 1 → (k : ℕ) → k < size → k ≢ r → m k c ≡ zero_surd
  column_place r c b l e k n d =
      let one = column_one c l in
      let at : r ≡ one.place = elim (cases_eq r one.place) [ inl s ↦ s | inr a ↦ absurd (let none = one.others r b a in omega arith) ] in
      zero_of_weight (m k c) (one.others k n (λ s. d (s ∙ sym at)))

  -- no two columns have it at one row
  columns_differ : (r c d : ℕ) → r < size → c < size → d < size → c ≢ d → square_weight (m r c) ≡ 1 → square_weight (m r d) ≡ 1 → ⊥
  unfolding product
  columns_differ r c d b l l' apart e f = units_times (m r c) (m r d) (unit_of_weight (m r c) e) (unit_of_weight (m r d) f)
      (sym (sum_single surds_laws size r (λ k. surd_times (m k c) (m k d)) b (λ k n differ. ap (λ x. surd_times x (m k d)) (column_place r c b l e k n differ) ∙ zero-mul surds_laws (m k d)))
      ∙ h c d l l' ∙ ap (surd_times one_surd) (zero_at c d apart) ∙ mul-zero surds_laws one_surd)

  -- so no row has two
  row_low : (r : ℕ) → r < size → total size (λ c. square_weight (m r c)) ≤ 1
  row_low r b = at_most_one size (λ c. square_weight (m r c))
      (λ c l. let one = column_one c l in elim (cases_eq r one.place) [
        | inl s ↦ (let is : square_weight (m r c) ≡ 1 = ap (λ k. square_weight (m k c)) s ∙ one.one in omega arith)
        | inr a ↦ (let none = one.others r b a in omega arith)
      ])
      (λ c d l l' apart. columns_differ r c d b l l' apart)

  -- and since there are as many rows as columns, each has one
  row_one : (r : ℕ) → r < size → HasOneOne size (λ c. square_weight (m r c))
  row_one r b = one_one size (λ c. square_weight (m r c)) (all_one size (λ r. total size (λ c. square_weight (m r c))) row_low all r b)
    where
      all : size ≤ total size (λ r. total size (λ c. square_weight (m r c)))
      all =
          let columns : total size (λ c. total size (λ r. square_weight (m r c))) ≡ size = count_ones size (λ c. total size (λ r. square_weight (m r c))) (norm_total size 0 m (norm_of_orthogonal size 0 m h)) in
          omega (arith, total_swap size size (λ r c. square_weight (m r c)))

-- a channel of exponent 0 is a signed permutation
pub unit_permutation : (g : ChannelGrid) → IsChannelGrid g → g.exponent ≡ 0 → IsSignedPermutation g
unit_permutation g valid none =
    let h = subst (λ k. HasOrthogonalColumns (4 ^ g.qubits) k (table_of g)) none valid.orthogonal in
    record {
      exponent = none;
      rows = λ r l. one_unit (4 ^ g.qubits) (λ c. table_of g r c) (row_one (4 ^ g.qubits) (table_of g) h r l);
      columns = λ c l. one_unit (4 ^ g.qubits) (λ r. table_of g r c) (column_one (4 ^ g.qubits) (table_of g) h c l);
    }
