-- Pairs of numbers that are turned in lanes, or one by one.
use Rattle.std.proofs.Common.{◌≡◌, ◌≢◌, ℕ, ◌+◌, ◌-◌, ◌<◌, ◌≤◌, List, [], ◌∷◌, length, map, refl, ap, sym, ◌∙◌, subst, inl, inr, arith}
use Rattle.std.specs.Prelude.{ℤ, pos, ◌-ℤ◌, ◌+ℤ◌, ◌*ℤ◌, FitsSigned}
use Rattle.std.specs.Int.{w16}
use Rattle.std.specs.Simd.Lanes.{zip2, Each1, Each2, chunk, put_chunk}
use Rattle.std.proofs.lemmas.Bool.{cases_lt}
use Rattle.std.proofs.Math.ListN.{set, length-set}
use Rattle.std.proofs.lemmas.List.{get_or-set_other, get_or-set_same}
use Rattle.std.proofs.lemmas.Int.{ints, fits_signed_from_abs}
use Rattle.std.proofs.lemmas.Simd.{Each1-zip2, Each1-weaker, Each1-from_get_or, Each2-of, length-zip2, length-chunk, length-put_chunk, get_or-zip2, get_or-chunk, get_or-put_chunk_below, get_or-put_chunk_at, get_or-put_chunk_above}
use mir.Val.{of_z, to_z}
use mir.Facts.{to_z-of_z}
use Rattle.channel_rep.specs.Lanes.{number, IsSmall, LanesFit, AreApart, IsOutside, HasSmallPairs, TurnsPairs}

-- ---- numbers of sixteen bits, and their bits
abbrev pub Fit : ℤ → Type 0
Fit = FitsSigned w16

-- a number that went through its bits
abbrev pub again : ℤ → ℤ
again z = to_z w16 (of_z w16 z)

-- what holds of two numbers holds of them again
both_again : (P : ℤ → ℤ → Type 0) (x y : ℤ) → Fit x → Fit y → P x y → P (again x) (again y)
both_again P x y p q h = subst (λ (z : ℤ × ℤ). P z.0 z.1) (λ i. (sym (to_z-of_z p) i, sym (to_z-of_z q) i)) h

-- lanes that went through their bits
pub lanes_again : (xs : List ℤ) → Each1 Fit xs → map (to_z w16) (map (of_z w16) xs) ≡ xs
lanes_again [] p = refl
lanes_again (x ∷ xs) p = λ i. to_z-of_z p.0 i ∷ lanes_again xs p.1 i

-- what an operation on lanes asks
pub lanes_ask : (f : ℤ → ℤ → ℤ) (xs ys : List ℤ) → Each1 Fit xs → Each1 Fit ys → Each2 (λ x y. Fit (f x y)) xs ys
    → Each2 (λ p q. Fit (f (to_z w16 p) (to_z w16 q))) (map (of_z w16) xs) (map (of_z w16) ys)
lanes_ask f [] ys p q r = tt
lanes_ask f (x ∷ xs) [] p q r = tt
lanes_ask f (x ∷ xs) (y ∷ ys) p q r = (both_again (λ x y. Fit (f x y)) x y p.0 q.0 r.0, lanes_ask f xs ys p.1 q.1 r.1)

-- what it gives
pub lanes_give : (f : ℤ → ℤ → ℤ) (xs ys : List ℤ) → Each1 Fit xs → Each1 Fit ys → Each2 (λ x y. Fit (f x y)) xs ys
    → map (to_z w16) (zip2 (λ p q. of_z w16 (f (to_z w16 p) (to_z w16 q))) (map (of_z w16) xs) (map (of_z w16) ys)) ≡ zip2 f xs ys
lanes_give f [] ys p q r = refl
lanes_give f (x ∷ xs) [] p q r = refl
lanes_give f (x ∷ xs) (y ∷ ys) p q r = λ i. (both_again (λ a b. again (f a b) ≡ f x y) x y p.0 q.0 (to_z-of_z r.0)) i ∷ lanes_give f xs ys p.1 q.1 r.1 i

-- lanes that were loaded, combined and stored
pub lanes_stored : (f : ℤ → ℤ → ℤ) (xs ys zs : List ℤ) → Each1 Fit xs → Each1 Fit ys → Each2 (λ x y. Fit (f x y)) xs ys
    → zs ≡ zip2 f (map (to_z w16) (map (of_z w16) xs)) (map (to_z w16) (map (of_z w16) ys)) → map (to_z w16) (map (of_z w16) zs) ≡ zip2 f xs ys
lanes_stored f xs ys zs p q r e =
    let plain : zs ≡ zip2 f xs ys = e ∙ (λ i. zip2 f (lanes_again xs p i) (lanes_again ys q i)) in
    ap (λ l. map (to_z w16) (map (of_z w16) l)) plain ∙ lanes_again (zip2 f xs ys) (Each1-zip2 f Fit xs ys r)

-- ---- small numbers fit, and so do their sums
pub small_fits : (z : ℤ) → IsSmall z → Fit z
small_fits z h = fits_signed_from_abs w16 z (let l = h.low in let m = h.high in omega (arith, ints, l, m))

-- differences
small_less : (x y : ℤ) → IsSmall x → IsSmall y → Fit (x -ℤ y)
small_less x y h k = fits_signed_from_abs w16 _ (let a = h.low in let b = h.high in let c = k.low in let d = k.high in omega (arith, ints, a, b, c, d))

-- sums
small_more : (x y : ℤ) → IsSmall x → IsSmall y → Fit (x +ℤ y)
small_more x y h k = fits_signed_from_abs w16 _ (let a = h.low in let b = h.high in let c = k.low in let d = k.high in omega (arith, ints, a, b, c, d))

-- doubles
pub small_twice : (z : ℤ) → IsSmall z → Fit (pos 2 *ℤ z)
small_twice z h = fits_signed_from_abs w16 _ (let l = h.low in let m = h.high in omega (arith, ints, l, m))

-- a run of small numbers, loaded
small_run : (start count : ℕ) (numbers : List ℤ) → start + count ≤ length numbers → ((k : ℕ) → k < count → IsSmall (number numbers (start + k))) → Each1 IsSmall (chunk start count numbers)
small_run start count numbers end small =
    Each1-from_get_or IsSmall (chunk start count numbers) (pos 0)
    (λ k l. let m : k < count = omega (arith, length-chunk start count numbers end) in subst IsSmall (sym (get_or-chunk start count numbers k (pos 0) m)) (small k m))

-- so lanes of small numbers fit
pub small_lanes : (xs ys : List ℤ) → Each1 IsSmall xs → Each1 IsSmall ys → LanesFit xs ys
small_lanes xs ys p q = record {
  left = Each1-weaker IsSmall Fit small_fits xs p;
  right = Each1-weaker IsSmall Fit small_fits ys q;
  less = Each2-of IsSmall IsSmall (λ x y. Fit (x -ℤ y)) small_less xs ys p q;
  more = Each2-of IsSmall IsSmall (λ x y. Fit (x +ℤ y)) small_more xs ys p q;
}

-- ---- a run of pairs, stored
-- what was stored elsewhere
stored_elsewhere : (start count : ℕ) (xs ys : List ℤ) (place : ℕ) → length ys ≡ count → IsOutside start count place → number (put_chunk start xs ys) place ≡ number xs place
stored_elsewhere start count xs ys place long (inl before) = get_or-put_chunk_below start xs ys place (pos 0) before
stored_elsewhere start count xs ys place long (inr behind) = get_or-put_chunk_above start xs ys place (pos 0) (omega arith)

-- a place of one run lies outside the other
outside_other : (x y count k : ℕ) → AreApart x y count → k < count → IsOutside y count (x + k)
outside_other x y count k (inl before) l = inl (omega arith)
outside_other x y count k (inr behind) l = inr (omega arith)

-- the other way round
apart_too : (x y count : ℕ) → AreApart x y count → AreApart y x count
apart_too x y count (inl before) = inr before
apart_too x y count (inr behind) = inl behind

-- the lanes of the first run, and of the second
module _ (x y count : ℕ) (numbers : List ℤ) (small : HasSmallPairs x y count numbers) where
  pub fit_first : LanesFit (chunk x count numbers) (chunk y count numbers)
  fit_first = small_lanes _ _ (small_run x count numbers small.first_end small.first) (small_run y count numbers small.second_end small.second)

  pub fit_second : LanesFit (chunk y count numbers) (chunk x count numbers)
  fit_second = small_lanes _ _ (small_run y count numbers small.second_end small.second) (small_run x count numbers small.first_end small.first)

  length_first : length (chunk x count numbers) ≡ count
  length_first = length-chunk x count numbers small.first_end

  length_second : length (chunk y count numbers) ≡ count
  length_second = length-chunk y count numbers small.second_end

  -- the differences and the sums of the lanes, stored
  pub stored_turned : AreApart x y count
      → TurnsPairs x y count numbers (put_chunk y (put_chunk x numbers (zip2 ◌-ℤ◌ (chunk x count numbers) (chunk y count numbers))) (zip2 ◌+ℤ◌ (chunk y count numbers) (chunk x count numbers)))
  stored_turned apart = record {
    first = λ k l.
        stored_elsewhere y count _ _ (x + k) long_sums (outside_other x y count k apart l)
        ∙ get_or-put_chunk_at x numbers _ k (pos 0) (omega (arith, long_differences)) (let end = small.first_end in omega (arith, long_differences, end))
        ∙ get_or-zip2 ◌-ℤ◌ _ _ k (pos 0) (pos 0) (pos 0) (omega (arith, length_first)) (omega (arith, length_second))
        ∙ (λ i. get_or-chunk x count numbers k (pos 0) l i -ℤ get_or-chunk y count numbers k (pos 0) l i);
    second = λ k l.
        get_or-put_chunk_at y _ _ k (pos 0) (omega (arith, long_sums)) (let end = small.second_end in omega (arith, long_sums, end, length-put_chunk x numbers (zip2 ◌-ℤ◌ (chunk x count numbers) (chunk y count numbers))))
        ∙ get_or-zip2 ◌+ℤ◌ _ _ k (pos 0) (pos 0) (pos 0) (omega (arith, length_second)) (omega (arith, length_first))
        ∙ (λ i. get_or-chunk y count numbers k (pos 0) l i +ℤ get_or-chunk x count numbers k (pos 0) l i);
    others = λ place l m. stored_elsewhere y count _ _ place long_sums m ∙ stored_elsewhere x count _ _ place long_differences l;
  }
    where
      long_differences : length (zip2 ◌-ℤ◌ (chunk x count numbers) (chunk y count numbers)) ≡ count
      long_differences = length-zip2 ◌-ℤ◌ _ _ (length_first ∙ sym length_second) ∙ length_first

      long_sums : length (zip2 ◌+ℤ◌ (chunk y count numbers) (chunk x count numbers)) ≡ count
      long_sums = length-zip2 ◌+ℤ◌ _ _ (length_second ∙ sym length_first) ∙ length_second

-- ---- one run behind another
-- no pairs
pub turned_none : (x y count : ℕ) (numbers : List ℤ) → count ≡ 0 → TurnsPairs x y count numbers numbers
turned_none x y count numbers none = record { first = λ k l. absurd (omega arith); second = λ k l. absurd (omega arith); others = λ place l m. refl }

-- runs that are apart, in part
pub apart_part : (x y m k count : ℕ) → m + k ≤ count → AreApart x y count → AreApart (x + m) (y + m) k
apart_part x y m k count le (inl before) = inl (omega arith)
apart_part x y m k count le (inr behind) = inr (omega arith)

module _ (x y m k count : ℕ) (le : m + k ≤ count) (apart : AreApart x y count) (old mid : List ℤ) (before : TurnsPairs x y m old mid) where
  -- the first numbers that are left are as they were
  first_left : (j : ℕ) → j < k → number mid ((x + m) + j) ≡ number old ((x + m) + j)
  first_left j l = before.others ((x + m) + j) (inr (omega arith)) (elim apart [ inl h ↦ inl (omega arith) | inr h ↦ inr (omega arith) ])

  -- and the second ones
  second_left : (j : ℕ) → j < k → number mid ((y + m) + j) ≡ number old ((y + m) + j)
  second_left j l = before.others ((y + m) + j) (elim apart [ inl h ↦ inr (omega arith) | inr h ↦ inl (omega arith) ]) (inr (omega arith))

  -- so they are small
  pub small_left : length mid ≡ length old → HasSmallPairs x y count old → HasSmallPairs (x + m) (y + m) k mid
  small_left long small =
      let first_end = small.first_end in
      let second_end = small.second_end in
      record {
        first_end = omega (arith, long, first_end);
        second_end = omega (arith, long, second_end);
        first = λ j l. let e : x + (m + j) ≡ (x + m) + j = omega arith in subst IsSmall (ap (number old) e ∙ sym (first_left j l)) (small.first (m + j) (omega arith));
        second = λ j l. let e : y + (m + j) ≡ (y + m) + j = omega arith in subst IsSmall (ap (number old) e ∙ sym (second_left j l)) (small.second (m + j) (omega arith));
      }

  -- and once they are turned, all are
  pub turned_more : (new : List ℤ) (all : ℕ) → all ≡ m + k → TurnsPairs (x + m) (y + m) k mid new → TurnsPairs x y all old new
  turned_more new all e after = record {
    first = λ i l. elim (cases_lt i m) [
      | inl h ↦ after.others (x + i) (inl (omega arith)) (elim apart [ inl b ↦ inl (omega arith) | inr b ↦ inr (omega arith) ]) ∙ before.first i h
      | inr h ↦ let at : (x + m) + (i - m) ≡ x + i = omega arith in let to : (y + m) + (i - m) ≡ y + i = omega arith in
          subst (λ (z : ℕ × ℕ). number new z.0 ≡ number old z.0 -ℤ number old z.1) (λ j. (at j, to j))
          (after.first (i - m) (omega arith) ∙ (λ j. first_left (i - m) (omega arith) j -ℤ second_left (i - m) (omega arith) j))
    ];
    second = λ i l. elim (cases_lt i m) [
      | inl h ↦ after.others (y + i) (elim apart [ inl b ↦ inr (omega arith) | inr b ↦ inl (omega arith) ]) (inl (omega arith)) ∙ before.second i h
      | inr h ↦ let at : (x + m) + (i - m) ≡ x + i = omega arith in let to : (y + m) + (i - m) ≡ y + i = omega arith in
          subst (λ (z : ℕ × ℕ). number new z.1 ≡ number old z.1 +ℤ number old z.0) (λ j. (at j, to j))
          (after.second (i - m) (omega arith) ∙ (λ j. second_left (i - m) (omega arith) j +ℤ first_left (i - m) (omega arith) j))
    ];
    others = λ place l h. after.others place (back x place l) (back y place h) ∙ before.others place (front x place l) (front y place h);
  }
    where
      front : (start place : ℕ) → IsOutside start all place → IsOutside start m place
      front start place (inl l) = inl l
      front start place (inr l) = inr (omega arith)

      back : (start place : ℕ) → IsOutside start all place → IsOutside (start + m) k place
      back start place (inl l) = inl (omega arith)
      back start place (inr l) = inr (omega arith)

-- one pair
pub turned_one : (x y : ℕ) (numbers : List ℤ) → AreApart x y 1 → x < length numbers → y < length numbers
    → TurnsPairs x y 1 numbers (set (set numbers x (number numbers x -ℤ number numbers y)) y (number numbers y +ℤ number numbers x))
turned_one x y numbers apart l m = record {
  first = λ k h. let at : x ≡ x + k = omega arith in let to : y ≡ y + k = omega arith in
      subst (λ (z : ℕ × ℕ). number new z.0 ≡ number numbers z.0 -ℤ number numbers z.1) (λ j. (at j, to j))
      (get_or-set_other mid y x sum (pos 0) differ ∙ get_or-set_same numbers x difference (pos 0) l);
  second = λ k h. let at : x ≡ x + k = omega arith in let to : y ≡ y + k = omega arith in
      subst (λ (z : ℕ × ℕ). number new z.1 ≡ number numbers z.1 +ℤ number numbers z.0) (λ j. (at j, to j))
      (get_or-set_same mid y sum (pos 0) (omega (arith, m, length-set numbers x difference)));
  others = λ place h k. get_or-set_other mid y place sum (pos 0) (outside y place k) ∙ get_or-set_other numbers x place difference (pos 0) (outside x place h);
}
  where
    difference : ℤ
    difference = number numbers x -ℤ number numbers y

    sum : ℤ
    sum = number numbers y +ℤ number numbers x

    mid : List ℤ
    mid = set numbers x difference

    new : List ℤ
    new = set mid y sum

    differ : x ≢ y
    differ e = elim apart [ inl h ↦ absurd (omega arith) | inr h ↦ absurd (omega arith) ]

    outside : (start place : ℕ) → IsOutside start 1 place → place ≢ start
    outside start place (inl h) e = omega arith
    outside start place (inr h) e = omega arith

-- one pair of small numbers, where the numbers go through their bits
pub turned_again : (x y : ℕ) (numbers : List ℤ) → AreApart x y 1 → HasSmallPairs x y 1 numbers
    → TurnsPairs x y 1 numbers (set (set numbers x (again (again (number numbers x) -ℤ again (number numbers y)))) y (again (again (number numbers y) +ℤ again (number numbers x))))
turned_again x y numbers apart small =
    subst (λ (z : ℤ × ℤ). TurnsPairs x y 1 numbers (set (set numbers x z.0) y z.1)) (λ i. (sym less i, sym more i))
    (turned_one x y numbers apart (let end = small.first_end in omega arith) (let end = small.second_end in omega arith))
  where
    small_x : IsSmall (number numbers x)
    small_x = let at : x + 0 ≡ x = omega arith in subst (λ k. IsSmall (number numbers k)) at (small.first 0 (omega arith))

    small_y : IsSmall (number numbers y)
    small_y = let at : y + 0 ≡ y = omega arith in subst (λ k. IsSmall (number numbers k)) at (small.second 0 (omega arith))

    less : again (again (number numbers x) -ℤ again (number numbers y)) ≡ number numbers x -ℤ number numbers y
    less = both_again (λ a b. again (a -ℤ b) ≡ number numbers x -ℤ number numbers y) _ _ (small_fits _ small_x) (small_fits _ small_y) (to_z-of_z (small_less _ _ small_x small_y))

    more : again (again (number numbers y) +ℤ again (number numbers x)) ≡ number numbers y +ℤ number numbers x
    more = both_again (λ a b. again (a +ℤ b) ≡ number numbers y +ℤ number numbers x) _ _ (small_fits _ small_y) (small_fits _ small_x) (to_z-of_z (small_more _ _ small_y small_x))
