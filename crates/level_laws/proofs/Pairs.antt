-- Numbers in pairs, of which one stands for both: each number is named once.
use Rattle.std.proofs.Common.{◌≡◌, ◌≢◌, ℕ, zero, suc, Bool, true, false, cond, ◌==◌, ◌+◌, ◌<◌, ◌≤◌, ◌⊎◌, List, [], ◌∷◌, ◌++◌, flat_map, Option, None, Some, nat_lt, All, IsPermutation, refl, sym, ap, ◌∙◌, subst, inl, inr, arith}
use Rattle.std.specs.List.{sum_by, range_with_len}
use Rattle.std.proofs.lemmas.Bool.{cases_eq, cases_lt}
use Rattle.std.proofs.lemmas.Bool.Decides.{nat_tests}
use Rattle.std.proofs.lemmas.List.Concat.{flat_map-cons}
use Rattle.std.proofs.lemmas.List.Sums.{sum_by-cons, sum_by-append}
use Rattle.std.proofs.lemmas.List.Sorted.{sum_by-IsPermutation}
use Rattle.work_shares.proofs.Permuted.{permuted_by_counts, tells_numbers}
use Rattle.level_laws.specs.Turns.{turn_beside}

-- 1 where two numbers are the same, else 0
abbrev is_it : ℕ → ℕ → ℕ
is_it x y = cond (x == y) 1 0

is_same : (x y : ℕ) → x ≡ y → is_it x y ≡ 1
is_same x y e = ap (λ b. cond b 1 0) (let t : (x == y) ≡ true = grind (arith, nat_tests) in t)

is_other : (x y : ℕ) → x ≢ y → is_it x y ≡ 0
is_other x y d = ap (λ b. cond b 1 0) (let t : (x == y) ≡ false = grind (arith, nat_tests) in t)

is_below : (x y : ℕ) → x < y → nat_lt x y ≡ true
is_below x y l = grind (arith, nat_tests)

is_not_below : (x y : ℕ) → y ≤ x → nat_lt x y ≡ false
is_not_below x y l = grind (arith, nat_tests)

-- how often a number stands among the numbers from another on
none_past : (x a n : ℕ) → (x < a) ⊎ (a + n ≤ x) → sum_by (is_it x) (range_with_len a n) ≡ 0
none_past x a zero out = refl
none_past x a (suc n) out =
    let rest = none_past x (a + 1) n (further out) in
    omega (arith, rest, is_other x a (apart out), sum_by-cons (is_it x) a (range_with_len (a + 1) n))
  where
    further : (x < a) ⊎ (a + suc n ≤ x) → (x < a + 1) ⊎ (a + 1 + n ≤ x)
    further (inl l) = inl (omega arith)
    further (inr l) = inr (omega arith)

    apart : (x < a) ⊎ (a + suc n ≤ x) → x ≢ a
    apart (inl l) e = omega (arith, l, e)
    apart (inr l) e = omega (arith, l, e)

once_within : (x a n : ℕ) → a ≤ x → x < a + n → sum_by (is_it x) (range_with_len a n) ≡ 1
once_within x a zero l m = absurd (omega arith)
once_within x a (suc n) l m = elim (cases_eq x a) [
  | inl e ↦
      let rest = none_past x (a + 1) n (inl (omega (arith, e))) in
      omega (arith, rest, is_same x a e, sum_by-cons (is_it x) a (range_with_len (a + 1) n))
  | inr d ↦
      let up : a + 1 ≤ x = past d in
      let rest = once_within x (a + 1) n up (omega arith) in
      omega (arith, rest, is_other x a d, sum_by-cons (is_it x) a (range_with_len (a + 1) n))
]
  where
    past : x ≢ a → a + 1 ≤ x
    past d = elim (cases_lt a x) [ inl m ↦ omega arith | inr m ↦ absurd (d (omega arith)) ]

-- a sum over lists in a row
sum_in_a_row : {X : Type 0} (weight : X → ℕ) (f : ℕ → List X) (ys : List ℕ) → sum_by weight (flat_map f ys) ≡ sum_by (λ y. sum_by weight (f y)) ys
sum_in_a_row weight f [] = refl
sum_in_a_row weight f (y ∷ ys) =
    ap (sum_by weight) (flat_map-cons f y ys)
    ∙ omega (arith, sum_by-append weight (f y) (flat_map f ys), sum_in_a_row weight f ys, sum_by-cons (λ z. sum_by weight (f z)) y ys)

-- sums that agree below a bound
sums_agree : (f g : ℕ → ℕ) (a n : ℕ) → ((y : ℕ) → y < a + n → f y ≡ g y) → sum_by f (range_with_len a n) ≡ sum_by g (range_with_len a n)
sums_agree f g a zero same = refl
sums_agree f g a (suc n) same =
    let rest = sums_agree f g (a + 1) n (λ y l. same y (omega arith)) in
    omega (arith, rest, same a (omega arith), sum_by-cons f a (range_with_len (a + 1) n), sum_by-cons g a (range_with_len (a + 1) n))

no_sum : (f : ℕ → ℕ) (a n : ℕ) → ((y : ℕ) → y < a + n → f y ≡ 0) → sum_by f (range_with_len a n) ≡ 0
no_sum f a zero none = refl
no_sum f a (suc n) none =
    let rest = no_sum f (a + 1) n (λ y l. none y (omega arith)) in
    omega (arith, rest, none a (omega arith), sum_by-cons f a (range_with_len (a + 1) n))

-- ---- pairs
-- the number that stands for another
abbrev owner : ℕ → Option ℕ → ℕ
owner x None = x
owner x (Some z) = cond (nat_lt x z) x z

module _ (partner : ℕ → Option ℕ) (total : ℕ) (below : (y x : ℕ) → y < total → partner y ≡ Some x → x < total)
    (back : (y x : ℕ) → y < total → partner y ≡ Some x → partner x ≡ Some y) (other : (y x : ℕ) → y < total → partner y ≡ Some x → x ≢ y)
  where
    some_same : (a b : ℕ) → Some a ≡ Some b → a ≡ b
    some_same a b e = cc

    none_some : (b : ℕ) → None ≡ Some b → ⊥
    none_some b e = cc

    owner_low : (x : ℕ) → x < total → (o : Option ℕ) → partner x ≡ o → owner x o < total
    owner_low x l None e = l
    owner_low x l (Some z) e = elim (cases_lt x z) [
      | inl m ↦ subst (λ b. cond b x z < total) (sym (is_below x z m)) l
      | inr m ↦ subst (λ b. cond b x z < total) (sym (is_not_below x z m)) (below x z l e)
    ]

    -- a turn that stands for both names each of them once
    two : (x y u : ℕ) → sum_by (is_it x) (y ∷ u ∷ []) ≡ is_it x y + is_it x u
    two x y u = omega (arith, sum_by-cons (is_it x) y (u ∷ []), sum_by-cons (is_it x) u [])

    named_both : (x y u : ℕ) → y < u → sum_by (is_it x) (turn_beside y (Some u)) ≡ is_it x y + is_it x u
    named_both x y u l = ap (λ b. sum_by (is_it x) (cond b (y ∷ u ∷ []) [])) (is_below y u l) ∙ two x y u

    named_none : (x y u : ℕ) → u ≤ y → sum_by (is_it x) (turn_beside y (Some u)) ≡ 0
    named_none x y u l = ap (λ b. sum_by (is_it x) (cond b (y ∷ u ∷ []) [])) (is_not_below y u l)

    owner_self : (x z : ℕ) → x < z → owner x (Some z) ≡ x
    owner_self x z l = ap (λ b. cond b x z) (is_below x z l)

    owner_partner : (x z : ℕ) → z ≤ x → owner x (Some z) ≡ z
    owner_partner x z l = ap (λ b. cond b x z) (is_not_below x z l)

    -- an owner is the number or its partner
    owner_apart : (x z y : ℕ) → x ≢ y → z ≢ y → is_it (owner x (Some z)) y ≡ 0
    owner_apart x z y a b = elim (cases_lt x z) [
      | inl l ↦ is_other _ y (λ e. a (sym (owner_self x z l) ∙ e))
      | inr l ↦ is_other _ y (λ e. b (sym (owner_partner x z l) ∙ e))
    ]

    -- a turn names a number as often as it is the number's owner
    module _ (x y : ℕ) (lx : x < total) (ly : y < total) where
      alone : partner y ≡ None → (o : Option ℕ) → partner x ≡ o → sum_by (is_it x) (turn_beside y None) ≡ is_it (owner x o) y
      alone ey None ex = omega (arith, sum_by-cons (is_it x) y [])
      alone ey (Some z) ex =
          let a : x ≢ y = λ e. none_some z (sym ey ∙ ap partner (sym e) ∙ ex) in
          let b : z ≢ y = λ e. none_some x (sym ey ∙ ap partner (sym e) ∙ back x z lx ex) in
          omega (arith, sum_by-cons (is_it x) y [], is_other x y a, owner_apart x z y a b)

      far : (u : ℕ) → partner y ≡ Some u → x ≢ y → x ≢ u → sum_by (is_it x) (turn_beside y (Some u)) ≡ 0
      far u ey a b = elim (cases_lt y u) [
        | inl l ↦ omega (arith, named_both x y u l, is_other x y a, is_other x u b)
        | inr l ↦ named_none x y u l
      ]

      paired : (u : ℕ) → partner y ≡ Some u → (o : Option ℕ) → partner x ≡ o → sum_by (is_it x) (turn_beside y (Some u)) ≡ is_it (owner x o) y
      paired u ey None ex =
          let a : x ≢ y = λ e. none_some u (sym ex ∙ ap partner e ∙ ey) in
          let b : x ≢ u = λ e. none_some y (sym ex ∙ ap partner e ∙ back y u ly ey) in
          far u ey a b ∙ sym (is_other x y a)
      paired u ey (Some z) ex = elim (cases_eq x y) [ inl e ↦ own e | inr a ↦ elim (cases_eq x u) [ inl e ↦ partners a e | inr b ↦ neither a b ] ]
        where
          own : x ≡ y → sum_by (is_it x) (turn_beside y (Some u)) ≡ is_it (owner x (Some z)) y
          own e =
              let same : z ≡ u = some_same z u (sym ex ∙ ap partner e ∙ ey) in
              let d = other y u ly ey in
              elim (cases_lt y u) [
                | inl l ↦ omega (arith, named_both x y u l, is_same x y e, is_other x u (λ f. d (sym f ∙ e)), is_same _ y (owner_self x z (omega (arith, l, e, same)) ∙ e))
                | inr l ↦ named_none x y u l ∙ sym (is_other _ y (λ f. d (sym same ∙ sym (owner_partner x z (omega (arith, l, e, same))) ∙ f)))
              ]

          partners : x ≢ y → x ≡ u → sum_by (is_it x) (turn_beside y (Some u)) ≡ is_it (owner x (Some z)) y
          partners a e =
              let same : z ≡ y = some_same z y (sym ex ∙ ap partner e ∙ back y u ly ey) in
              elim (cases_lt y u) [
                | inl l ↦ omega (arith, named_both x y u l, is_other x y a, is_same x u e, is_same _ y (owner_partner x z (omega (arith, l, e, same)) ∙ same))
                | inr l ↦ named_none x y u l ∙ sym (is_other _ y (λ f. a (sym (owner_self x z (strict l)) ∙ f)))
              ]
            where
              strict : u ≤ y → x < z
              strict l = elim (cases_lt x z) [ inl m ↦ m | inr m ↦ absurd (a (let s : z ≡ y = some_same z y (sym ex ∙ ap partner e ∙ back y u ly ey) in omega (arith, l, m, e, s))) ]

          neither : x ≢ y → x ≢ u → sum_by (is_it x) (turn_beside y (Some u)) ≡ is_it (owner x (Some z)) y
          neither a b =
              let c : z ≢ y = λ e. b (some_same x u (sym (back x z lx ex) ∙ ap partner e ∙ ey)) in
              far u ey a b ∙ sym (owner_apart x z y a c)

      named : (o : Option ℕ) → partner y ≡ o → sum_by (is_it x) (turn_beside y o) ≡ is_it (owner x (partner x)) y
      named None ey = alone ey (partner x) refl
      named (Some u) ey = paired u ey (partner x) refl

    -- a number past the bound is in no turn
    out : (x y : ℕ) → total ≤ x → y < total → (o : Option ℕ) → partner y ≡ o → sum_by (is_it x) (turn_beside y o) ≡ 0
    out x y lx ly None ey = omega (arith, sum_by-cons (is_it x) y [], is_other x y (λ e. omega (arith, lx, ly, e)))
    out x y lx ly (Some u) ey =
        let low = below y u ly ey in
        elim (cases_lt y u) [
          | inl l ↦ omega (arith, named_both x y u l, is_other x y (λ e. omega (arith, lx, ly, e)), is_other x u (λ e. omega (arith, lx, low, e)))
          | inr l ↦ named_none x y u l
        ]

    -- the turns of all numbers, in any order, are all numbers
    pub turns_once : (ys : List ℕ) → IsPermutation (range_with_len 0 total) ys → IsPermutation (range_with_len 0 total) (flat_map (λ y. turn_beside y (partner y)) ys)
    turns_once ys whole = permuted_by_counts (λ (a b : ℕ). a == b) tells_numbers (range_with_len 0 total) (flat_map (λ y. turn_beside y (partner y)) ys) (λ x. sym (count x))
      where
        over : (x : ℕ) → sum_by (is_it x) (flat_map (λ y. turn_beside y (partner y)) ys) ≡ sum_by (λ y. sum_by (is_it x) (turn_beside y (partner y))) (range_with_len 0 total)
        over x =
            sum_in_a_row (is_it x) (λ y. turn_beside y (partner y)) ys
            ∙ sum_by-IsPermutation (λ y. sum_by (is_it x) (turn_beside y (partner y))) (range_with_len 0 total) ys whole

        count : (x : ℕ) → sum_by (is_it x) (flat_map (λ y. turn_beside y (partner y)) ys) ≡ sum_by (is_it x) (range_with_len 0 total)
        count x = elim (cases_lt x total) [
          | inl l ↦
              over x
              ∙ (sums_agree (λ y. sum_by (is_it x) (turn_beside y (partner y))) (is_it (owner x (partner x))) 0 total (λ y ly. named x y l (omega (arith, ly)) (partner y) refl)
              ∙ (once_within (owner x (partner x)) 0 total (omega arith) (omega (arith, owner_low x l (partner x) refl)) ∙ sym (once_within x 0 total (omega arith) (omega (arith, l)))))
          | inr l ↦
              over x
              ∙ (no_sum (λ y. sum_by (is_it x) (turn_beside y (partner y))) 0 total (λ y ly. out x y l (omega (arith, ly)) (partner y) refl)
              ∙ sym (none_past x 0 total (inr (omega (arith, l)))))
        ]
