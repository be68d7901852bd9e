-- Lemmas for the crates above: what symbols are, by the reading that takes them one after another, is their value, and they have
-- no other.
use Rattle.std.proofs.Common.{◌≡◌, ℕ, ◌+◌, ◌*◌, ◌/◌, ◌%◌, ◌<◌, Bool, true, false, cond, ◌&&◌, ◌⊎◌, inl, inr, ⊎_elim, List, [], ◌∷◌, ◌++◌, length, Option, Some, None, arith, ap, ◌∙◌, sym, refl, subst, add_assoc}
use Rattle.std.specs.Prelude.{option_map, fold}
use Rattle.std.specs.List.{sum_by, list_any}
use Rattle.std.proofs.lemmas.Bool.{cases_Bool, and_parts}
use Rattle.std.proofs.lemmas.List.Sums.{sum_by-cons}
use Rattle.std.proofs.lemmas.Nat.{mod_below}
use Rattle.std.proofs.Math.Nat.{mod-add-mod}
use Rattle.qasm_angle.specs.declared.symbols.Symbol.{Symbol}
use Rattle.qasm_angle.specs.declared.symbols.Symbol.TheVariants.{Plus, Minus, Times, Over, Pi, Digits, Foreign}
use Rattle.qasm_angle.specs.declared.terms.Term.{Term}
use Rattle.qasm_angle.specs.declared.terms.Place.{Place}
use Rattle.qasm_angle.specs.declared.terms.Place.TheVariants.{Start, Signed, Factor, FactorTimes, JustPi, PiTimes, Multiple, Divided, Ratio, Nowhere}
use Rattle.qasm_angle.specs.declared.readings.Sum.{Sum}
use Rattle.qasm_angle.specs.declared.readings.AngleReading.{AngleReading}
use Rattle.qasm_angle.specs.declared.angles.AngleValue.{AngleValue}
use Rattle.qasm_angle.specs.declared.angles.AngleValue.TheVariants.{Eighths, Inexact, NotAngle}
use Rattle.qasm_angle.specs.Angles.{term, Summand, sign, IsSum, IsAngle, is_exact, signed_eighths, are_exact, eighths, value_in, HasValue}
use Rattle.qasm_angle.specs.Steps.{place_behind, term_at, sum_with, sum_at, start, behind_sign, reading_behind, reading_of, value_of_sum, value_with, value_at, value_of}

-- what is no beginning of a term stays none
nowhere : (ss : List Symbol) → fold place_behind Nowhere ss ≡ Nowhere
unfolding place_behind
nowhere [] = refl
nowhere (s ∷ ss) = nowhere ss

-- and no term ends there
no_term : (ss : List Symbol) → term_at (fold place_behind Nowhere ss) ≡ None
unfolding term_at
no_term ss = ap term_at (nowhere ss)

-- the term that ends behind symbols is the one that they are
term_is : (ss : List Symbol) → term_at (fold place_behind Signed ss) ≡ term ss
unfolding place_behind term_at term
term_is [] = refl
term_is (Digits d ∷ []) = refl
term_is (Digits d ∷ Times ∷ []) = refl
term_is (Digits d ∷ Times ∷ Pi ∷ []) = refl
term_is (Digits d ∷ Times ∷ Pi ∷ Over ∷ []) = refl
term_is (Digits d ∷ Times ∷ Pi ∷ Over ∷ Digits b ∷ []) = refl
term_is (Digits d ∷ Times ∷ Pi ∷ Over ∷ Digits b ∷ s ∷ ss) = no_term ss
term_is (Digits d ∷ Times ∷ Pi ∷ Over ∷ s ∷ ss) = no_term ss
term_is (Digits d ∷ Times ∷ Pi ∷ s ∷ ss) = no_term ss
term_is (Digits d ∷ Times ∷ s ∷ ss) = no_term ss
term_is (Digits d ∷ s ∷ ss) = no_term ss
term_is (Pi ∷ []) = refl
term_is (Pi ∷ Over ∷ []) = refl
term_is (Pi ∷ Over ∷ Digits b ∷ []) = refl
term_is (Pi ∷ Over ∷ Digits b ∷ s ∷ ss) = no_term ss
term_is (Pi ∷ Over ∷ s ∷ ss) = no_term ss
term_is (Pi ∷ Times ∷ []) = refl
term_is (Pi ∷ Times ∷ Digits d ∷ []) = refl
term_is (Pi ∷ Times ∷ Digits d ∷ Over ∷ []) = refl
term_is (Pi ∷ Times ∷ Digits d ∷ Over ∷ Digits b ∷ []) = refl
term_is (Pi ∷ Times ∷ Digits d ∷ Over ∷ Digits b ∷ s ∷ ss) = no_term ss
term_is (Pi ∷ Times ∷ Digits d ∷ Over ∷ s ∷ ss) = no_term ss
term_is (Pi ∷ Times ∷ Digits d ∷ s ∷ ss) = no_term ss
term_is (Pi ∷ Times ∷ s ∷ ss) = no_term ss
term_is (Pi ∷ s ∷ ss) = no_term ss
term_is (s ∷ ss) = no_term ss

-- whether nothing stands before a place
is_start : Place → Bool
is_start Start = true
is_start place = false

-- behind a symbol something does
begun : (p : Place) (s : Symbol) → is_start (place_behind p s) ≡ false
unfolding place_behind is_start
begun Start (Digits d) = refl
begun Signed (Digits d) = refl
begun Start Pi = refl
begun Signed Pi = refl
begun (Factor d) Times = refl
begun (FactorTimes d) Pi = refl
begun JustPi Times = refl
begun PiTimes (Digits d) = refl
begun JustPi Over = refl
begun (Multiple d) Over = refl
begun (Divided d) (Digits b) = refl
begun p s = refl

signed_begun : is_start Signed ≡ false
unfolding is_start
signed_begun = refl

-- where something does, the sum goes on with the term that ends there
sum_begun : (p : Place) (z : Sum) (m : Bool) → is_start p ≡ false → sum_at p z m ≡ option_map (sum_with z m) (term_at p)
unfolding is_start
sum_begun Start z m n = absurd (cc)
sum_begun p z m n = refl

-- a sign is in no term
no_plus : (p : Place) → place_behind p Plus ≡ Nowhere
unfolding place_behind
no_plus Start = refl
no_plus Signed = refl
no_plus (Factor d) = refl
no_plus (FactorTimes d) = refl
no_plus JustPi = refl
no_plus PiTimes = refl
no_plus (Multiple d) = refl
no_plus (Divided d) = refl
no_plus (Ratio d b) = refl
no_plus Nowhere = refl

no_minus : (p : Place) → place_behind p Minus ≡ Nowhere
unfolding place_behind
no_minus Start = refl
no_minus Signed = refl
no_minus (Factor d) = refl
no_minus (FactorTimes d) = refl
no_minus JustPi = refl
no_minus PiTimes = refl
no_minus (Multiple d) = refl
no_minus (Divided d) = refl
no_minus (Ratio d b) = refl
no_minus Nowhere = refl

abbrev reading : Place → Bool → Sum → AngleReading
reading p m z = record { place = p; minus = m; sum = z }

-- what symbols behind a reading make of it
abbrev value_from : AngleReading → List Symbol → AngleValue
value_from r ss = value_at (fold reading_behind r ss)

-- nothing behind what is no beginning of a term makes an angle
dead : (m : Bool) (z : Sum) (ss : List Symbol) → value_from (reading Nowhere m z) ss ≡ NotAngle
unfolding reading_behind place_behind term_at value_at
dead m z [] = refl
dead m z (Plus ∷ ss) = dead m z ss
dead m z (Minus ∷ ss) = dead m z ss
dead m z (s ∷ ss) = dead m z ss

-- the sum with a term more
abbrev sum_more : Sum → Summand → Sum
sum_more z x = sum_with z x.minus x.term

-- symbols that end a term and go on with terms behind signs, with what they make of a reading
record Found (p : Place) (m : Bool) (z : Sum) (ss : List Symbol) (v : AngleValue) : Type 0 where
  part : List Symbol
  rest : List Symbol
  last : Term
  more : List Summand
  whole : ss ≡ part ++ rest
  ends : term_at (fold place_behind p part) ≡ Some last
  sums : IsSum rest more
  value : v ≡ value_of_sum (fold sum_more (sum_with z m last) more)

abbrev NoneOrFound : Place → Bool → Sum → List Symbol → AngleValue → Type 0
NoneOrFound p m z ss v = (v ≡ NotAngle) ⊎ Found p m z ss v

-- a symbol of the term
found_behind : (p : Place) (m : Bool) (z : Sum) (s : Symbol) (ss : List Symbol) (v : AngleValue) → NoneOrFound (place_behind p s) m z ss v → NoneOrFound p m z (s ∷ ss) v
found_behind p m z s ss v h =
    ⊎_elim
    (λ (e : v ≡ NotAngle). inl e)
    (λ (f : Found (place_behind p s) m z ss v). inr (record {
      part = s ∷ f.part;
      rest = f.rest;
      last = f.last;
      more = f.more;
      whole = ap (λ (l : List Symbol). s ∷ l) f.whole;
      ends = f.ends;
      sums = f.sums;
      value = f.value;
    }))
    h

-- a sign behind the term
found_signed : (p : Place) (m : Bool) (z : Sum) (n : Bool) (ss : List Symbol) → is_start p ≡ false
    → ((y : Sum) → NoneOrFound Signed n y ss (value_from (reading Signed n y) ss))
    → NoneOrFound p m z (sign n ∷ ss) (value_from (behind_sign n (reading p m z) (sum_at p z m)) ss)
found_signed p m z n ss b more =
    subst (λ (o : Option Sum). NoneOrFound p m z (sign n ∷ ss) (value_from (behind_sign n (reading p m z) o) ss)) (sym (sum_begun p z m b)) (go (term_at p) refl)
  where
    go : (o : Option Term) → term_at p ≡ o → NoneOrFound p m z (sign n ∷ ss) (value_from (behind_sign n (reading p m z) (option_map (sum_with z m) o)) ss)
    go None e = inl (dead m z ss)
    go (Some t) e =
        ⊎_elim
        (λ (h : value_from (reading Signed n (sum_with z m t)) ss ≡ NotAngle). inl h)
        (λ (f : Found Signed n (sum_with z m t) ss (value_from (reading Signed n (sum_with z m t)) ss)). inr (record {
          part = [];
          rest = sign n ∷ ss;
          last = t;
          more = record { minus = n; term = f.last } ∷ f.more;
          whole = refl;
          ends = e;
          sums = (f.part, f.rest, ap (λ (l : List Symbol). sign n ∷ l) f.whole, sym (term_is f.part) ∙ f.ends, f.sums);
          value = f.value;
        }))
        (more (sum_with z m t))

-- symbols make no angle, or they end a term and go on with terms behind signs
found : (ss : List Symbol) (p : Place) (m : Bool) (z : Sum) → is_start p ≡ false → NoneOrFound p m z ss (value_from (reading p m z) ss)
unfolding reading_behind value_at
found [] p m z b = go (term_at p) refl
  where
    go : (o : Option Term) → term_at p ≡ o → NoneOrFound p m z [] (value_with (reading p m z) o)
    go None e = inl refl
    go (Some t) e = inr (record { part = []; rest = []; last = t; more = []; whole = refl; ends = e; sums = refl; value = refl })
found (Plus ∷ ss) p m z b = found_signed p m z false ss b (λ y. found ss Signed false y signed_begun)
found (Minus ∷ ss) p m z b = found_signed p m z true ss b (λ y. found ss Signed true y signed_begun)
found (s ∷ ss) p m z b = found_behind p m z s ss _ (found ss (place_behind p s) m z (begun p s))

abbrev zero_sum : Sum
zero_sum = record { exact = true; eighths = 0 }

-- a sum of terms is exact where each is
exact_sum : (xs : List Summand) (z : Sum) → (fold sum_more z xs).exact ≡ (z.exact && are_exact xs)
exact_sum [] z = and_true z.exact
  where
    and_true : (b : Bool) → b ≡ (b && true)
    and_true true = refl
    and_true false = refl
exact_sum (x ∷ xs) z = exact_sum xs (sum_more z x) ∙ go (is_exact x.term) (are_exact xs) z.exact z.eighths
  where
    go : (t r b : Bool) (j : ℕ) → ((cond {A = Sum} t (record { exact = b; eighths = (j + (cond x.minus 7 1) * ((4 * x.term.times) / x.term.over)) % 8 }) (record { exact = false; eighths = j })).exact && r) ≡ (b && (t && r))
    go true r b j = refl
    go false r true j = refl
    go false r false j = refl

-- and then it has the sum of their eighths
eighths_sum : (xs : List Summand) (z : Sum) → z.eighths < 8 → are_exact xs ≡ true → (fold sum_more z xs).eighths ≡ (z.eighths + sum_by signed_eighths xs) % 8
eighths_sum [] z b e = omega arith
eighths_sum (x ∷ xs) z b e =
    let p = and_parts (is_exact x.term) _ e in
    let y : Sum = record { exact = z.exact; eighths = (z.eighths + signed_eighths x) % 8 } in
    let same : sum_more z x ≡ y = ap (λ (t : Bool). cond t y (record { exact = false; eighths = z.eighths })) p.0 in
    let below : y.eighths < 8 = mod_below (z.eighths + signed_eighths x) 8 (omega arith) in
    ap (λ (w : Sum). (fold sum_more w xs).eighths) same ∙ eighths_sum xs y below p.1
    ∙ mod-add-mod (z.eighths + signed_eighths x) 8 (sum_by signed_eighths xs)
    ∙ ap (λ (n : ℕ). n % 8) (add_assoc z.eighths (signed_eighths x) (sum_by signed_eighths xs) ∙ ap (λ (n : ℕ). z.eighths + n) (sym (sum_by-cons signed_eighths x xs)))

-- a sum is what its terms are
sum_is : (xs : List Summand) → value_of_sum (fold sum_more zero_sum xs) ≡ value_in xs
sum_is xs = go (are_exact xs) refl
  where
    go : (t : Bool) → are_exact xs ≡ t → value_of_sum (fold sum_more zero_sum xs) ≡ cond t (Eighths (eighths xs)) Inexact
    go true e =
        ap (λ (t : Bool). cond t (Eighths (fold sum_more zero_sum xs).eighths) Inexact) (exact_sum xs zero_sum ∙ e)
        ∙ ap (λ (j : ℕ). Eighths j) (eighths_sum xs zero_sum (omega arith) e ∙ ap (λ (n : ℕ). n % 8) (omega arith))
    go false e = ap (λ (t : Bool). cond t (Eighths (fold sum_more zero_sum xs).eighths) Inexact) (exact_sum xs zero_sum ∙ e)

-- an angle of these terms, with what symbols are
abbrev IsFound : List Symbol → AngleValue → Type 0
IsFound ss v = (xs : List Summand) × IsAngle ss xs × (v ≡ value_in xs)

-- a first sign
signed_angle : (n : Bool) (ss : List Symbol) (v : AngleValue) → NoneOrFound Signed n zero_sum ss v → (v ≡ NotAngle) ⊎ IsFound (sign n ∷ ss) v
signed_angle n ss v h =
    ⊎_elim
    (λ (e : v ≡ NotAngle). inl e)
    (λ (f : Found Signed n zero_sum ss v).
    let x : Summand = record { minus = n; term = f.last } in
    inr (
      x ∷ f.more,
      (omega arith, inl (f.part, f.rest, ap (λ (l : List Symbol). sign n ∷ l) f.whole, sym (term_is f.part) ∙ f.ends, f.sums)),
      f.value ∙ sum_is (x ∷ f.more),
    ))
    h

-- no first sign
plain_angle : (s : Symbol) (ss : List Symbol) (v : AngleValue) → NoneOrFound (place_behind Signed s) false zero_sum ss v → (v ≡ NotAngle) ⊎ IsFound (s ∷ ss) v
plain_angle s ss v h =
    ⊎_elim
    (λ (e : v ≡ NotAngle). inl e)
    (λ (f : Found (place_behind Signed s) false zero_sum ss v).
    let x : Summand = record { minus = false; term = f.last } in
    inr (
      x ∷ f.more,
      (omega arith, inr (s ∷ f.part, f.rest, ap (λ (l : List Symbol). Plus ∷ s ∷ l) f.whole, sym (term_is (s ∷ f.part)) ∙ f.ends, f.sums)),
      f.value ∙ sum_is (x ∷ f.more),
    ))
    h

-- what symbols are by the reading is no angle, or they are an angle of that value
sound : (ss : List Symbol) → (value_of ss ≡ NotAngle) ⊎ IsFound ss (value_of ss)
unfolding reading_of reading_behind place_behind term_at value_at
sound [] = inl refl
sound (Plus ∷ ss) = signed_angle false ss _ (found ss Signed false zero_sum signed_begun)
sound (Minus ∷ ss) = signed_angle true ss _ (found ss Signed true zero_sum signed_begun)
sound (s ∷ ss) = plain_angle s ss _ (found ss (place_behind Signed s) false zero_sum (begun Signed s))

-- a term that ends behind symbols lets what follows go on from there
walk : (part : List Symbol) (p : Place) (m : Bool) (z : Sum) (rest : List Symbol) (t : Term) (v : AngleValue) → is_start p ≡ false → term_at (fold place_behind p part) ≡ Some t
    → ((q : Place) → is_start q ≡ false → term_at q ≡ Some t → value_from (reading q m z) rest ≡ v) → value_from (reading p m z) (part ++ rest) ≡ v
unfolding reading_behind
walk [] p m z rest t v b e more = more p b e
walk (Plus ∷ part) p m z rest t v b e more = absurd (cc (sym (ap (λ (q : Place). term_at (fold place_behind q part)) (no_plus p) ∙ no_term part) ∙ e))
walk (Minus ∷ part) p m z rest t v b e more = absurd (cc (sym (ap (λ (q : Place). term_at (fold place_behind q part)) (no_minus p) ∙ no_term part) ∙ e))
walk (s ∷ part) p m z rest t v b e more = walk part (place_behind p s) m z rest t v (begun p s) e more

-- a sign behind a term that ends
walk_sign : (n : Bool) (p : Place) (m : Bool) (z : Sum) (ss : List Symbol) (t : Term) → is_start p ≡ false → term_at p ≡ Some t
    → value_from (reading p m z) (sign n ∷ ss) ≡ value_from (reading Signed n (sum_with z m t)) ss
unfolding reading_behind
walk_sign true p m z ss t b e = ap (λ (o : Option Sum). value_from (behind_sign true (reading p m z) o) ss) (sum_begun p z m b ∙ ap (option_map (sum_with z m)) e)
walk_sign false p m z ss t b e = ap (λ (o : Option Sum). value_from (behind_sign false (reading p m z) o) ss) (sum_begun p z m b ∙ ap (option_map (sum_with z m)) e)

-- terms behind signs make the sum with them
complete : (xs : List Summand) (p : Place) (m : Bool) (z : Sum) (part rest : List Symbol) (t : Term) → is_start p ≡ false → term_at (fold place_behind p part) ≡ Some t → IsSum rest xs
    → value_from (reading p m z) (part ++ rest) ≡ value_of_sum (fold sum_more (sum_with z m t) xs)
unfolding value_at
complete [] p m z part rest t b e h =
    walk part p m z rest t _ b e
    (λ q c f. ap (value_from (reading q m z)) h ∙ ap (value_with (reading q m z)) f)
complete (x ∷ xs) p m z part rest t b e h =
    walk part p m z rest t _ b e
    (λ q c f. ap (value_from (reading q m z)) h.2 ∙ walk_sign x.minus q m z (h.0 ++ h.1) t c f
    ∙ complete xs Signed x.minus (sum_with z m t) h.0 h.1 x.term signed_begun (term_is h.0 ∙ h.3) h.4)

-- an angle that begins with a sign
begins_signed : (n : Bool) (ss : List Symbol) → value_of (sign n ∷ ss) ≡ value_from (reading Signed n zero_sum) ss
unfolding reading_of reading_behind
begins_signed true ss = refl
begins_signed false ss = refl

-- one that begins with none is one behind a plus
begins_plain : (part rest : List Symbol) (t : Term) → term part ≡ Some t → value_of (part ++ rest) ≡ value_from (reading Signed false zero_sum) (part ++ rest)
unfolding reading_of reading_behind place_behind term
begins_plain [] rest t e = absurd (cc)
begins_plain (Plus ∷ part) rest t e = absurd (cc)
begins_plain (Minus ∷ part) rest t e = absurd (cc)
begins_plain (s ∷ part) rest t e = refl

-- an angle of these terms is what they are
pub angle_is : (ss : List Symbol) (xs : List Summand) → IsAngle ss xs → value_of ss ≡ value_in xs
angle_is ss [] h = absurd (omega (arith, h.0))
angle_is ss (x ∷ xs) h = ⊎_elim (λ (s : IsSum ss (x ∷ xs)). behind_sign_is s) (λ (s : IsSum (Plus ∷ ss) (x ∷ xs)). plain_is x.minus refl s) h.1
  where
    behind_sign_is : IsSum ss (x ∷ xs) → value_of ss ≡ value_in (x ∷ xs)
    behind_sign_is s =
        ap value_of s.2 ∙ begins_signed x.minus (s.0 ++ s.1)
        ∙ complete xs Signed x.minus zero_sum s.0 s.1 x.term signed_begun (term_is s.0 ∙ s.3) s.4 ∙ sum_is (x ∷ xs)

    plain_is : (n : Bool) → x.minus ≡ n → IsSum (Plus ∷ ss) (x ∷ xs) → value_of ss ≡ value_in (x ∷ xs)
    plain_is true e s = let same : Plus ≡ Minus = cc (s.2, ap sign e) in absurd (cc)
    plain_is false e s =
        let rest : ss ≡ s.0 ++ s.1 = cc (s.2) in
        ap value_of rest ∙ begins_plain s.0 s.1 x.term s.3
        ∙ complete xs Signed false zero_sum s.0 s.1 x.term signed_begun (term_is s.0 ∙ s.3) s.4
        ∙ ap (λ (b : Bool). value_of_sum (fold sum_more (sum_with zero_sum b x.term) xs)) (sym e) ∙ sum_is (x ∷ xs)

-- terms make an angle
is_some_angle : (xs : List Summand) → value_in xs ≡ NotAngle → ⊥
is_some_angle xs e = go (are_exact xs) e
  where
    go : (t : Bool) → cond t (Eighths (eighths xs)) Inexact ≡ NotAngle → ⊥
    go true f = cc
    go false f = cc

-- symbols have the value that the reading gives
pub has_value : (ss : List Symbol) → HasValue ss (value_of ss)
has_value ss =
    ⊎_elim
    (λ (e : value_of ss ≡ NotAngle). subst (HasValue ss) (sym e) (λ xs h. is_some_angle xs (sym (angle_is ss xs h) ∙ e)))
    (λ (f : IsFound ss (value_of ss)). subst (HasValue ss) (sym f.2) (go f.0 (are_exact f.0) refl f.1))
    (sound ss)
  where
    go : (xs : List Summand) (t : Bool) → are_exact xs ≡ t → IsAngle ss xs → HasValue ss (cond t (Eighths (eighths xs)) Inexact)
    go xs true e h = (xs, h, ap (λ (t : Bool). cond t (Eighths (eighths xs)) Inexact) e)
    go xs false e h = (xs, h, ap (λ (t : Bool). cond t (Eighths (eighths xs)) Inexact) e)

-- and no other
pub only_value : (ss : List Symbol) (v : AngleValue) → HasValue ss v → value_of ss ≡ v
only_value ss (Eighths j) h = angle_is ss h.0 h.1 ∙ h.2
only_value ss Inexact h = angle_is ss h.0 h.1 ∙ h.2
only_value ss NotAngle h = ⊎_elim (λ (e : value_of ss ≡ NotAngle). e) (λ (f : IsFound ss (value_of ss)). absurd (h f.0 f.1)) (sound ss)

-- which is below 8
pub few_eighths : (ss : List Symbol) (j : ℕ) → HasValue ss (Eighths j) → j < 8
few_eighths ss j h = go (are_exact h.0) h.2
  where
    go : (t : Bool) → cond t (Eighths (eighths h.0)) Inexact ≡ Eighths j → j < 8
    go true e = let same : eighths h.0 ≡ j = cc in subst (λ (n : ℕ). n < 8) same (mod_below (sum_by signed_eighths h.0) 8 (omega arith))
    go false e = absurd (cc)

-- whether a symbol is in no angle
abbrev pub is_foreign : Symbol → Bool
is_foreign Plus = false
is_foreign Minus = false
is_foreign Times = false
is_foreign Over = false
is_foreign Pi = false
is_foreign (Digits d) = false
is_foreign Foreign = true

no_foreign : (p : Place) → place_behind p Foreign ≡ Nowhere
unfolding place_behind
no_foreign Start = refl
no_foreign Signed = refl
no_foreign (Factor d) = refl
no_foreign (FactorTimes d) = refl
no_foreign JustPi = refl
no_foreign PiTimes = refl
no_foreign (Multiple d) = refl
no_foreign (Divided d) = refl
no_foreign (Ratio d b) = refl
no_foreign Nowhere = refl

-- what makes an angle of a reading has no such symbol
home_from : (ss : List Symbol) (r : AngleReading) → (value_from r ss ≡ NotAngle → ⊥) → list_any is_foreign ss ≡ false
unfolding reading_behind
home_from [] r h = refl
home_from (Plus ∷ ss) r h = home_from ss (behind_sign false r (sum_at r.place r.sum r.minus)) h
home_from (Minus ∷ ss) r h = home_from ss (behind_sign true r (sum_at r.place r.sum r.minus)) h
home_from (Foreign ∷ ss) r h = absurd (h (ap (λ (p : Place). value_from (reading p r.minus r.sum) ss) (no_foreign r.place) ∙ dead r.minus r.sum ss))
home_from (s ∷ ss) r h = home_from ss (reading (place_behind r.place s) r.minus r.sum) h

-- nor has an angle
pub home : (ss : List Symbol) → (value_of ss ≡ NotAngle → ⊥) → list_any is_foreign ss ≡ false
unfolding reading_of
home ss h = home_from ss start h
