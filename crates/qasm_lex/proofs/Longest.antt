-- Lemmas for the crates above: `front` gives the longest token at the front.
use Rattle.std.proofs.Common.{◌≡◌, ℕ, zero, suc, ◌+◌, ◌<◌, ◌≤◌, Bool, true, false, cond, ◌||◌, ◌&&◌, ◌==◌, List, [], ◌∷◌, length, take, get_or, Option, Some, None, arith, ap, ◌∙◌, sym, refl, subst, ⊎_elim, ltb, length-take}
use Rattle.std.specs.Prelude.{MatchOption, option_and_then}
use Rattle.std.specs.List.{list_any, list_all, prefix_len}
use Rattle.std.proofs.lemmas.Bool.{cases_Bool, and_parts, and_from, or_cases, eqb-true, eqb-false, false≢true, lt-ltb, ltb-true}
use Rattle.std.proofs.lemmas.Bool.Decides.{nat_tests}
use Rattle.std.proofs.lemmas.List.Sums.{prefix_len-le-length}
use Rattle.qasm_lex.specs.declared.token.Kind.{Kind}
use Rattle.qasm_lex.specs.declared.token.Kind.TheVariants.{Ident, Number, Quoted, Semi, Comma, LeftBracket, RightBracket, LeftBrace, RightBrace, LeftParen, RightParen, Other}
use Rattle.qasm_lex.specs.Bytes.{is_name_start, is_name_byte, is_digit, is_plain, is_name, are_digits, ends_number, is_number, ends_quoted, is_quoted, is_mark, is_token}
use Rattle.qasm_lex.specs.Tokens.{BeginsWith, IsLongest, NoToken}
use Rattle.qasm_lex.specs.Front.{kind_at, fraction_len, number_rest, closed_len, rest_len, front}
use Rattle.qasm_lex.proofs.Starts.{is_start, start_of, kind_of_start, mark_is, starts}

-- one more is the successor
suc_is : (n : ℕ) → 1 + n ≡ suc n
suc_is n = omega arith

-- a front that is not empty has a length that is not 0
some_taken : (n : ℕ) (bs : List ℕ) → 0 < length (take n bs) → 0 < n
some_taken n bs h = omega (arith, length-take n bs)

-- a front of a length that is not 0 is not empty
taken_some : (n : ℕ) (bs : List ℕ) → 0 < n → n ≤ length bs → 0 < length (take n bs)
taken_some n bs h w = omega (arith, length-take n bs)

-- a byte that passes makes the run one longer
run_more : (p : ℕ → Bool) (b : ℕ) (bs : List ℕ) → p b ≡ true → prefix_len p (b ∷ bs) ≡ suc (prefix_len p bs)
run_more p b bs e = ap (λ (x : Bool). cond x (1 + prefix_len p bs) 0) e ∙ suc_is _

-- a byte that fails ends the run
run_stop : (p : ℕ → Bool) (b : ℕ) (bs : List ℕ) → p b ≡ false → prefix_len p (b ∷ bs) ≡ 0
run_stop p b bs e = ap (λ (x : Bool). cond x (1 + prefix_len p bs) 0) e

-- a disjunction holds by its right part
or_right : (x y : Bool) → y ≡ true → (x || y) ≡ true
or_right true y e = refl
or_right false y e = e

-- a disjunction holds by its left part
or_left : (x y : Bool) → x ≡ true → (x || y) ≡ true
or_left x y e = ap (λ (t : Bool). t || y) e

-- one of a run is a front of the longest
run_within : (p : ℕ → Bool) (bs : List ℕ) (n : ℕ) → n ≤ length bs → list_all p (take n bs) ≡ true → n ≤ prefix_len p bs
run_within p bs zero h e = omega arith
run_within p [] (suc n) h e = omega arith
run_within p (b ∷ bs) (suc n) h e =
    let parts = and_parts (p b) (list_all p (take n bs)) e in
    let more = run_within p bs n (omega arith) parts.1 in
    let here = run_more p b bs parts.0 in
    omega arith

-- the run has passing bytes alone
run_is : (p : ℕ → Bool) (bs : List ℕ) → list_all p (take (prefix_len p bs) bs) ≡ true
run_is p [] = refl
run_is p (b ∷ bs) =
    let more = run_is p bs in
    ⊎_elim
    (λ e. rw (run_more p b bs e) (and_from (p b) _ e more))
    (λ e. rw (run_stop p b bs e) refl)
    (cases_Bool (p b))

-- the longest front of a form, behind a first byte
pub record Rests (form : List ℕ → Bool) (bs : List ℕ) (m : ℕ) : Type 0 where
  pub within : m ≤ length bs
  pub has : form (take m bs) ≡ true
  pub longest : (n : ℕ) → n ≤ length bs → form (take n bs) ≡ true → n ≤ m

-- no front has the form
abbrev pub NoRest : (List ℕ → Bool) → List ℕ → Type 0
NoRest form bs = (n : ℕ) → n ≤ length bs → form (take n bs) ≡ true → ⊥

-- the run is the longest front of passing bytes
run_rests : (p : ℕ → Bool) (bs : List ℕ) → Rests (list_all p) bs (prefix_len p bs)
run_rests p bs = record { within = prefix_len-le-length p bs; has = run_is p bs; longest = run_within p bs }

-- digits are a run of digits that is not empty
digits_all : (bs : List ℕ) → are_digits bs ≡ true → (list_all is_digit bs ≡ true) × (0 < length bs)
unfolding are_digits
digits_all [] e = absurd (false≢true e)
digits_all (b ∷ bs) e = (e, omega arith)

-- a run of digits that is not empty is digits
digits_from : (bs : List ℕ) → list_all is_digit bs ≡ true → 0 < length bs → are_digits bs ≡ true
unfolding are_digits
digits_from [] e h = absurd (omega arith)
digits_from (b ∷ bs) e h = e

-- a point is no digit
point_no_digit : (b : ℕ) → (b == 46) ≡ true → is_digit b ≡ false
point_no_digit b e = grind (arith, nat_tests)

-- a digit makes the rest of a number one longer
rest_digit : (b : ℕ) (bs : List ℕ) → is_digit b ≡ true → number_rest (b ∷ bs) ≡ suc (number_rest bs)
unfolding number_rest
rest_digit b bs e = ap (λ (x : Bool). cond x (1 + number_rest bs) (fraction_len (b ∷ bs))) e ∙ suc_is _

-- behind the digits the rest of a number is its fraction
rest_other : (b : ℕ) (bs : List ℕ) → is_digit b ≡ false → number_rest (b ∷ bs) ≡ fraction_len (b ∷ bs)
unfolding number_rest
rest_other b bs e = ap (λ (x : Bool). cond x (1 + number_rest bs) (fraction_len (b ∷ bs))) e

-- a point with digits behind it is a fraction
fraction_is : (b : ℕ) (bs : List ℕ) → (b == 46) ≡ true → 0 < prefix_len is_digit bs → fraction_len (b ∷ bs) ≡ suc (prefix_len is_digit bs)
unfolding fraction_len
fraction_is b bs e h = rw (e, lt-ltb _ _ h) (suc_is _)

-- no point, or one without digits, is no fraction
fraction_none : (b : ℕ) (bs : List ℕ) → ((b == 46) && ltb 0 (prefix_len is_digit bs)) ≡ false → fraction_len (b ∷ bs) ≡ 0
unfolding fraction_len
fraction_none b bs e = ap (λ (x : Bool). cond x (1 + prefix_len is_digit bs) 0) e

-- the rest of a number is no longer than `number_rest`
number_within : (bs : List ℕ) (n : ℕ) → n ≤ length bs → ends_number (take n bs) ≡ true → n ≤ number_rest bs
unfolding ends_number
number_within bs zero h e = omega arith
number_within [] (suc n) h e = absurd (omega arith)
number_within (b ∷ bs) (suc n) h e =
    let more = number_within bs n (omega arith) in
    ⊎_elim
    (λ l. let parts = and_parts (is_digit b) _ l in let m = more parts.1 in let r = rest_digit b bs parts.0 in omega arith)
    (λ l.
    let parts = and_parts (b == 46) _ l in
    let ds = digits_all (take n bs) parts.1 in
    let w = run_within is_digit bs n (omega arith) ds.0 in
    let some : 0 < n = some_taken n bs ds.1 in
    let r = rest_other b bs (point_no_digit b parts.0) in
    let f = fraction_is b bs parts.0 (omega arith) in
    omega arith)
    (or_cases (is_digit b && ends_number (take n bs)) ((b == 46) && are_digits (take n bs)) e)

-- `number_rest` bytes are the rest of a number
number_has : (bs : List ℕ) → (number_rest bs ≤ length bs) × (ends_number (take (number_rest bs) bs) ≡ true)
unfolding ends_number number_rest
number_has [] = (omega arith, refl)
number_has (b ∷ bs) =
    let more = number_has bs in
    ⊎_elim
    (λ d. rw (rest_digit b bs d) (omega arith, or_left _ _ (and_from _ _ d more.1)))
    (λ d. rw (rest_other b bs d) (
    ⊎_elim
    (λ f.
    let parts = and_parts _ _ f in
    let some = ltb-true _ _ parts.1 in
    let w = prefix_len-le-length is_digit bs in
    rw (fraction_is b bs parts.0 some) (omega arith, or_right _ _ (and_from _ _ parts.0 (digits_from _ (run_is is_digit bs) (taken_some _ bs some w)))))
    (λ f. rw (fraction_none b bs f) (omega arith, refl))
    (cases_Bool ((b == 46) && ltb 0 (prefix_len is_digit bs)))))
    (cases_Bool (is_digit b))

-- a `"` is not plain
quote_not_plain : (b : ℕ) → (b == 34) ≡ true → is_plain b ≡ false
quote_not_plain b e = grind (arith, nat_tests)

-- the byte 34 passes the test for `"`
eqb_34 : (b : ℕ) → b ≡ 34 → (b == 34) ≡ true
eqb_34 b e = rw e refl

-- what a closed front is: plain bytes and a `"`
quoted_within : (bs : List ℕ) (n : ℕ) → n ≤ length bs → ends_quoted (take n bs) ≡ true
    → (n ≡ suc (prefix_len is_plain bs)) × (get_or bs (prefix_len is_plain bs) 0 ≡ 34)
unfolding ends_quoted
quoted_within bs zero h e = absurd (false≢true e)
quoted_within [] (suc n) h e = absurd (omega arith)
quoted_within (b ∷ bs) (suc zero) h e = rw (run_stop is_plain b bs (quote_not_plain b e)) (refl, eqb-true _ _ e)
quoted_within (b ∷ []) (suc (suc n)) h e = absurd (omega arith)
quoted_within (b ∷ c ∷ bs) (suc (suc n)) h e =
    let parts = and_parts (is_plain b) _ e in
    let more = quoted_within (c ∷ bs) (suc n) (omega arith) parts.1 in
    rw (run_more is_plain b (c ∷ bs) parts.0) (ap (λ (x : ℕ). suc x) more.0, more.1)

-- plain bytes and a `"` are a closed front
quoted_has : (bs : List ℕ) → get_or bs (prefix_len is_plain bs) 0 ≡ 34
    → (suc (prefix_len is_plain bs) ≤ length bs) × (ends_quoted (take (suc (prefix_len is_plain bs)) bs) ≡ true)
unfolding ends_quoted
quoted_has [] e = absurd (omega (arith, e))
quoted_has (b ∷ []) e =
    ⊎_elim
    (λ p. let same : get_or (b ∷ []) (prefix_len is_plain (b ∷ [])) 0 ≡ 0 = rw (run_more is_plain b [] p) refl in absurd (omega (arith, e, same)))
    (λ p. let same : get_or (b ∷ []) (prefix_len is_plain (b ∷ [])) 0 ≡ b = rw (run_stop is_plain b [] p) refl in rw (run_stop is_plain b [] p) (omega arith, eqb_34 b (sym same ∙ e)))
    (cases_Bool (is_plain b))
quoted_has (b ∷ c ∷ bs) e =
    let more = quoted_has (c ∷ bs) in
    ⊎_elim
    (λ p.
    let same : get_or (b ∷ c ∷ bs) (prefix_len is_plain (b ∷ c ∷ bs)) 0 ≡ get_or (c ∷ bs) (prefix_len is_plain (c ∷ bs)) 0 = rw (run_more is_plain b (c ∷ bs) p) refl in
    let m = more (sym same ∙ e) in
    rw (run_more is_plain b (c ∷ bs) p) (omega (arith, m.0), and_from (is_plain b) _ p m.1))
    (λ p.
    let same : get_or (b ∷ c ∷ bs) (prefix_len is_plain (b ∷ c ∷ bs)) 0 ≡ b = rw (run_stop is_plain b (c ∷ bs) p) refl in
    rw (run_stop is_plain b (c ∷ bs) p) (omega arith, eqb_34 b (sym same ∙ e)))
    (cases_Bool (is_plain b))

-- `closed_len` is the longest closed front, if there is one
closed_rests : (bs : List ℕ) → MatchOption (closed_len bs) (NoRest ends_quoted bs) (λ m. Rests ends_quoted bs m)
unfolding closed_len
closed_rests bs = go (get_or bs (prefix_len is_plain bs) 0 == 34) refl
  where
    go : (t : Bool) → (get_or bs (prefix_len is_plain bs) 0 == 34) ≡ t → MatchOption (cond t (Some (prefix_len is_plain bs + 1)) None) (NoRest ends_quoted bs) (λ m. Rests ends_quoted bs m)
    go true e =
        let has = quoted_has bs (eqb-true _ _ e) in
        let more : prefix_len is_plain bs + 1 ≡ suc (prefix_len is_plain bs) = omega arith in
        rw more (record { within = has.0; has = has.1; longest = λ n h f. let w = quoted_within bs n h f in omega (arith, w.0) })
    go false e = λ n h f. let w = quoted_within bs n h f in absurd (eqb-false _ _ e w.1)

-- behind a mark nothing belongs to it
mark_rests : (marks : List ℕ) (b : ℕ) (bs : List ℕ) → list_any (λ m. b == m) marks ≡ true → Rests (λ rest. is_mark marks (b ∷ rest)) bs 0
unfolding is_mark
mark_rests marks b bs e = record {
  within = omega arith;
  has = e;
  longest = λ n h f. let none = (mark_is marks b (take n bs) f).1 in let l : length (take n bs) ≡ 0 = ap length none in omega (arith, length-take n bs, l);
}

-- behind its first byte a name is the run of name bytes
name_rests : (b : ℕ) (bs : List ℕ) → is_name_start b ≡ true → Rests (λ rest. is_name (b ∷ rest)) bs (prefix_len is_name_byte bs)
unfolding is_name
name_rests b bs e = record {
  within = prefix_len-le-length is_name_byte bs;
  has = and_from _ _ e (run_is is_name_byte bs);
  longest = λ n h f. run_within is_name_byte bs n h (and_parts (is_name_start b) _ f).1;
}

-- behind its first digit a number is `number_rest` bytes
number_rests : (b : ℕ) (bs : List ℕ) → is_digit b ≡ true → Rests (λ rest. is_number (b ∷ rest)) bs (number_rest bs)
unfolding is_number
number_rests b bs e = let has = number_has bs in record {
  within = has.0;
  has = and_from _ _ e has.1;
  longest = λ n h f. number_within bs n h (and_parts (is_digit b) _ f).1;
}

-- behind its first `"` a quoted text is `closed_len` bytes, if it is closed
quoted_rests : (b : ℕ) (bs : List ℕ) → (b == 34) ≡ true → MatchOption (closed_len bs) (NoRest (λ rest. is_quoted (b ∷ rest)) bs) (λ m. Rests (λ rest. is_quoted (b ∷ rest)) bs m)
unfolding is_quoted
quoted_rests b bs e = go (closed_len bs) (closed_rests bs)
  where
    go : (o : Option ℕ) → MatchOption o (NoRest ends_quoted bs) (λ m. Rests ends_quoted bs m) → MatchOption o (NoRest (λ rest. is_quoted (b ∷ rest)) bs) (λ m. Rests (λ rest. is_quoted (b ∷ rest)) bs m)
    go None none = λ n h f. none n h (and_parts (b == 34) _ f).1
    go (Some m) r = record { within = r.within; has = and_from _ _ e r.has; longest = λ n h f. r.longest n h (and_parts (b == 34) _ f).1 }

-- what `rest_len` says of the kind that the first byte tells
rest_rests : (k : Kind) (b : ℕ) (bs : List ℕ) → is_start k b ≡ true
    → MatchOption (rest_len k bs) (NoRest (λ rest. is_token k (b ∷ rest)) bs) (λ m. Rests (λ rest. is_token k (b ∷ rest)) bs m)
unfolding is_token rest_len
rest_rests Ident b bs e = name_rests b bs e
rest_rests Number b bs e = number_rests b bs e
rest_rests Quoted b bs e = quoted_rests b bs e
rest_rests Semi b bs e = mark_rests _ b bs e
rest_rests Comma b bs e = mark_rests _ b bs e
rest_rests LeftBracket b bs e = mark_rests _ b bs e
rest_rests RightBracket b bs e = mark_rests _ b bs e
rest_rests LeftBrace b bs e = mark_rests _ b bs e
rest_rests RightBrace b bs e = mark_rests _ b bs e
rest_rests LeftParen b bs e = mark_rests _ b bs e
rest_rests RightParen b bs e = mark_rests _ b bs e
rest_rests Other b bs e = mark_rests _ b bs e

-- no token is empty
pub no_empty : (k : Kind) → is_token k [] ≡ true → ⊥
unfolding is_token is_name is_number is_quoted is_mark
no_empty Ident e = false≢true e
no_empty Number e = false≢true e
no_empty Quoted e = false≢true e
no_empty Semi e = false≢true e
no_empty Comma e = false≢true e
no_empty LeftBracket e = false≢true e
no_empty RightBracket e = false≢true e
no_empty LeftBrace e = false≢true e
no_empty RightBrace e = false≢true e
no_empty LeftParen e = false≢true e
no_empty RightParen e = false≢true e
no_empty Other e = false≢true e

-- a token at the front has the kind that the first byte tells
pub at_front : (b : ℕ) (bs : List ℕ) (k : Kind) (n : ℕ) → BeginsWith (b ∷ bs) k n
    → (m : ℕ) × (n ≡ suc m) × (m ≤ length bs) × (kind_at b ≡ Some k) × (is_token k (b ∷ take m bs) ≡ true)
at_front b bs k zero t = absurd (no_empty k t.1)
at_front b bs k (suc m) t = (m, refl, omega (arith, t.0), kind_of_start b k (starts k b (take m bs) t.1), t.1)

-- what is at the front: no token, or the longest of this kind and length
abbrev pub IsFront : List ℕ → Option (Kind × ℕ) → Type 0
IsFront bs None = NoToken bs
IsFront bs (Some f) = IsLongest bs f.0 f.1

-- `front` gives the longest token at the front, or none
pub front_is : (bs : List ℕ) → IsFront bs (front bs)
unfolding front
front_is [] = λ k n t. none_at k n t
  where
    none_at : (k : Kind) (n : ℕ) → BeginsWith [] k n → ⊥
    none_at k zero t = no_empty k t.1
    none_at k (suc n) t = absurd (omega (arith, t.0))
front_is (b ∷ bs) = go (kind_at b) refl
  where
    rest : (k : Kind) → kind_at b ≡ Some k → (o : Option ℕ) → MatchOption o (NoRest (λ rest. is_token k (b ∷ rest)) bs) (λ m. Rests (λ rest. is_token k (b ∷ rest)) bs m)
        → IsFront (b ∷ bs) (option_and_then {T = ℕ} (λ n. Some (k, 1 + n)) o)
    rest k e None none = λ l n t.
        let f = at_front b bs l n t in
        let same : l ≡ k = cc in
        none f.0 f.2 (subst (λ (x : Kind). is_token x (b ∷ take f.0 bs) ≡ true) same f.4)
    rest k e (Some m) r = subst (λ (x : ℕ). IsLongest (b ∷ bs) k x) (sym (suc_is m)) (record {
      token = (omega (arith, r.within), r.has);
      longest = λ l n t.
          let f = at_front b bs l n t in
          let same : l ≡ k = cc in
          let w = r.longest f.0 f.2 (subst (λ (x : Kind). is_token x (b ∷ take f.0 bs) ≡ true) same f.4) in
          omega (arith, w, f.1);
    })

    go : (o : Option Kind) → kind_at b ≡ o → IsFront (b ∷ bs) (option_and_then (λ (k : Kind). option_and_then (λ (n : ℕ). Some (k, 1 + n)) (rest_len k bs)) o)
    go None e = λ l n t. let f = at_front b bs l n t in absurd (cc)
    go (Some k) e = rest k e (rest_len k bs) (rest_rests k b bs (start_of b k e))
