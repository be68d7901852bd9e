-- A list cut at its first element of a kind.
use Rattle.std.proofs.Common.{◌≡◌, ℕ, suc, ◌+◌, ◌-◌, Bool, true, false, cond, not, List, [], ◌∷◌, ◌++◌, length, map, take, drop, Option, Some, None, arith, ap, ◌∙◌, sym, refl, ⊎_elim, append_assoc}
use Rattle.std.specs.List.{slice_split, onto_first, position_or_len, prefix_len}
use Rattle.std.proofs.lemmas.Bool.{cases_Bool}
use Rattle.std.proofs.lemmas.List.Splits.{slice_split-cons_yes, slice_split-cons_no}
use Rattle.qasm_lex.specs.declared.token.Kind.{Kind}
use Rattle.qasm_lex.specs.declared.token.Kind.TheVariants.{Comma}
use Rattle.qasm_reader.specs.declared.lexemes.Lexeme.{Lexeme as CodeLexeme}
use Rattle.qasm_reader.specs.View.{lexeme, lexemes}
use Rattle.std.proofs.lemmas.List.{take_all, length-drop, take-map, drop-map, drop-drop}
use Rattle.qasm_reader.specs.Lexemes.{Lexeme, is_kind}
use Rattle.qasm_reader.specs.Forms.{Argument}
use Rattle.qasm_reader.specs.Parse.{argument_at, consed, all_some, arguments_at}

-- an element that passes is the first to pass
pub position_yes : {A : Type 0} (p : A → Bool) (x : A) (xs : List A) → p x ≡ true → position_or_len p (x ∷ xs) ≡ 0
position_yes p x xs e = ap (λ (t : Bool). cond (not t) (1 + position_or_len p xs) 0) e

-- an element that fails stands before the first to pass
pub position_no : {A : Type 0} (p : A → Bool) (x : A) (xs : List A) → p x ≡ false → position_or_len p (x ∷ xs) ≡ suc (position_or_len p xs)
position_no p x xs e = ap (λ (t : Bool). cond (not t) (1 + position_or_len p xs) 0) e ∙ omega arith

-- a run of images is a run
pub prefix_len-map : {A B : Type 0} (p : B → Bool) (f : A → B) (xs : List A) → prefix_len p (map f xs) ≡ prefix_len (λ x. p (f x)) xs
prefix_len-map p f [] = refl
prefix_len-map p f (x ∷ xs) = ap (λ (n : ℕ). cond (p (f x)) (1 + n) 0) (prefix_len-map p f xs)

-- the last part, and a part before another
pub part_last : {A : Type 0} (p : A → Bool) (xs : List A) → drop (position_or_len p xs) xs ≡ [] → slice_split p xs ≡ take (position_or_len p xs) xs ∷ []
part_last p [] e = refl
part_last p (x ∷ xs) e =
    ⊎_elim
    (λ (t : p x ≡ true). let none : x ∷ xs ≡ [] = sym (ap (λ (n : ℕ). drop n (x ∷ xs)) (position_yes p x xs t)) ∙ e in absurd (cc))
    (λ (t : p x ≡ false).
    let n = position_no p x xs t in
    let more = part_last p xs (sym (ap (λ (n : ℕ). drop n (x ∷ xs)) n) ∙ e) in
    slice_split-cons_no p x xs t ∙ ap (onto_first x) more ∙ ap (λ (n : ℕ). take n (x ∷ xs) ∷ []) (sym n))
    (cases_Bool (p x))

-- a part before another
pub part_next : {A : Type 0} (p : A → Bool) (xs : List A) (w : A) (ys : List A) → drop (position_or_len p xs) xs ≡ w ∷ ys
    → slice_split p xs ≡ take (position_or_len p xs) xs ∷ slice_split p ys
part_next p [] w ys e = absurd (cc)
part_next p (x ∷ xs) w ys e =
    ⊎_elim
    (λ (t : p x ≡ true).
    let same : x ∷ xs ≡ w ∷ ys = sym (ap (λ (n : ℕ). drop n (x ∷ xs)) (position_yes p x xs t)) ∙ e in
    let rest : xs ≡ ys = cc in
    slice_split-cons_yes p x xs t ∙ ap (λ (l : List _). [] ∷ slice_split p l) rest ∙ ap (λ (n : ℕ). take n (x ∷ xs) ∷ slice_split p ys) (sym (position_yes p x xs t)))
    (λ (t : p x ≡ false).
    let n = position_no p x xs t in
    let more = part_next p xs w ys (sym (ap (λ (n : ℕ). drop n (x ∷ xs)) n) ∙ e) in
    slice_split-cons_no p x xs t ∙ ap (onto_first x) more ∙ ap (λ (n : ℕ). take n (x ∷ xs) ∷ slice_split p ys) (sym n))
    (cases_Bool (p x))

-- what is read so far, and what the rest gives
abbrev pub with_front : {A : Type 0} → List A → Option (List A) → Option (List A)
with_front front None = None
with_front front (Some xs) = Some (front ++ xs)

-- one value more is read
pub with_more : {A : Type 0} (front : List A) (x : A) (o : Option (List A)) → with_front front (consed (Some x) o) ≡ with_front (front ++ x ∷ []) o
with_more front x None = refl
with_more front x (Some xs) = ap (λ (l : List _). Some l) (sym (append_assoc front (x ∷ []) xs))

-- nothing is read yet
pub with_nothing : {A : Type 0} (o : Option (List A)) → with_front [] o ≡ o
with_nothing None = refl
with_nothing (Some xs) = refl

-- what the first part and the rest say of the whole
pub record FirstPart (k : Kind) (all part more : List Lexeme) : Type 0 where
  pub size : ℕ
  pub first : size ≡ position_or_len (is_kind k) all
  pub front : part ≡ take size all
  pub rest : more ≡ drop size all

-- the first part and the rest are the parts
pub split_of : (k : Kind) (all part more : List Lexeme) → FirstPart k all part more
    → (more ≡ [] → slice_split (is_kind k) all ≡ part ∷ []) × ((w : Lexeme) (ys : List Lexeme) → more ≡ w ∷ ys → slice_split (is_kind k) all ≡ part ∷ slice_split (is_kind k) ys)
split_of k all part more f =
    let front : take (position_or_len (is_kind k) all) all ≡ part = ap (λ (n : ℕ). take n all) (sym f.first) ∙ sym f.front in
    let rest : drop (position_or_len (is_kind k) all) all ≡ more = ap (λ (n : ℕ). drop n all) (sym f.first) ∙ sym f.rest in (
      λ e. part_last (is_kind k) all (rest ∙ e) ∙ ap (λ (l : List Lexeme). l ∷ []) front,
      λ w ys e. part_next (is_kind k) all w ys (rest ∙ e) ∙ ap (λ (l : List Lexeme). l ∷ slice_split (is_kind k) ys) front,
    )

-- where the first part is no argument there are none
pub none_read : (all part more : List Lexeme) → FirstPart Comma all part more → argument_at part ≡ None → arguments_at all ≡ None
unfolding arguments_at
none_read all part [] f e =
    ap (λ (l : List (List Lexeme)). all_some (map argument_at l)) ((split_of Comma all part [] f).0 refl) ∙ ap (λ (o : Option Argument). consed o (Some [])) e
none_read all part (w ∷ ys) f e =
    ap (λ (l : List (List Lexeme)). all_some (map argument_at l)) ((split_of Comma all part (w ∷ ys) f).1 w ys refl) ∙ ap (λ (o : Option Argument). consed o (all_some (map argument_at (slice_split (is_kind Comma) ys)))) e

-- where there is no other part the first is all
pub last_read : (all part more : List Lexeme) (a : Argument) → FirstPart Comma all part more → more ≡ [] → argument_at part ≡ Some a → arguments_at all ≡ Some (a ∷ [])
unfolding arguments_at
last_read all part more a f m e =
    ap (λ (l : List (List Lexeme)). all_some (map argument_at l)) ((split_of Comma all part more f).0 m) ∙ ap (λ (o : Option Argument). consed o (Some [])) e

-- behind the first part the rest is read
pub next_read : (all part more : List Lexeme) (a : Argument) → FirstPart Comma all part more → (more ≡ [] → ⊥) → argument_at part ≡ Some a → arguments_at all ≡ consed (Some a) (arguments_at (drop 1 more))
unfolding arguments_at
next_read all part [] a f m e = absurd (m refl)
next_read all part (w ∷ ys) a f m e =
    ap (λ (l : List (List Lexeme)). all_some (map argument_at l)) ((split_of Comma all part (w ∷ ys) f).1 w ys refl) ∙ ap (λ (o : Option Argument). consed o (all_some (map argument_at (slice_split (is_kind Comma) ys)))) e

-- the same of the code's lexemes
pub first_part : (k : Kind) (ws : List CodeLexeme) (at n : ℕ) (part more : List CodeLexeme)
    → n ≡ position_or_len (is_kind k) (lexemes (take (length ws - at) (drop at ws)))
    → part ≡ take n (take (length ws - at) (drop at ws)) → more ≡ drop n (take (length ws - at) (drop at ws))
    → FirstPart k (lexemes (drop at ws)) (lexemes part) (lexemes more)
first_part k ws at n part more p f r =
    let whole : take (length ws - at) (drop at ws) ≡ drop at ws = take_all _ _ (omega (arith, length-drop at ws)) in
    record {
      size = n;
      first = p ∙ ap (λ (l : List CodeLexeme). position_or_len (is_kind k) (lexemes l)) whole;
      front = ap lexemes f ∙ ap (λ (l : List CodeLexeme). lexemes (take n l)) whole ∙ sym (take-map lexeme n (drop at ws));
      rest = ap lexemes r ∙ ap (λ (l : List CodeLexeme). lexemes (drop n l)) whole ∙ sym (drop-map lexeme n (drop at ws));
    }

-- behind a part, what the rest is of the code's lexemes
pub behind_part : (ws : List CodeLexeme) (at n : ℕ) (part more : List CodeLexeme) → length part ≡ n
    → more ≡ drop n (take (length ws - at) (drop at ws)) → drop 1 more ≡ drop (at + (length part + 1)) ws
behind_part ws at n part more size r =
    let whole : take (length ws - at) (drop at ws) ≡ drop at ws = take_all _ _ (omega (arith, length-drop at ws)) in
    ap (λ (l : List CodeLexeme). drop 1 l) (r ∙ ap (λ (l : List CodeLexeme). drop n l) whole ∙ drop-drop n at ws) ∙ drop-drop 1 (at + n) ws ∙ ap (λ (k : ℕ). drop k ws) (omega (arith, size))
