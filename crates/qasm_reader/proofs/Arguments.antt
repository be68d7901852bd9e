-- Arguments: how they are spelled and found.
use Rattle.std.proofs.Common.{◌≡◌, ℕ, Bool, true, false, cond, ◌||◌, ◌==◌, List, [], ◌∷◌, ◌++◌, map, Option, Some, None, arith, ap, ◌∙◌, sym, refl, subst, ⊎_elim, ◌⊎◌, inl, inr}
use Rattle.std.proofs.lemmas.List.{map-append}
use Rattle.std.specs.Prelude.{IsTrue, IfSome, codes, option_map, option_and_then}
use Rattle.std.specs.List.{slice_split, onto_first, list_any}
use Rattle.std.specs.Str.{bytes_eq}
use Rattle.std.proofs.lemmas.Bool.{and_parts, and_from, cases_Bool, not-true}
use Rattle.std.proofs.lemmas.List.Splits.{slice_split-cons_yes, slice_split-cons_no}
use Rattle.qasm_lex.specs.declared.token.Kind.{Kind}
use Rattle.qasm_lex.specs.declared.token.Kind.TheVariants.{Semi, Comma, LeftBracket, RightBracket}
use Rattle.qasm_reader.specs.Lexemes.{Lexeme, code_of, is_kind, is_ident, is_free, is_whole, is_reserved, reserved, is_name, is_digits}
use Rattle.qasm_reader.specs.Forms.{Shape, shape, ident, quoted, mark, in_brackets, index_in, Argument, argument, arguments, Form, Include, Qreg, Creg, Barrier, Apply, spelled, IsArgument, AreArguments, HasParts, IsForm, HasForm}
use Rattle.qasm_reader.specs.Parse.{body_of, indexed_at, indexed_argument, argument_at, consed, all_some, arguments_at, include_at, form_behind, form_in, form_of}
use Rattle.qasm_reader.proofs.Shapes.{to_mark, from_mark, to_quoted, from_quoted, to_ident, from_ident, to_name, from_name, to_digits, from_digits, not_ident}

-- a test that was passed
pub chosen : {A : Type 0} (t : Bool) (x y : A) → cond t (Some x) None ≡ Some y → (t ≡ true) × (x ≡ y)
chosen true x y e = (refl, cc)
chosen false x y e = absurd (cc)

-- a value that was mapped
pub mapped : {A B : Type 0} (f : A → B) (o : Option A) (y : B) → option_map f o ≡ Some y → (x : A) × (o ≡ Some x) × (f x ≡ y)
mapped f None y e = absurd (cc)
mapped f (Some x) y e = (x, refl, cc)

-- `name [ digits ]`
pub indexed_is : (ws : List Lexeme) (x : List ℕ × List ℕ) → indexed_at ws ≡ Some x
    → (map shape ws ≡ ident x.0 ∷ in_brackets x.1) × (is_free x.0 ≡ true) × (is_whole x.1 ≡ true)
unfolding indexed_at
indexed_is [] x e = absurd (cc)
indexed_is (n ∷ []) x e = absurd (cc)
indexed_is (n ∷ o ∷ []) x e = absurd (cc)
indexed_is (n ∷ o ∷ d ∷ []) x e = absurd (cc)
indexed_is (n ∷ o ∷ d ∷ c ∷ []) x e =
    let t = chosen _ _ _ e in
    let p = and_parts (is_name n) _ t.0 in
    let q = and_parts (is_kind LeftBracket o) _ p.1 in
    let r = and_parts (is_digits d) _ q.1 in
    let name = to_name n p.0 in
    let digits = to_digits d r.0 in
    let left = to_mark o LeftBracket refl q.0 in
    let close = to_mark c RightBracket refl r.1 in
    subst (λ (y : List ℕ × List ℕ). (map shape (n ∷ o ∷ d ∷ c ∷ []) ≡ ident y.0 ∷ in_brackets y.1) × (is_free y.0 ≡ true) × (is_whole y.1 ≡ true)) t.1
    (cc (name.0, left, digits.0, close), name.1, digits.1)
indexed_is (n ∷ o ∷ d ∷ c ∷ w ∷ ws) x e = absurd (cc)

-- a name and digits in brackets are found
pub is_indexed : (ws : List Lexeme) (name digits : List ℕ) → map shape ws ≡ ident name ∷ in_brackets digits → is_free name ≡ true → is_whole digits ≡ true
    → indexed_at ws ≡ Some (name, digits)
unfolding indexed_at
is_indexed [] name digits e f g = absurd (cc)
is_indexed (n ∷ []) name digits e f g = absurd (cc)
is_indexed (n ∷ o ∷ []) name digits e f g = absurd (cc)
is_indexed (n ∷ o ∷ d ∷ []) name digits e f g = absurd (cc)
is_indexed (n ∷ o ∷ d ∷ c ∷ []) name digits e f g =
    let a = from_name n name (cc) f in
    let b = from_mark o LeftBracket (cc) in
    let h = from_digits d digits (cc) g in
    let i = from_mark c RightBracket (cc) in
    rw (and_from _ _ a.0 (and_from _ _ b (and_from _ _ h.0 i)), a.1, h.1) refl
is_indexed (n ∷ o ∷ d ∷ c ∷ w ∷ ws) name digits e f g = absurd (cc)

-- an argument
pub argument_is : (ws : List Lexeme) (a : Argument) → argument_at ws ≡ Some a → (map shape ws ≡ argument a) × IsArgument a
unfolding argument_at
argument_is [] a e = absurd (cc)
argument_is (n ∷ []) a e =
    let t = chosen _ _ _ e in
    let name = to_name n t.0 in
    subst (λ (x : Argument). (map shape (n ∷ []) ≡ argument x) × IsArgument x) t.1 (cc (name.0), (name.1, tt))
argument_is (n ∷ o ∷ ws) a e =
    let m = mapped indexed_argument _ a e in
    let i = indexed_is (n ∷ o ∷ ws) m.0 m.1 in
    subst (λ (x : Argument). (map shape (n ∷ o ∷ ws) ≡ argument x) × IsArgument x) m.2 (i.0, (i.1, i.2))

-- a name alone is an argument
is_plain_argument : (ws : List Lexeme) (name : List ℕ) → map shape ws ≡ ident name ∷ [] → is_free name ≡ true → argument_at ws ≡ Some (record { name = name; index = None })
unfolding argument_at
is_plain_argument [] name e f = absurd (cc)
is_plain_argument (n ∷ []) name e f = let a = from_name n name (cc) f in rw (a.0, a.1) refl
is_plain_argument (n ∷ o ∷ ws) name e f = absurd (cc)

-- a name and digits in brackets are an argument
is_indexed_argument : (ws : List Lexeme) (name digits : List ℕ) → map shape ws ≡ ident name ∷ in_brackets digits → is_free name ≡ true → is_whole digits ≡ true
    → argument_at ws ≡ Some (record { name = name; index = Some digits })
unfolding argument_at
is_indexed_argument [] name digits e f g = absurd (cc)
is_indexed_argument (n ∷ []) name digits e f g = absurd (cc)
is_indexed_argument (n ∷ o ∷ ws) name digits e f g = ap (option_map indexed_argument) (is_indexed (n ∷ o ∷ ws) name digits e f g)

-- an argument that is spelled is found
pub is_argument : (ws : List Lexeme) (a : Argument) → map shape ws ≡ argument a → IsArgument a → argument_at ws ≡ Some a
is_argument ws a e f = go a.index ws e f.0 f.1
  where
    go : (o : Option (List ℕ)) (vs : List Lexeme) → map shape vs ≡ ident a.name ∷ index_in o → is_free a.name ≡ true → IfSome o (λ digits. IsTrue (is_whole digits))
        → argument_at vs ≡ Some (record { name = a.name; index = o })
    go None vs g h i = is_plain_argument vs a.name g h
    go (Some digits) vs g h i = is_indexed_argument vs a.name digits g h i

-- the parts between lexemes of a kind, joined again
abbrev pub IsJoin : Kind → List Lexeme → List (List Lexeme) → Type 0
IsJoin k ws [] = ⊥
IsJoin k ws (x ∷ []) = ws ≡ x
IsJoin k ws (x ∷ y ∷ ps) = (w : Lexeme) × (rest : List Lexeme) × (is_kind k w ≡ true) × (ws ≡ x ++ w ∷ rest) × IsJoin k rest (y ∷ ps)

-- a lexeme of the kind begins a part
mark_before : (k : Kind) (w : Lexeme) (ws : List Lexeme) (ps : List (List Lexeme)) → is_kind k w ≡ true → IsJoin k ws ps → IsJoin k (w ∷ ws) ([] ∷ ps)
mark_before k w ws [] c j = absurd j
mark_before k w ws (y ∷ ps) c j = (w, ws, c, refl, j)

-- another lexeme goes to the first part
lexeme_before : (k : Kind) (w : Lexeme) (ws : List Lexeme) (ps : List (List Lexeme)) → IsJoin k ws ps → IsJoin k (w ∷ ws) (onto_first w ps)
lexeme_before k w ws [] j = absurd j
lexeme_before k w ws (x ∷ []) j = ap (λ (l : List Lexeme). w ∷ l) j
lexeme_before k w ws (x ∷ y ∷ ps) j = (j.0, j.1, j.2, ap (λ (l : List Lexeme). w ∷ l) j.3, j.4)

-- the parts between lexemes of a kind make up the whole
pub join_split : (k : Kind) (ws : List Lexeme) → IsJoin k ws (slice_split (is_kind k) ws)
join_split k [] = refl
join_split k (w ∷ ws) =
    let more = join_split k ws in
    ⊎_elim
    (λ (c : is_kind k w ≡ true). subst (IsJoin k (w ∷ ws)) (sym (slice_split-cons_yes (is_kind k) w ws c)) (mark_before k w ws _ c more))
    (λ (c : is_kind k w ≡ false). subst (IsJoin k (w ∷ ws)) (sym (slice_split-cons_no (is_kind k) w ws c)) (lexeme_before k w ws _ more))
    (cases_Bool (is_kind k w))

-- a first value and the rest of a list that was found
pub consed_is : {A : Type 0} (o : Option A) (r : Option (List A)) (xs : List A) → consed o r ≡ Some xs → (y : A) × (ys : List A) × (o ≡ Some y) × (r ≡ Some ys) × (y ∷ ys ≡ xs)
consed_is None r xs e = absurd (cc)
consed_is (Some y) None xs e = absurd (cc)
consed_is (Some y) (Some ys) xs e = (y, ys, refl, refl, cc)

-- the lexemes are these arguments, spelled
abbrev pub IsList : List Lexeme → List Argument → Type 0
IsList ws args = (map shape ws ≡ arguments args) × AreArguments args

-- one argument is a list of arguments
one_argument : (ws : List Lexeme) (a : Argument) → (map shape ws ≡ argument a) × IsArgument a → IsList ws (a ∷ [])
unfolding arguments
one_argument ws a h = (h.0, (omega arith, (h.1, tt)))

-- an argument, a comma and arguments are arguments
more_arguments : (xs : List Lexeme) (w : Lexeme) (rest : List Lexeme) (a : Argument) (args : List Argument) → is_kind Comma w ≡ true
    → (map shape xs ≡ argument a) × IsArgument a → IsList rest args → IsList (xs ++ w ∷ rest) (a ∷ args)
unfolding arguments
more_arguments xs w rest a [] c h j = absurd (omega (arith, j.1.0))
more_arguments xs w rest a (b ∷ bs) c h j =
    let comma = to_mark w Comma refl c in
    (map-append shape xs (w ∷ rest) ∙ cc (h.0, comma, j.0), (omega arith, (h.1, j.1.1)))

-- parts that are arguments are arguments together
parts_are_arguments : (ps : List (List Lexeme)) (ws : List Lexeme) (args : List Argument) → IsJoin Comma ws ps → all_some (map argument_at ps) ≡ Some args → IsList ws args
parts_are_arguments [] ws args j e = absurd j
parts_are_arguments (x ∷ []) ws args j e =
    let c = consed_is (argument_at x) (Some []) args e in
    let nil : c.1 ≡ [] = cc (c.3) in
    let same : c.0 ∷ [] ≡ args = cc (c.4, nil) in
    subst (IsList ws) same (subst (λ (l : List Lexeme). IsList l (c.0 ∷ [])) (sym j) (one_argument x c.0 (argument_is x c.0 c.2)))
parts_are_arguments (x ∷ y ∷ ps) ws args j e =
    let c = consed_is (argument_at x) (all_some (map argument_at (y ∷ ps))) args e in
    let rest = parts_are_arguments (y ∷ ps) j.1 c.1 j.4 c.3 in
    subst (IsList ws) c.4 (subst (λ (l : List Lexeme). IsList l (c.0 ∷ c.1)) (sym j.3) (more_arguments x j.0 j.1 c.0 c.1 j.2 (argument_is x c.0 c.2) rest))

-- arguments that are found are spelled
pub arguments_are : (ws : List Lexeme) (args : List Argument) → arguments_at ws ≡ Some args → IsList ws args
unfolding arguments_at
arguments_are ws args e = parts_are_arguments (slice_split (is_kind Comma) ws) ws args (join_split Comma ws) e

-- shapes of which none is of the kind
abbrev pub Without : Kind → List Shape → Type 0
Without k [] = Unit {0}
Without k (s ∷ ss) = ((code_of s.kind == code_of k) ≡ false) × Without k ss

-- two lists without the kind
pub without_append : (k : Kind) (xs ys : List Shape) → Without k xs → Without k ys → Without k (xs ++ ys)
without_append k [] ys a b = b
without_append k (x ∷ xs) ys a b = (a.0, without_append k xs ys a.1 b)

-- a kind that isn't of names, digits, brackets or commas
pub record IsApart (k : Kind) : Type 0 where
  pub ident : (0 == code_of k) ≡ false
  pub number : (1 == code_of k) ≡ false
  pub comma : (4 == code_of k) ≡ false
  pub left : (5 == code_of k) ≡ false
  pub right : (6 == code_of k) ≡ false

-- an argument has no comma
in_argument : (name : List ℕ) (o : Option (List ℕ)) → Without Comma (ident name ∷ index_in o)
in_argument name None = (refl, tt)
in_argument name (Some digits) = (refl, (refl, (refl, (refl, tt))))

-- nor has it another kind apart
one_apart : (k : Kind) (name : List ℕ) (o : Option (List ℕ)) → IsApart k → Without k (ident name ∷ index_in o)
one_apart k name None h = (h.ident, tt)
one_apart k name (Some digits) h = (h.ident, (h.left, (h.number, (h.right, tt))))

-- nor have arguments
pub arguments_apart : (k : Kind) (args : List Argument) → IsApart k → Without k (arguments args)
unfolding arguments
arguments_apart k [] h = tt
arguments_apart k (a ∷ []) h = one_apart k a.name a.index h
arguments_apart k (a ∷ b ∷ args) h = without_append k (argument a) (mark Comma ∷ arguments (b ∷ args)) (one_apart k a.name a.index h) (h.comma, arguments_apart k (b ∷ args) h)

-- lexemes without the kind are one part
split_none : (k : Kind) (ws : List Lexeme) → Without k (map shape ws) → slice_split (is_kind k) ws ≡ ws ∷ []
split_none k [] n = refl
split_none k (w ∷ ws) n =
    let more = split_none k ws n.1 in
    slice_split-cons_no (is_kind k) w ws n.0 ∙ ap (onto_first w) more

-- lexemes up to the first of the kind are the first part
pub split_first : (k : Kind) (xs : List Lexeme) (y : Lexeme) (ys : List Lexeme) → Without k (map shape xs) → is_kind k y ≡ true
    → slice_split (is_kind k) (xs ++ y ∷ ys) ≡ xs ∷ slice_split (is_kind k) ys
split_first k [] y ys n c = slice_split-cons_yes (is_kind k) y ys c
split_first k (x ∷ xs) y ys n c =
    let more = split_first k xs y ys n.1 c in
    slice_split-cons_no (is_kind k) x (xs ++ y ∷ ys) n.0 ∙ ap (onto_first x) more

-- a list whose image is in two parts
pub record Parts {A B : Type 0} (f : A → B) (ws : List A) (x y : List B) : Type 0 where
  pub front : List A
  pub rest : List A
  pub whole : ws ≡ front ++ rest
  pub first : map f front ≡ x
  pub second : map f rest ≡ y

-- a list is in two parts where its image is
pub parts : {A B : Type 0} (f : A → B) (ws : List A) (x y : List B) → map f ws ≡ x ++ y → Parts f ws x y
parts f ws [] y e = record { front = []; rest = ws; whole = refl; first = refl; second = e }
parts f [] (b ∷ bs) y e = absurd (cc)
parts f (w ∷ ws) (b ∷ bs) y e =
    let p = parts f ws bs y (cc) in
    record { front = w ∷ p.front; rest = p.rest; whole = ap (λ (l : List _). w ∷ l) p.whole; first = cc (p.first); second = p.second }

-- arguments that are spelled are found
spelled_arguments : (args : List Argument) (ws : List Lexeme) → map shape ws ≡ arguments args → AreArguments args → all_some (map argument_at (slice_split (is_kind Comma) ws)) ≡ Some args
unfolding arguments
spelled_arguments [] ws e h = absurd (omega (arith, h.0))
spelled_arguments (a ∷ []) ws e h =
    let none = split_none Comma ws (subst (Without Comma) (sym e) (in_argument a.name a.index)) in
    ap (λ (l : List (List Lexeme)). all_some (map argument_at l)) none ∙ ap (λ (o : Option Argument). consed o (Some [])) (is_argument ws a e h.1.0)
spelled_arguments (a ∷ b ∷ bs) ws e h =
    let p = parts shape ws (argument a) (mark Comma ∷ arguments (b ∷ bs)) e in
    go p.rest p.front p.whole p.first p.second (λ vs f. spelled_arguments (b ∷ bs) vs f (omega arith, h.1.1))
  where
    go : (rest front : List Lexeme) → ws ≡ front ++ rest → map shape front ≡ argument a → map shape rest ≡ mark Comma ∷ arguments (b ∷ bs)
        → ((vs : List Lexeme) → map shape vs ≡ arguments (b ∷ bs) → all_some (map argument_at (slice_split (is_kind Comma) vs)) ≡ Some (b ∷ bs))
        → all_some (map argument_at (slice_split (is_kind Comma) ws)) ≡ Some (a ∷ b ∷ bs)
    go [] front whole first second more = absurd (cc)
    go (y ∷ ys) front whole first second more =
        let comma = from_mark y Comma (cc) in
        let split = split_first Comma front y ys (subst (Without Comma) (sym first) (in_argument a.name a.index)) comma in
        let rest = more ys (cc) in
        let one = is_argument front a first h.1.0 in
        ap (λ (l : List Lexeme). all_some (map argument_at (slice_split (is_kind Comma) l))) whole
        ∙ ap (λ (l : List (List Lexeme)). all_some (map argument_at l)) split
        ∙ cc (one, rest)

-- arguments that are spelled are found
pub are_arguments : (args : List Argument) (ws : List Lexeme) → IsList ws args → arguments_at ws ≡ Some args
unfolding arguments_at
are_arguments args ws h = spelled_arguments args ws h.0 h.1

-- a choice is one of its two sides
pub tested : {A : Type 0} (t : Bool) (x y z : A) → cond t x y ≡ z → ((t ≡ true) × (x ≡ z)) ⊎ ((t ≡ false) × (y ≡ z))
tested true x y z e = inl (refl, e)
tested false x y z e = inr (refl, e)

-- a value that was found in two steps
pub and_then_is : {A B : Type 0} (g : A → Option B) (o : Option A) (y : B) → option_and_then g o ≡ Some y → (x : A) × (o ≡ Some x) × (g x ≡ Some y)
and_then_is g None y e = absurd (cc)
and_then_is g (Some x) y e = (x, refl, e)

-- no test of a list is passed
abbrev pub NonePass : {A : Type 0} → (A → Bool) → List A → Type 0
NonePass p [] = Unit {0}
NonePass p (x ∷ xs) = (p x ≡ false) × NonePass p xs

-- where no element passes each fails
none_pass : {A : Type 0} (p : A → Bool) (xs : List A) → list_any p xs ≡ false → NonePass p xs
none_pass p [] e = tt
none_pass p (x ∷ xs) e = let o = or_parts (p x) (list_any p xs) e in (o.0, none_pass p xs o.1)
  where
    or_parts : (a b : Bool) → (a || b) ≡ false → (a ≡ false) × (b ≡ false)
    or_parts true b f = absurd (cc)
    or_parts false b f = (refl, f)

-- a name is none of the reserved words
pub free_is : (b : List ℕ) → is_free b ≡ true → NonePass (λ r. bytes_eq b r) reserved
unfolding is_reserved
free_is b e = none_pass (λ r. bytes_eq b r) reserved (not-true _ e)
