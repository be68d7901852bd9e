-- The Ident tokens `OPENQASM` of a text, and where it is cut.
use Rattle.std.proofs.Common.{◌≡◌, ℕ, ◌<◌, ◌≤◌, Bool, true, false, cond, List, [], ◌∷◌, length, map, refl, ap, sym, ◌∙◌, subst, ◌⊎◌, inl, inr, ⊎_elim, arith}
use Rattle.std.specs.Prelude.{All, filter, codes, get_or}
use Rattle.std.proofs.lemmas.List.{length-map}
use Rattle.std.proofs.Math.ListN.{get_or-map}
use Rattle.std.proofs.lemmas.List.Elements.{All-filter, All-nil, All-cons, All-head, All-tail}
use Rattle.qasm_lex.specs.declared.token.Token.{Token}
use Rattle.qasm_lex.proofs.Cutting.{tokens_or_bad}
use Rattle.qasm_lex.specs.Tokens.{Bad, IsWithin}
use Rattle.qasm_reader.specs.Lexemes.{Lexeme, lexeme_of, is_ident}
use Rattle.qasm_reader.specs.declared.lexemes.Lexeme.{Lexeme as CodeLexeme}
use Rattle.qasm_reader.specs.View.{lexeme, lexemes}
use Rattle.qasm_reader.specs.Read.{HasLexemes}
use Rattle.qasm_reader.specs.Halves.{openings, HasHalves, HasNoHalves}
use Rattle.qasm_reader.proofs.Outcomes.{lexemes_same, no_lexemes}

-- a test of images
pub filter-map : {A B : Type 0} (f : A → B) (test : B → Bool) (xs : List A) → map f (filter (λ x. test (f x)) xs) ≡ filter test (map f xs)
filter-map f test [] = refl
filter-map f test (x ∷ xs) = elim (test (f x)) as (λ b. map f (cond b (x ∷ filter (λ x. test (f x)) xs) (filter (λ x. test (f x)) xs)) ≡ cond b (f x ∷ filter test (map f xs)) (filter test (map f xs))) [
  | true ↦ ap (λ (l : List _). f x ∷ l) (filter-map f test xs)
  | false ↦ filter-map f test xs
]

-- the lexeme begins in the text
abbrev BeginsIn : List ℕ → Lexeme → Type 0
BeginsIn text w = w.place ≤ length text

-- lexemes of a text begin in it
lexemes_begin : (text : List ℕ) (ts : List Token) → All (IsWithin text) ts → All (BeginsIn text) (map (lexeme_of text) ts)
lexemes_begin text [] h = All-nil (BeginsIn text)
lexemes_begin text (t ∷ ts) h =
    let l = All-head (IsWithin text) t ts h in
    let le : t.start ≤ length text = omega (arith, l.0, l.1) in
    All-cons (BeginsIn text) (lexeme_of text t) (map (lexeme_of text) ts) le (lexemes_begin text ts (All-tail (IsWithin text) t ts h))

-- and so do those that are kept
pub opening_begins : (text : List ℕ) (ts : List Token) (items : List CodeLexeme) (k : ℕ) (d : CodeLexeme) → All (IsWithin text) ts
    → lexemes items ≡ openings (map (lexeme_of text) ts) → k < length items → (get_or items k d).place ≤ length text
opening_begins text ts items k d h e l =
    let kept = subst (All (BeginsIn text)) (sym e) (All-filter (is_ident (codes "OPENQASM")) (BeginsIn text) (map (lexeme_of text) ts) (lexemes_begin text ts h)) in
    let below : k < length (lexemes items) = omega (arith, length-map items lexeme, l) in
    subst (BeginsIn text) (get_or-map lexeme items k d) (kept k (lexeme d) below)

-- every text has two halves, none, or a bad byte
pub some_halving : (text : List ℕ) → ((p : ℕ) × HasHalves text p) ⊎ (HasNoHalves text ⊎ ((p : ℕ) × Bad text p))
some_halving text = ⊎_elim (λ (ts, t). by (map (lexeme_of text) ts) (ts, t, refl) (openings (map (lexeme_of text) ts)) refl) (λ b. inr (inr b)) (tokens_or_bad text)
  where
    by : (ws : List Lexeme) → HasLexemes text ws → (os : List Lexeme) → openings ws ≡ os → ((p : ℕ) × HasHalves text p) ⊎ (HasNoHalves text ⊎ ((p : ℕ) × Bad text p))
    by ws h [] e = inr (inl (record { lexemes = ws; has = h; other = λ two. let l = ap length e in absurd (omega (arith, two, l)) }))
    by ws h (a ∷ []) e = inr (inl (record { lexemes = ws; has = h; other = λ two. let l = ap length e in absurd (omega (arith, two, l)) }))
    by ws h (a ∷ b ∷ []) e = inl (b.place, record { lexemes = ws; has = h; first = a; second = b; two = e; starts = refl })
    by ws h (a ∷ b ∷ c ∷ os) e = inr (inl (record { lexemes = ws; has = h; other = λ two. let l = ap length e in absurd (omega (arith, two, l)) }))

pub one_place : (text : List ℕ) (p q : ℕ) → HasHalves text p → HasHalves text q → p ≡ q
one_place text p q a b =
    let same : a.first ∷ a.second ∷ [] ≡ b.first ∷ b.second ∷ [] = sym a.two ∙ ap openings (lexemes_same text a.lexemes b.lexemes a.has b.has) ∙ b.two in
    let second : a.second ≡ b.second = cc in
    a.starts ∙ ap (λ (w : Lexeme). w.place) second ∙ sym b.starts

pub halves_never_none : (text : List ℕ) (p : ℕ) → HasHalves text p → HasNoHalves text → ⊥
halves_never_none text p a b = b.other (ap (λ (ws : List Lexeme). length (openings ws)) (lexemes_same text b.lexemes a.lexemes b.has a.has) ∙ ap length a.two)

pub halves_never_bad : (text : List ℕ) (p q : ℕ) → HasHalves text p → Bad text q → ⊥
halves_never_bad text p q a b = no_lexemes text q a.lexemes b a.has

pub none_never_bad : (text : List ℕ) (q : ℕ) → HasNoHalves text → Bad text q → ⊥
none_never_bad text q a b = no_lexemes text q a.lexemes b a.has
