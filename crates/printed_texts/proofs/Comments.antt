-- Comments of a line, which are skipped, and the texts in them, which have no line feed.
use Rattle.std.proofs.Common.{◌≡◌, ◌≢◌, ℕ, ◌+◌, ◌^◌, ◌<◌, Bool, true, not, ◌==◌, List, [], ◌∷◌, ◌++◌, length, arith, ap, ◌∙◌, refl, subst, append_assoc}
use Rattle.std.specs.Prelude.{codes, decimal, All, Contains}
use Rattle.std.specs.List.{list_all}
use Rattle.std.proofs.lemmas.Bool.{and_parts, and_from, ne_eqb}
use Rattle.std.proofs.lemmas.Fmt.{decimal_by_steps}
use Rattle.std.proofs.lemmas.List.{length-append}
use Rattle.std.proofs.lemmas.List.Elements.{All-from_recursion, All-head, All-tail, All-weaker, All-contains}
use Rattle.std.proofs.lemmas.List.Folds.{list_all-append}
use Rattle.qasm_lex.specs.Tokens.{gap_from, gap}
use Rattle.qasm_reader.specs.Lexemes.{Lexeme}
use Rattle.circuit_writer.specs.Shown.{IsLetter, IsWord, word_text}
use Rattle.printed_texts.proofs.Lexed.{Lexed, skip}

-- a byte that is no line feed
abbrev pub is_no_feed : ℕ → Bool
is_no_feed b = not (b == 10)

-- bytes without a line feed
abbrev pub is_line : List ℕ → Bool
is_line bytes = list_all is_no_feed bytes

-- two parts of a line are a line
pub line_append : (xs ys : List ℕ) → is_line xs ≡ true → is_line ys ≡ true → is_line (xs ++ ys) ≡ true
line_append xs ys e f = list_all-append is_no_feed xs ys ∙ and_from _ _ e f

-- bytes that are all no line feed are a line
line_from_all : (bytes : List ℕ) → All (λ (b : ℕ). b ≢ 10) bytes → is_line bytes ≡ true
line_from_all [] h = refl
line_from_all (b ∷ bs) h =
    let first : is_no_feed b ≡ true = ap not (ne_eqb b 10 (All-head (λ (b : ℕ). b ≢ 10) b bs h)) in
    and_from _ _ first (line_from_all bs (All-tail (λ (b : ℕ). b ≢ 10) b bs h))

-- a digit is no line feed
digit_no_feed : (d : ℕ) → is_line ((48 + d) ∷ []) ≡ true
digit_no_feed d = let other : is_no_feed (48 + d) ≡ true = ap not (ne_eqb (48 + d) 10 (λ e. omega (arith, e))) in and_from _ _ other refl

-- the digits of a number are a line
pub decimal_line : (n : ℕ) → n < 2 ^ 64 → is_line (decimal n) ≡ true
decimal_line n small = decimal_by_steps (λ (n : ℕ) (ds : List ℕ). is_line ds ≡ true) (λ n one. digit_no_feed n) (λ n ds many front. line_append ds _ front (digit_no_feed _)) n small

-- letters without a line feed make a word without one
pub word_line : (letters : List (List ℕ)) → All (λ (letter : List ℕ). All (λ (b : ℕ). b ≢ 10) letter) letters → is_line (word_text letters) ≡ true
word_line [] h = refl
word_line (letter ∷ letters) h =
    let P : List ℕ → Type 0 = λ (letter : List ℕ). All (λ (b : ℕ). b ≢ 10) letter in
    line_append letter (word_text letters) (line_from_all letter (All-head P letter letters h)) (word_line letters (All-tail P letter letters h))

-- a character of a letter is no line feed
character_no_feed : (c : ℕ) → Contains (codes "IXYZ") c → c ≢ 10
character_no_feed c h =
    let characters = All-from_recursion (λ (c : ℕ). c ≢ 10) (codes "IXYZ") (λ e. omega (arith, e), (λ e. omega (arith, e), (λ e. omega (arith, e), (λ e. omega (arith, e), tt)))) in
    All-contains (λ (c : ℕ). c ≢ 10) (codes "IXYZ") c characters h

-- the letters of a word have no line feed
pub letters_line : (n t : ℕ) (letters : List (List ℕ)) → IsWord n t letters → All (λ (letter : List ℕ). All (λ (b : ℕ). b ≢ 10) letter) letters
letters_line n t letters word =
    All-weaker (λ (letter : List ℕ). IsLetter n letter) (λ (letter : List ℕ). All (λ (b : ℕ). b ≢ 10) letter)
    (λ letter is_letter. All-weaker (λ (c : ℕ). Contains (codes "IXYZ") c) (λ (c : ℕ). c ≢ 10) character_no_feed letter is_letter.1) letters word.1

-- a comment goes on up to its line feed
inside : (line rest : List ℕ) → is_line line ≡ true → gap_from true (line ++ 10 ∷ rest) ≡ length line + 1 + gap rest
unfolding gap_from
inside [] rest e = refl
inside (b ∷ bs) rest e =
    let parts = and_parts (is_no_feed b) (is_line bs) e in
    let here : gap_from true (b ∷ bs ++ 10 ∷ rest) ≡ 1 + gap_from true (bs ++ 10 ∷ rest) = ap (λ (t : Bool). 1 + gap_from t (bs ++ 10 ∷ rest)) parts.0 in
    omega (arith, here, inside bs rest parts.1)

-- two slashes begin a comment
opens : (bytes : List ℕ) → gap (codes "//" ++ bytes) ≡ 1 + (1 + gap_from true bytes)
unfolding gap_from
opens bytes = refl

-- a comment and its line feed are skipped
pub comment : (line : List ℕ) {rest : List ℕ} {P : List Lexeme → Type 0} → is_line line ≡ true → Lexed rest P → Lexed (codes "//" ++ (line ++ (codes "\n" ++ rest))) P
comment line {rest} {P} e more =
    let whole = append_assoc line (codes "\n") rest in
    let all : gap ((codes "//" ++ line ++ codes "\n") ++ rest) ≡ length (codes "//" ++ line ++ codes "\n") + gap rest
    = omega (arith, opens ((line ++ codes "\n") ++ rest), ap (gap_from true) whole, inside line rest e, length-append line (codes "\n")) in
    subst (λ (bytes : List ℕ). Lexed (codes "//" ++ bytes) P) whole (skip (codes "//" ++ line ++ codes "\n") all more)
