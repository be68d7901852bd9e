-- The tokens of the lines of a print.
use Rattle.std.proofs.Common.{◌≡◌, ℕ, zero, suc, ◌+◌, ◌<◌, List, [], ◌∷◌, ◌++◌, length, Some, arith, ap, refl}
use Rattle.std.specs.Prelude.{codes}
use Rattle.std.proofs.lemmas.Fmt.{decimal_digit}
use Rattle.qasm_lex.specs.declared.token.Kind.TheVariants.{Ident, Number, Semi, Comma, LeftBracket, RightBracket}
use Rattle.qasm_lex.specs.Tokens.{gap_from, gap}
use Rattle.qasm_lex.specs.Front.{kind_at, fraction_len, number_rest, rest_len, front}
use Rattle.qasm_reader.specs.Lexemes.{Lexeme}
use Rattle.circuit_writer.specs.Shown.{qubit_text}
use Rattle.printed_texts.proofs.Lexed.{Lexed, skip, token}
use Rattle.printed_texts.proofs.Gates.{Places, qubit, end, single, double}

-- a space is skipped
pub space : {rest : List ℕ} {P : List Lexeme → Type 0} → Lexed rest P → Lexed (codes " " ++ rest) P
unfolding gap_from
space more = skip (codes " ") refl more

-- so is a line feed
feed : {rest : List ℕ} {P : List Lexeme → Type 0} → Lexed rest P → Lexed (codes "\n" ++ rest) P
unfolding gap_from
feed more = skip (codes "\n") refl more

-- the end of a line
pub line_end : {rest : List ℕ} {P : List Lexeme → Type 0} → ((last : ℕ) → Lexed rest (λ ws. P (end last ++ ws))) → Lexed (codes ";\n" ++ rest) P
unfolding gap_from kind_at rest_len front
line_end more = token Semi (codes ";") refl refl (λ last. feed (more last))

-- a digit before a bracket is a number
digit : (q : ℕ) → q < 4 → (rest : List ℕ) → (gap ((48 + q) ∷ codes "]" ++ rest) ≡ 0) × (front ((48 + q) ∷ codes "]" ++ rest) ≡ Some (Number, 1))
unfolding gap_from kind_at fraction_len number_rest rest_len front
digit zero h rest = (refl, refl)
digit (suc zero) h rest = (refl, refl)
digit (suc (suc zero)) h rest = (refl, refl)
digit (suc (suc (suc zero))) h rest = (refl, refl)
digit (suc (suc (suc (suc q)))) h rest = absurd (omega arith)

-- a qubit of the register q
abbrev pub qubit_bytes : ℕ → List ℕ
qubit_bytes q = codes "q[" ++ ((48 + q) ∷ codes "]")

-- its text
pub qubit_is : (q : ℕ) → q < 4 → qubit_text q ≡ qubit_bytes q
unfolding qubit_text
qubit_is q h = ap (λ (digits : List ℕ). codes "q[" ++ digits ++ codes "]") (decimal_digit q (omega arith))

-- its tokens
pub qubit_tokens : (q : ℕ) → q < 4 → {rest : List ℕ} {P : List Lexeme → Type 0} → ((p : Places) → Lexed rest (λ ws. P (qubit q p ws))) → Lexed (qubit_bytes q ++ rest) P
unfolding gap_from kind_at rest_len front
qubit_tokens q h {rest} more =
    token Ident (codes "q") refl refl (λ name.
    token LeftBracket (codes "[") refl refl (λ left.
    token Number ((48 + q) ∷ []) (digit q h rest).0 (digit q h rest).1 (λ index.
    token RightBracket (codes "]") refl refl (λ right.
    more (record { name = name; left = left; index = index; right = right })))))

-- a name before a space is a token
pub record IsName (name : List ℕ) : Type 0 where
  pub unskipped : (rest : List ℕ) → gap (name ++ (codes " " ++ rest)) ≡ 0
  pub found : (rest : List ℕ) → front (name ++ (codes " " ++ rest)) ≡ Some (Ident, length name)

-- the tokens of a name and a qubit
pub single_tokens : (name : List ℕ) (q : ℕ) → IsName name → q < 4 → {rest : List ℕ} {P : List Lexeme → Type 0}
    → ((at : ℕ) (p : Places) (last : ℕ) → Lexed rest (λ ws. P (single name q at p last ++ ws)))
    → Lexed (name ++ (codes " " ++ (qubit_bytes q ++ (codes ";\n" ++ rest)))) P
single_tokens name q is_name h more =
    token Ident name (is_name.unskipped _) (is_name.found _) (λ at. space (qubit_tokens q h (λ p. line_end (λ last. more at p last))))

-- the tokens of a name and two qubits
pub double_tokens : (name : List ℕ) (q r : ℕ) → IsName name → q < 4 → r < 4 → {rest : List ℕ} {P : List Lexeme → Type 0}
    → ((at : ℕ) (p : Places) (comma : ℕ) (o : Places) (last : ℕ) → Lexed rest (λ ws. P (double name q r at p comma o last ++ ws)))
    → Lexed (name ++ (codes " " ++ (qubit_bytes q ++ (codes "," ++ (qubit_bytes r ++ (codes ";\n" ++ rest)))))) P
unfolding gap_from kind_at rest_len front
double_tokens name q r is_name h k more =
    token Ident name (is_name.unskipped _) (is_name.found _) (λ at.
    space (qubit_tokens q h (λ p.
    token Comma (codes ",") refl refl (λ comma.
    qubit_tokens r k (λ o. line_end (λ last. more at p comma o last))))))
