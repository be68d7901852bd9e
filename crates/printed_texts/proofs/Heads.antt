-- The lines of a print before its gates: the header, the include and the register.
use Rattle.std.proofs.Common.{◌≡◌, ℕ, zero, suc, ◌+◌, ◌<◌, ◌≤◌, false, List, [], ◌∷◌, ◌++◌, Some, arith, refl}
use Rattle.std.specs.Prelude.{codes}
use Rattle.tc_circuit.specs.declared.circuit.Gate.{Gate}
use Rattle.qasm_lex.specs.declared.token.Kind.TheVariants.{Ident, Number, Quoted}
use Rattle.qasm_lex.specs.Tokens.{gap_from}
use Rattle.qasm_lex.specs.Front.{kind_at, fraction_len, number_rest, closed_len, rest_len, front}
use Rattle.qasm_reader.specs.Lexemes.{Lexeme, is_reserved, cut_behind}
use Rattle.qasm_reader.specs.Forms.{Include, Qreg, IsForm}
use Rattle.qasm_reader.specs.Limits.{most_qubits}
use Rattle.qasm_reader.specs.State.{State, start, value, after}
use Rattle.qasm_reader.specs.Within.{MeetsNoRow, IncludesAreTaken, RegistersAreTaken}
use Rattle.qasm_reader.specs.Read.{IsHeaded}
use Rattle.printed_texts.proofs.Lexed.{lexeme, Lexed, weaker, token}
use Rattle.printed_texts.proofs.Scanned.{Reaches, one_more}
use Rattle.printed_texts.proofs.Gates.{Places, end, single, single_first, digit_is, holding, ReachesFrom}
use Rattle.printed_texts.proofs.Lines.{space, line_end, qubit_bytes, single_tokens}

-- the lexemes are a header and others, which have the property
abbrev pub Headed : (List Lexeme → Type 0) → List Lexeme → Type 0
Headed P ws = (rest : List Lexeme) × IsHeaded ws rest × P rest

-- the header is read
pub header_read : {rest : List ℕ} {P : List Lexeme → Type 0} → Lexed rest P → Lexed (codes "OPENQASM 2.0;\n" ++ rest) (Headed P)
unfolding gap_from kind_at fraction_len number_rest rest_len front
header_read more =
    token Ident (codes "OPENQASM") refl refl (λ at. space (token Number (codes "2.0") refl refl (λ number. line_end (λ last.
    weaker (λ ws h. (ws, (lexeme Ident (codes "OPENQASM") at ∷ lexeme Number (codes "2.0") number ∷ end last, refl, refl), h)) more))))

-- what a scan holds behind the include
abbrev pub included : State
included = record start { count = 1 }

-- the lexemes of the include
abbrev include_lexemes : ℕ → ℕ → ℕ → List Lexeme
include_lexemes at text last = lexeme Ident (codes "include") at ∷ lexeme Quoted (codes "\"qelib1.inc\"") text ∷ end last

-- the include is read
pub include_read : IncludesAreTaken → (n : ℕ) (gates : List Gate) {rest : List ℕ} → Lexed rest (Reaches n gates included) → Lexed (codes "include \"qelib1.inc\";\n" ++ rest) (Reaches n gates start)
unfolding gap_from kind_at closed_len rest_len front cut_behind
include_read law n gates more =
    token Ident (codes "include") refl refl (λ at. space (token Quoted (codes "\"qelib1.inc\"") refl refl (λ text. line_end (λ last.
    let ws = include_lexemes at text last in
    let form : IsForm ws (Include (codes "\"qelib1.inc\"")) = (refl, tt) in
    weaker (λ rest r. one_more n gates start included ws rest (Include (codes "\"qelib1.inc\"")) refl form (law start ws form (omega arith)) refl r) more))))

-- what the register's statement adds
register_adds : (n : ℕ) → 0 < n → n ≤ most_qubits → after included (Some (Qreg (codes "q") ((48 + n) ∷ []))) ≡ holding n false [] 2
register_adds zero some few = absurd (omega arith)
register_adds (suc zero) some few = refl
register_adds (suc (suc zero)) some few = refl
register_adds (suc (suc (suc zero))) some few = refl
register_adds (suc (suc (suc (suc n)))) some few = absurd (omega arith)

-- the register's statement
register_form : (n : ℕ) → n < 4 → (at : ℕ) (p : Places) (last : ℕ) → IsForm (single (codes "qreg") n at p last) (Qreg (codes "q") ((48 + n) ∷ []))
unfolding is_reserved
register_form n small at p last = (refl, (refl, (digit_is n small).0))

-- no row applies to it
register_taken : RegistersAreTaken → (n : ℕ) → 0 < n → n ≤ most_qubits → (at : ℕ) (p : Places) (last : ℕ) → MeetsNoRow included (single (codes "qreg") n at p last) (Qreg (codes "q") ((48 + n) ∷ []))
register_taken law n some few at p last =
    let small : n < 4 = omega arith in
    let size : value ((48 + n) ∷ []) ≡ n = (digit_is n small).1 in
    law included (single (codes "qreg") n at p last) (codes "q") ((48 + n) ∷ []) (register_form n small at p last) record {
      named = refl;
      began = refl;
      some = omega (arith, size, some);
      few = omega (arith, size, few);
      short = omega arith;
    }

-- the register is read
pub register_read : RegistersAreTaken → (n : ℕ) (gates : List Gate) → 0 < n → n ≤ most_qubits → {rest : List ℕ} → Lexed rest (ReachesFrom n gates false [] 2)
    → Lexed (codes "qreg " ++ (qubit_bytes n ++ (codes ";\n" ++ rest))) (Reaches n gates included)
unfolding gap_from kind_at rest_len front
register_read law n gates some few more =
    let small : n < 4 = omega arith in
    single_tokens (codes "qreg") n (record { unskipped = λ rest. refl; found = λ rest. refl }) small (λ at p last.
    weaker (λ ws r. one_more n gates included (holding n false [] 2) (single (codes "qreg") n at p last) ws (Qreg (codes "q") ((48 + n) ∷ [])) (single_first (codes "qreg") n at p last ws refl)
    (register_form n small at p last) (register_taken law n some few at p last) (register_adds n some few) r) more)
