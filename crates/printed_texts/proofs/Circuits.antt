-- The lines of the gates of a print: their tokens, and what the scan makes of them.
use Rattle.std.proofs.Common.{◌≡◌, ◌≢◌, ℕ, ◌+◌, ◌<◌, ◌≤◌, Bool, true, List, [], ◌∷◌, ◌++◌, length, arith, ap, sym, refl, subst, append_assoc, length-append}
use Rattle.std.specs.Prelude.{codes}
use Rattle.std.specs.List.{flat_map}
use Rattle.std.proofs.lemmas.List.{append-nil}
use Rattle.tc_circuit.specs.Gate.{Fits}
use Rattle.tc_circuit.specs.Model.{IsCircuit, t_count_of}
use Rattle.tc_circuit.proofs.Counts.{t_count-append}
use Rattle.tc_circuit.specs.declared.circuit.Gate.{Gate}
use Rattle.tc_circuit.specs.declared.circuit.Gate.TheVariants.{H, S, Sdg, T, Tdg, Cx}
use Rattle.qasm_lex.specs.Tokens.{gap_from}
use Rattle.qasm_lex.specs.Front.{kind_at, rest_len, front}
use Rattle.qasm_reader.specs.Lexemes.{is_reserved, cut_behind}
use Rattle.qasm_reader.specs.Known.{known}
use Rattle.qasm_reader.specs.Limits.{most_qubits, most_t_gates, most_gates, most_statements}
use Rattle.qasm_reader.specs.Within.{GatesAreTaken}
use Rattle.circuit_writer.specs.Shown.{qubit_text, gate_line}
use Rattle.printed_texts.proofs.Lexed.{Lexed, at_end}
use Rattle.printed_texts.proofs.Gates.{holding, IsSingle, ReachesFrom, single_more, cx_more}
use Rattle.printed_texts.proofs.Lines.{qubit_bytes, qubit_is, IsName, single_tokens, double_tokens}

-- the line of a gate on one qubit, and the rest
single_is : (name : List ℕ) (q : ℕ) → q < 4 → (rest : List ℕ)
    → (name ++ codes " " ++ qubit_text q ++ codes ";\n") ++ rest ≡ name ++ (codes " " ++ (qubit_bytes q ++ (codes ";\n" ++ rest)))
single_is name q h rest = simp append_assoc (ap (λ (text : List ℕ). name ++ (codes " " ++ (text ++ (codes ";\n" ++ rest)))) (qubit_is q h))

-- the line of a gate on two qubits, and the rest
double_is : (name : List ℕ) (q r : ℕ) → q < 4 → r < 4 → (rest : List ℕ)
    → (name ++ codes " " ++ qubit_text q ++ codes "," ++ qubit_text r ++ codes ";\n") ++ rest ≡ name ++ (codes " " ++ (qubit_bytes q ++ (codes "," ++ (qubit_bytes r ++ (codes ";\n" ++ rest)))))
double_is name q r h k rest = rw (qubit_is q h, qubit_is r k) (simp append_assoc refl)

-- the line of a gate on one qubit is read
single_read : GatesAreTaken → (name : List ℕ) (gate : ℕ → Gate) (n q : ℕ) (all : List Gate) (began : Bool) (gates : List Gate) (count : ℕ) → IsName name → IsSingle name gate → n ≤ most_qubits → q < n
    → t_count_of gates + t_count_of (gate q ∷ []) ≤ most_t_gates → length gates < most_gates → count < most_statements
    → {rest : List ℕ} → Lexed rest (ReachesFrom n all true (gates ++ gate q ∷ []) (count + 1)) → Lexed ((name ++ codes " " ++ qubit_text q ++ codes ";\n") ++ rest) (ReachesFrom n all began gates count)
single_read law name gate n q all began gates count is_name is few h t many short {rest} more =
    let small : q < 4 = omega arith in
    subst (λ (bytes : List ℕ). Lexed bytes (ReachesFrom n all began gates count)) (sym (single_is name q small rest))
    (single_tokens name q is_name small (λ at p last. single_more law n all name gate q at p last began gates count is h small t many short more))

-- the line of a gate on two qubits is read
cx_read : GatesAreTaken → (n q r : ℕ) (all : List Gate) (began : Bool) (gates : List Gate) (count : ℕ) → IsName (codes "cx") → n ≤ most_qubits → q < n → r < n → q ≢ r
    → t_count_of gates + t_count_of (Cx q r ∷ []) ≤ most_t_gates → length gates < most_gates → count < most_statements
    → {rest : List ℕ} → Lexed rest (ReachesFrom n all true (gates ++ Cx q r ∷ []) (count + 1))
    → Lexed ((codes "cx " ++ qubit_text q ++ codes "," ++ qubit_text r ++ codes ";\n") ++ rest) (ReachesFrom n all began gates count)
cx_read law n q r all began gates count is_name few h k apart t many short {rest} more =
    let small : q < 4 = omega arith in
    let low : r < 4 = omega arith in
    subst (λ (bytes : List ℕ). Lexed bytes (ReachesFrom n all began gates count)) (sym (double_is (codes "cx") q r small low rest))
    (double_tokens (codes "cx") q r is_name small low (λ at p comma o last. cx_more law n all q r at p comma o last began gates count h small k low apart t many short more))

-- the line of a gate is read
gate_read : GatesAreTaken → (n : ℕ) (all : List Gate) (g : Gate) (began : Bool) (gates : List Gate) (count : ℕ) → n ≤ most_qubits → Fits n g
    → t_count_of gates + t_count_of (g ∷ []) ≤ most_t_gates → length gates < most_gates → count < most_statements
    → {rest : List ℕ} → Lexed rest (ReachesFrom n all true (gates ++ g ∷ []) (count + 1)) → Lexed (gate_line g ++ rest) (ReachesFrom n all began gates count)
unfolding gate_line gap_from kind_at rest_len front is_reserved known
gate_read law n all (H q) began gates count few h t many short more =
    single_read law (codes "h") (λ (q : ℕ). H q) n q all began gates count (record { unskipped = λ rest. refl; found = λ rest. refl }) (record { is_name = refl; is_applied = refl; is_known = refl; is_placed = λ q. refl }) few h t many short more
gate_read law n all (S q) began gates count few h t many short more =
    single_read law (codes "s") (λ (q : ℕ). S q) n q all began gates count (record { unskipped = λ rest. refl; found = λ rest. refl }) (record { is_name = refl; is_applied = refl; is_known = refl; is_placed = λ q. refl }) few h t many short more
gate_read law n all (Sdg q) began gates count few h t many short more =
    single_read law (codes "sdg") (λ (q : ℕ). Sdg q) n q all began gates count (record { unskipped = λ rest. refl; found = λ rest. refl }) (record { is_name = refl; is_applied = refl; is_known = refl; is_placed = λ q. refl }) few h t many short more
gate_read law n all (T q) began gates count few h t many short more =
    single_read law (codes "t") (λ (q : ℕ). T q) n q all began gates count (record { unskipped = λ rest. refl; found = λ rest. refl }) (record { is_name = refl; is_applied = refl; is_known = refl; is_placed = λ q. refl }) few h t many short more
gate_read law n all (Tdg q) began gates count few h t many short more =
    single_read law (codes "tdg") (λ (q : ℕ). Tdg q) n q all began gates count (record { unskipped = λ rest. refl; found = λ rest. refl }) (record { is_name = refl; is_applied = refl; is_known = refl; is_placed = λ q. refl }) few h t many short more
gate_read law n all (Cx q r) began gates count few h t many short more =
    cx_read law n q r all began gates count (record { unskipped = λ rest. refl; found = λ rest. refl }) few h.0 h.1 h.2 t many short more

-- the lines of all gates are read
pub gates_read : GatesAreTaken → (n : ℕ) → n ≤ most_qubits → (gates done : List Gate) (began : Bool) (count : ℕ) → IsCircuit n gates → t_count_of done + t_count_of gates ≤ most_t_gates → length done + length gates ≤ most_gates → count + length gates ≤ most_statements
    → Lexed (flat_map gate_line gates) (ReachesFrom n (done ++ gates) began done count)
unfolding cut_behind
gates_read law n few [] done began count fit t many short =
    at_end (record { list = []; are = record { cut = refl; forms = tt }; state = holding n began done count; unrefused = refl; qubits = refl; same = sym (append-nil done) })
gates_read law n few (g ∷ gates) done began count fit t many short =
    let one : t_count_of (g ∷ gates) ≡ t_count_of (g ∷ []) + t_count_of gates = t_count-append (g ∷ []) gates in
    let more : t_count_of (done ++ g ∷ []) ≡ t_count_of done + t_count_of (g ∷ []) = t_count-append done (g ∷ []) in
    subst (λ (all : List Gate). Lexed (gate_line g ++ flat_map gate_line gates) (ReachesFrom n all began done count)) (append_assoc done (g ∷ []) gates)
    (gate_read law n ((done ++ g ∷ []) ++ gates) g began done count few fit.0 (omega (arith, one, t)) (omega (arith, many)) (omega (arith, short))
    (gates_read law n few gates (done ++ g ∷ []) true (count + 1) fit.1 (omega (arith, one, more, t)) (omega (arith, many, length-append done (g ∷ []))) (omega (arith, short))))
