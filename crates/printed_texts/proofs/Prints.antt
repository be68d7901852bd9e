-- A whole print is read as its circuit.
use Rattle.std.proofs.Common.{◌≡◌, ◌≢◌, ℕ, ◌-◌, ◌<◌, ◌≤◌, false, List, [], ◌++◌, length, map, arith, ap, ◌∙◌, sym, refl, subst, append_assoc}
use Rattle.std.specs.Prelude.{codes, decimal, All}
use Rattle.std.specs.List.{flat_map}
use Rattle.std.proofs.lemmas.Fmt.{decimal_digit}
use Rattle.tc_circuit.specs.Model.{IsCircuit, t_count_of}
use Rattle.tc_circuit.specs.declared.circuit.Gate.{Gate}
use Rattle.qasm_reader.specs.Lexemes.{lexeme_of}
use Rattle.qasm_reader.specs.State.{start}
use Rattle.qasm_reader.specs.Limits.{most_qubits, most_t_gates, most_statements}
use Rattle.qasm_reader.specs.Within.{IncludesAreTaken, RegistersAreTaken, GatesAreTaken}
use Rattle.qasm_reader.specs.Read.{Reads}
use Rattle.circuit_writer.specs.Shown.{gate_line, word_text, shown}
use Rattle.printed_texts.proofs.Lexed.{Lexed}
use Rattle.printed_texts.proofs.Comments.{line_append, decimal_line, word_line, comment}
use Rattle.printed_texts.proofs.Scanned.{Reaches}
use Rattle.printed_texts.proofs.Lines.{qubit_bytes}
use Rattle.printed_texts.proofs.Heads.{Headed, header_read, include_read, register_read}
use Rattle.printed_texts.proofs.Circuits.{gates_read}

-- the program of a print
abbrev program : ℕ → List Gate → List ℕ
program n gates = codes "OPENQASM 2.0;\n" ++ (codes "include \"qelib1.inc\";\n" ++ (codes "qreg " ++ (qubit_bytes n ++ (codes ";\n" ++ flat_map gate_line gates))))

-- eight parts, one behind another
nested : (a b c d e f g h : List ℕ) → a ++ b ++ c ++ d ++ e ++ f ++ g ++ h ≡ a ++ (b ++ (c ++ (d ++ (e ++ (f ++ (g ++ h))))))
nested a b c d e f g h = simp append_assoc refl

-- a print is two comments and a program
shown_is : (n : ℕ) (gates : List Gate) (letters : List (List ℕ)) → n ≤ most_qubits
    → shown n gates letters ≡ codes "//" ++ ((codes " t-count " ++ decimal (t_count_of gates)) ++ (codes "\n" ++ (codes "//" ++ ((codes " word" ++ word_text letters) ++ (codes "\n" ++ program n gates)))))
unfolding shown
shown_is n gates letters few =
    nested (codes "// t-count ") (decimal (t_count_of gates)) (codes "\n// word") (word_text letters) (codes "\nOPENQASM 2.0;\ninclude \"qelib1.inc\";\nqreg q[") (decimal n) (codes "];\n") (flat_map gate_line gates)
    ∙ ap (λ (digits : List ℕ). codes "// t-count " ++ (decimal (t_count_of gates) ++ (codes "\n// word" ++ (word_text letters ++ (codes "\nOPENQASM 2.0;\ninclude \"qelib1.inc\";\nqreg q[" ++ (digits ++ (codes "];\n" ++ flat_map gate_line gates)))))))
    (decimal_digit n (omega arith))

-- the laws of the reader by which statements are taken
pub record Laws : Type 0 where
  pub include : IncludesAreTaken
  pub register : RegistersAreTaken
  pub gate : GatesAreTaken

-- the program is read
program_read : Laws → (n : ℕ) (gates : List Gate) → 0 < n → n ≤ most_qubits → IsCircuit n gates → t_count_of gates ≤ most_t_gates → length gates ≤ most_statements - 2
    → Lexed (program n gates) (Headed (Reaches n gates start))
program_read laws n gates some few fit t short =
    header_read (include_read laws.include n gates (register_read laws.register n gates some few (gates_read laws.gate n few gates [] false 2 fit (omega (arith, t)) (omega (arith, short)) (omega (arith, short)))))

-- a text with these lexemes reads as the circuit
reads : (text : List ℕ) (n : ℕ) (gates : List Gate) → 0 < n → Lexed text (Headed (Reaches n gates start)) → Reads text (record { qubits = n; gates = gates })
reads text n gates some lexed =
    let (ts, cut, (rest, headed, r)) = lexed.cut text 0 refl (omega arith) in
    record {
      list = r.list;
      are = record { lexemes = map (lexeme_of text) ts; has = (ts, cut, refl); rest = rest; headed = headed; statements = r.are };
      state = r.state;
      unrefused = r.unrefused;
      some = some;
      qubits = sym r.qubits;
      gates = sym r.same;
    }

-- a print reads as its circuit
pub print_reads : Laws → (n : ℕ) (gates : List Gate) (letters : List (List ℕ)) → 0 < n → n ≤ most_qubits → IsCircuit n gates → t_count_of gates ≤ most_t_gates → length gates ≤ most_statements - 2
    → All (λ (letter : List ℕ). All (λ (c : ℕ). c ≢ 10) letter) letters → Reads (shown n gates letters) (record { qubits = n; gates = gates })
print_reads laws n gates letters some few fit t short no_feed =
    let count = line_append (codes " t-count ") (decimal (t_count_of gates)) refl (decimal_line (t_count_of gates) (omega (arith, t))) in
    let word = line_append (codes " word") (word_text letters) refl (word_line letters no_feed) in
    reads (shown n gates letters) n gates some
    (subst (λ (bytes : List ℕ). Lexed bytes (Headed (Reaches n gates start))) (sym (shown_is n gates letters few))
    (comment (codes " t-count " ++ decimal (t_count_of gates)) count (comment (codes " word" ++ word_text letters) word (program_read laws n gates some few fit t short))))
