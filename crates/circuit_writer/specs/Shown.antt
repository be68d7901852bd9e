-- How a circuit is printed: its T-count, the letters of its word, and a program for it.
-- Source: OpenQASM 2.0 (Cross, Bishop, Smolin, Gambetta 2017) for the program; the two comment lines are this project's own.
use Rattle.std.specs.Prelude.{◌≡◌, ℕ, List, ◌++◌, length, map, All, Contains, codes, decimal}
use Rattle.std.specs.List.{flat_map}
use Rattle.pauli_basis.specs.Pauli.{PauliString, pauli_text}
use Rattle.tc_circuit.specs.Model.{t_count_of}
use Rattle.tc_circuit.specs.declared.circuit.Gate.{Gate}
use Rattle.tc_circuit.specs.declared.circuit.Gate.TheVariants.{H, S, Sdg, T, Tdg, Cx}

-- a qubit of the register q
unfoldable pub qubit_text : ℕ → List ℕ
qubit_text qubit = codes "q[" ++ decimal qubit ++ codes "]"

-- a gate's line
unfoldable pub gate_line : Gate → List ℕ
gate_line (H q) = codes "h " ++ qubit_text q ++ codes ";\n"
gate_line (S q) = codes "s " ++ qubit_text q ++ codes ";\n"
gate_line (Sdg q) = codes "sdg " ++ qubit_text q ++ codes ";\n"
gate_line (T q) = codes "t " ++ qubit_text q ++ codes ";\n"
gate_line (Tdg q) = codes "tdg " ++ qubit_text q ++ codes ";\n"
gate_line (Cx control target) = codes "cx " ++ qubit_text control ++ codes "," ++ qubit_text target ++ codes ";\n"

-- a letter of a word on n qubits: n characters out of I, X, Y and Z
abbrev pub IsLetter : ℕ → List ℕ → Type 0
IsLetter n letter = (length letter ≡ n) × All (λ (c : ℕ). Contains (codes "IXYZ") c) letter

-- a word of t letters on n qubits
abbrev pub IsWord : ℕ → ℕ → List (List ℕ) → Type 0
IsWord n t letters = (length letters ≡ t) × All (λ (letter : List ℕ). IsLetter n letter) letters

-- the texts of a word's letters, the Pauli operator of the highest qubit first in each
abbrev pub letter_texts : List PauliString → List (List ℕ)
letter_texts word = map (λ (letter : PauliString). pauli_text letter.qubits letter.code) word

-- the letters of a word, each after a space
abbrev pub word_text : List (List ℕ) → List ℕ
word_text letters = flat_map (λ (letter : List ℕ). codes " " ++ letter) letters

-- the print of a circuit on n qubits with the letters of its word
unfoldable pub shown : ℕ → List Gate → List (List ℕ) → List ℕ
shown n gates letters =
    codes "// t-count " ++ decimal (t_count_of gates)
    ++ codes "\n// word" ++ word_text letters
    ++ codes "\nOPENQASM 2.0;\ninclude \"qelib1.inc\";\nqreg q[" ++ decimal n ++ codes "];\n"
    ++ flat_map gate_line gates
