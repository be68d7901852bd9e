-- How long a print is.
use Rattle.std.proofs.Common.{◌≡◌, ℕ, ◌+◌, ◌*◌, ◌^◌, ◌<◌, ◌≤◌, List, ◌++◌, length, ap, arith}
use Rattle.std.specs.Prelude.{codes, decimal}
use Rattle.std.specs.List.{flat_map}
use Rattle.std.proofs.lemmas.Fmt.{length-decimal-le, decimal_digit}
use Rattle.std.proofs.lemmas.List.{length-append}
use Rattle.std.proofs.lemmas.List.Concat.{length-flat_map}
use Rattle.std.proofs.lemmas.List.Elements.{All-from_recursion, All-weaker}
use Rattle.std.proofs.lemmas.List.Sums.{sum_by-le, count_by-le-length}
use Rattle.tc_circuit.specs.Gate.{Fits, is_t}
use Rattle.tc_circuit.specs.Model.{IsCircuit, t_count_of}
use Rattle.tc_circuit.specs.declared.circuit.Gate.{Gate}
use Rattle.tc_circuit.specs.declared.circuit.Gate.TheVariants.{H, S, Sdg, T, Tdg, Cx}
use Rattle.circuit_writer.specs.Shown.{qubit_text, gate_line, IsLetter, IsWord, word_text, shown}

-- a gate of n qubits is one of m where m is no less
Fits-more : (n m : ℕ) → n ≤ m → (g : Gate) → Fits n g → Fits m g
Fits-more n m l (H q) f = omega arith
Fits-more n m l (S q) f = omega arith
Fits-more n m l (Sdg q) f = omega arith
Fits-more n m l (T q) f = omega arith
Fits-more n m l (Tdg q) f = omega arith
Fits-more n m l (Cx control target) f = (omega (arith, f.0), omega (arith, f.1), f.2)

-- a qubit's text has one digit
length-qubit_text : (qubit : ℕ) → qubit < 3 → length (qubit_text qubit) ≡ 4
unfolding qubit_text
length-qubit_text qubit small = ap (λ (digits : List ℕ). length (codes "q[" ++ digits ++ codes "]")) (decimal_digit qubit (omega arith))

-- a line with one qubit
length-single : (name : List ℕ) (qubit : ℕ) → qubit < 3 → length name ≤ 4 → length (name ++ qubit_text qubit ++ codes ";\n") ≤ 14
length-single name qubit small short = simp length-append (omega (arith, length-qubit_text qubit small))

-- a line with two qubits
length-cx : (control target : ℕ) → control < 3 → target < 3 → length (codes "cx " ++ qubit_text control ++ codes "," ++ qubit_text target ++ codes ";\n") ≤ 14
length-cx control target c t = simp length-append (omega (arith, length-qubit_text control c, length-qubit_text target t))

-- a gate's line
length-gate_line-le : (g : Gate) → Fits 3 g → length (gate_line g) ≤ 14
unfolding gate_line
length-gate_line-le (H q) f = length-single (codes "h ") q f (omega arith)
length-gate_line-le (S q) f = length-single (codes "s ") q f (omega arith)
length-gate_line-le (Sdg q) f = length-single (codes "sdg ") q f (omega arith)
length-gate_line-le (T q) f = length-single (codes "t ") q f (omega arith)
length-gate_line-le (Tdg q) f = length-single (codes "tdg ") q f (omega arith)
length-gate_line-le (Cx control target) f = length-cx control target f.0 f.1

-- the lines of all gates
length-lines-le : (n : ℕ) (gates : List Gate) → n ≤ 3 → IsCircuit n gates → length (flat_map gate_line gates) ≤ length gates * 14
length-lines-le n gates few f =
    rw length-flat_map (sum_by-le (λ (g : Gate). length (gate_line g)) 14 gates
    (All-weaker (Fits n) (λ (g : Gate). length (gate_line g) ≤ 14) (λ g fits. length-gate_line-le g (Fits-more n 3 few g fits)) gates (All-from_recursion (Fits n) gates f)))

-- the letters of a word on at most three qubits
length-word_text-le : (n t : ℕ) (letters : List (List ℕ)) → n ≤ 3 → IsWord n t letters → length (word_text letters) ≤ length letters * 4
length-word_text-le n t letters few word =
    rw length-flat_map (sum_by-le (λ (letter : List ℕ). length (codes " " ++ letter)) 4 letters
    (All-weaker (λ (letter : List ℕ). IsLetter n letter) (λ (letter : List ℕ). length (codes " " ++ letter) ≤ 4) (λ letter is_letter. simp length-append (omega (arith, is_letter.0))) letters word.1))

-- the parts of a print
length-parts : (count digit word lines : List ℕ) → length count ≤ 20 → length digit ≤ 1
    → length (codes "// t-count " ++ count ++ codes "\n// word" ++ word ++ codes "\nOPENQASM 2.0;\ninclude \"qelib1.inc\";\nqreg q[" ++ digit ++ codes "];\n" ++ lines) ≤ 87 + length word + length lines
length-parts count digit word lines few one = simp length-append (omega arith)

-- the T-count has at most 20 digits
length-count-le : (gates : List Gate) → length gates < 2 ^ 63 → length (decimal (t_count_of gates)) ≤ 20
length-count-le gates small =
    let low : t_count_of gates < 2 ^ 63 = omega (arith, count_by-le-length is_t gates) in
    length-decimal-le 20 (t_count_of gates) (omega arith) (omega arith) (omega arith)

-- the whole print
pub length-shown-le : (n t : ℕ) (gates : List Gate) (letters : List (List ℕ)) → n ≤ 3 → length gates < 2 ^ 63 → IsCircuit n gates → IsWord n t letters
    → length (shown n gates letters) ≤ 87 + 4 * t + 14 * length gates
unfolding shown
length-shown-le n t gates letters few small f word =
    let parts : length (codes "// t-count " ++ decimal (t_count_of gates) ++ codes "\n// word" ++ word_text letters ++ codes "\nOPENQASM 2.0;\ninclude \"qelib1.inc\";\nqreg q[" ++ decimal n ++ codes "];\n" ++ flat_map gate_line gates) ≤ 87 + length (word_text letters) + length (flat_map gate_line gates)
    = length-parts (decimal (t_count_of gates)) (decimal n) (word_text letters) (flat_map gate_line gates) (length-count-le gates small) (length-decimal-le 1 n (omega arith) (omega arith) (omega arith)) in
    omega (arith, parts, length-word_text-le n t letters few word, length-lines-le n gates few f, word.0)
