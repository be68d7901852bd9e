-- The letters of a Pauli operator on several qubits, and how two letters multiply (Nielsen and Chuang, Quantum
-- Computation and Quantum Information, section 2.1.3). A letter is a number: I = 0, X = 1, Y = 2, Z = 3. A code has a
-- letter for each qubit as its digits in base 4, that of qubit 0 lowest.
use Rattle.std.specs.Prelude.{ℕ, zero, suc, ◌/◌, ◌%◌, ◌^◌}

-- the letter that a code has on qubit q
abbrev pub letter_of : ℕ → ℕ → ℕ
letter_of q code = code / 4 ^ q % 4

-- the quarter turns t of a product of two letters, l·m = i ^ t · r: one for X·Y, Y·Z and Z·X, three for the same pairs
-- the other way round, and none where a letter is I or both are the same
abbrev pub letter_turns : ℕ → ℕ → ℕ
letter_turns (suc zero) (suc (suc zero)) = 1
letter_turns (suc (suc zero)) (suc (suc (suc zero))) = 1
letter_turns (suc (suc (suc zero))) (suc zero) = 1
letter_turns (suc (suc zero)) (suc zero) = 3
letter_turns (suc (suc (suc zero))) (suc (suc zero)) = 3
letter_turns (suc zero) (suc (suc (suc zero))) = 3
letter_turns _ _ = 0

-- 1 where two letters are both other than I and differ, which is where they anticommute; else 0
abbrev pub letter_clash : ℕ → ℕ → ℕ
letter_clash (suc zero) (suc (suc zero)) = 1
letter_clash (suc zero) (suc (suc (suc zero))) = 1
letter_clash (suc (suc zero)) (suc zero) = 1
letter_clash (suc (suc zero)) (suc (suc (suc zero))) = 1
letter_clash (suc (suc (suc zero))) (suc zero) = 1
letter_clash (suc (suc (suc zero))) (suc (suc zero)) = 1
letter_clash _ _ = 0
