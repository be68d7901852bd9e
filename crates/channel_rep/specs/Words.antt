-- Words: products of rotations by Pauli operators, R(P1)·R(P2)· .. ·R(Pt).
-- Source: Gosset, Kliuchnikov, Mosca and Russo, An algorithm for the T-count, 2014, section 2.2.
use Rattle.std.specs.Prelude.{◌≢◌, ℕ, ◌^◌, ◌<◌, List}
use Rattle.std.specs.List.{AllByRecursion}

-- a word: Paulis on n qubits other than the identity
abbrev pub IsWord : ℕ → List ℕ → Type 0
IsWord n word = AllByRecursion (λ p. (p < 4 ^ n) × (p ≢ 0)) word
