-- Lemmas for the crates above: what holds of each number of qubits.
use Prim.Native.Nat.{ℕ, zero, suc, ◌<◌, ◌≤◌}
use native.Mathlib.Omega.{arith}

-- what holds of one, two and three
pub sizes : (P : ℕ → Type 0) → P 1 → P 2 → P 3 → (n : ℕ) → 0 < n → n ≤ 3 → P n
sizes P one two three zero some few = absurd (omega arith)
sizes P one two three (suc zero) some few = one
sizes P one two three (suc (suc zero)) some few = two
sizes P one two three (suc (suc (suc zero))) some few = three
sizes P one two three (suc (suc (suc (suc n)))) some few = absurd (omega arith)
