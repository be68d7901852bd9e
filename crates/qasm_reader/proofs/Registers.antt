-- Registers lie below the number of qubits.
use Rattle.std.proofs.Common.{◌≡◌, ℕ, ◌+◌, ◌<◌, ◌≤◌, Bool, true, ◌&&◌, List, [], ◌∷◌, ◌++◌, arith, refl}
use Rattle.std.specs.Prelude.{nat_lt, nat_le}
use Rattle.std.specs.List.{AllByRecursion, list_all}
use Rattle.std.proofs.lemmas.Bool.{and_parts, and_from, ltb-true, lt-ltb, leb-true, le-leb}
use Rattle.qasm_reader.specs.declared.scan.Register.{Register as CodeRegister}
use Rattle.qasm_reader.specs.State.{Register}
use Rattle.qasm_reader.specs.View.{registers}

-- whether a register has a qubit and lies below n
abbrev pub is_inside : ℕ → CodeRegister → Bool
is_inside n r = nat_lt 0 r.size && nat_le (r.first + r.size) n

-- each register has a qubit, and lies below n
abbrev pub Inside : ℕ → List Register → Type 0
Inside n rs = AllByRecursion (λ r. (0 < r.size) × (r.first + r.size ≤ n)) rs

-- what the test says
pub inside_is : (n : ℕ) (rs : List CodeRegister) → list_all (is_inside n) rs ≡ true → Inside n (registers rs)
inside_is n [] e = tt
inside_is n (r ∷ rs) e =
    let p = and_parts (is_inside n r) _ e in
    let q = and_parts (nat_lt 0 r.size) _ p.0 in
    ((ltb-true _ _ q.0, leb-true _ _ q.1), inside_is n rs p.1)

-- one register more, on more qubits
pub inside_push : (n m : ℕ) (rs : List CodeRegister) (r : CodeRegister) → list_all (is_inside n) rs ≡ true → 0 < r.size → r.first + r.size ≤ n + m → list_all (is_inside (n + m)) (rs ++ r ∷ []) ≡ true
inside_push n m [] r e h k = and_from _ _ (and_from _ _ (lt-ltb _ _ h) (le-leb _ _ k)) refl
inside_push n m (x ∷ xs) r e h k =
    let p = and_parts (is_inside n x) _ e in
    let q = and_parts (nat_lt 0 x.size) _ p.0 in
    let l = leb-true _ _ q.1 in
    and_from _ _ (and_from _ _ q.0 (le-leb _ _ (omega arith))) (inside_push n m xs r p.1 h k)
