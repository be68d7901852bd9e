-- A test of every gate on one to three qubits, by computing.
use Rattle.std.proofs.Common.{ℕ, ◌<◌, ◌≤◌, Bool, true, false, ◌&&◌, ◌||◌, eqb, T as Holds, eqb→eq}
use Rattle.tc_circuit.specs.Gate.{Fits}
use Rattle.tc_circuit.specs.declared.circuit.Gate.{Gate}
use Rattle.tc_circuit.specs.declared.circuit.Gate.TheVariants.{H, S, Sdg, T, Tdg, Cx}
use Rattle.ring_laws.proofs.Sizes.{sizes}
use Rattle.pauli_basis.proofs.Small.{all, all_at, and_left, and_right}

-- a test of each gate on n qubits
abbrev pub all_gates : ℕ → (Gate → Bool) → Bool
all_gates n f = all n (λ q. f (H q) && (f (S q) && (f (Sdg q) && (f (T q) && (f (Tdg q) && all n (λ t. eqb q t || f (Cx q t)))))))

-- the second of two, where the first fails
pub or_right : (a b : Bool) → (Holds a → ⊥) → Holds (a || b) → Holds b
or_right true b f h = absurd (f tt)
or_right false b f h = h

-- the test at one of them
pub at_gate : (n : ℕ) (f : Gate → Bool) → Holds (all_gates n f) → (g : Gate) → Fits n g → Holds (f g)
at_gate n f h (H q) l = and_left (f (H q)) _ (all_at n _ h q l)
at_gate n f h (S q) l = and_left (f (S q)) _ (and_right (f (H q)) _ (all_at n _ h q l))
at_gate n f h (Sdg q) l = and_left (f (Sdg q)) _ (and_right (f (S q)) _ (and_right (f (H q)) _ (all_at n _ h q l)))
at_gate n f h (T q) l = and_left (f (T q)) _ (and_right (f (Sdg q)) _ (and_right (f (S q)) _ (and_right (f (H q)) _ (all_at n _ h q l))))
at_gate n f h (Tdg q) l = and_left (f (Tdg q)) _ (and_right (f (T q)) _ (and_right (f (Sdg q)) _ (and_right (f (S q)) _ (and_right (f (H q)) _ (all_at n _ h q l)))))
at_gate n f h (Cx q t) l =
    or_right (eqb q t) (f (Cx q t)) (λ k. l.2 (eqb→eq q t k))
    (all_at n (λ t. eqb q t || f (Cx q t)) (and_right (f (Tdg q)) _ (and_right (f (T q)) _ (and_right (f (Sdg q)) _ (and_right (f (S q)) _ (and_right (f (H q)) _ (all_at n _ h q l.0)))))) t l.1)

module _ (f : ℕ → Gate → Bool) (one : Holds (all_gates 1 (f 1))) (two : Holds (all_gates 2 (f 2))) (three : Holds (all_gates 3 (f 3))) where
  -- a test that every gate passes
  pub each_gate : (n : ℕ) → 0 < n → n ≤ 3 → (g : Gate) → Fits n g → Holds (f n g)
  each_gate n some few = at_gate n (f n) (sizes (λ n. Holds (all_gates n (f n))) one two three n some few)
