-- R(P)² is a Clifford operator: s between the gates that take P to Z and their inverses.
use Rattle.std.proofs.Common.{◌≡◌, ◌≢◌, ℕ, ◌^◌, ◌<◌, ◌≤◌, ◌==◌, Bool, true, false, ◌∷◌, refl, sym, ◌∙◌, arith}
use Rattle.std.specs.Prelude.{if◌then◌else◌}
use Rattle.ring_laws.specs.Ring.{power}
use Rattle.ring_laws.specs.Cyclotomic.{Zω, cyclotomics, plus, times, negative, ω, zero_number, one_number}
use Rattle.ring_laws.proofs.Cyclotomic.{cyclotomics_laws as laws, one-times, times-zero}
use Rattle.ring_laws.proofs.Ring.{power-add}
use Rattle.tc_circuit.specs.Bits.{has_bit}
use Rattle.tc_circuit.specs.Gate.{diagonal_entry}
use Rattle.tc_circuit.specs.Gate as circuit
use Rattle.tc_circuit.specs.declared.circuit.Gate.{Gate}
use Rattle.tc_circuit.proofs.Gates.{diagonal_product}
use Rattle.tc_bridge.specs.Block.{as_gates, opening, highest, conjugated_gates, undone}
use Rattle.tc_bridge.specs.Laws.{IsCliffordCircuitOf}
use Rattle.tc_bridge.specs.Rotation.{axis, rotation, scaled_product}
use Rattle.tc_bridge.specs.Steps.{z_on}
use Rattle.tc_bridge.proofs.Appended.{gate_matrix}
use Rattle.tc_bridge.proofs.Axes.{axis-axis}
use Rattle.tc_bridge.proofs.Blocks.{t_is, opening_is, opened_is}
use Rattle.tc_bridge.proofs.Conjugations.{all-append, undone_fits}
use Rattle.tc_circuit.proofs.Counts.{t_count-append, t_count-cons}
use Rattle.tc_bridge.proofs.Counts.{clifford_count, clifford_circuit}
use Rattle.tc_bridge.proofs.ScaledMatrices.{Equal, equal_tables, equal-sym, ◌⊚◌, mul-left, mul-right, equal_entries}

-- s is t twice
s_is : (n q : ℕ) → Equal n (gate_matrix (Gate.S q)) (scaled_product n (gate_matrix (Gate.T q)) (gate_matrix (Gate.T q)))
unfolding diagonal_entry
s_is n q = equal_tables _ _ refl (record {
  at = λ r c lr lc.
      sym (diagonal_product (2 ^ n) q 1 (diagonal_entry q 1) r c lr ∙ by (r == c) (has_bit q r));
})
  where
    by : (same bit : Bool)
        → times (if bit then power cyclotomics ω 1 else one_number) (if same then (if bit then power cyclotomics ω 1 else one_number) else zero_number)
        ≡ (if same then (if bit then power cyclotomics ω 2 else one_number) else zero_number)
    by true true = sym (power-add laws ω 1 1)
    by true false = one-times one_number
    by false true = times-zero (power cyclotomics ω 1)
    by false false = times-zero one_number

-- what 4·R(P)² has at I and at P
abbrev at_identity : Zω
at_identity = let a = plus one_number ω in let b = plus one_number (negative ω) in plus (times a a) (times b b)

abbrev at_pauli : Zω
at_pauli = let a = plus one_number ω in let b = plus one_number (negative ω) in plus (times a b) (times b a)

square_is : (n p : ℕ) → Equal n (scaled_product n (rotation n p) (rotation n p)) (record { table = axis n at_identity at_pauli p; exponent = 4 })
square_is n p = let a = plus one_number ω in let b = plus one_number (negative ω) in equal_tables _ _ refl (axis-axis n a b a b p)

module _ (n : ℕ) (some : 0 < n) (few : n ≤ 3) (p : ℕ) (l : p < 4 ^ n) (d : p ≢ 0) where
  -- the qubit of s
  abbrev qubit : ℕ
  qubit = highest n p

  -- s is R(Z)²
  center_is : Equal n (gate_matrix (Gate.S qubit)) (record { table = axis n at_identity at_pauli (z_on qubit); exponent = 4 })
  center_is =
      let t = t_is n some few qubit (opening_is n some few p l d).below in
      s_is n qubit ⊚ mul-left (gate_matrix (Gate.T qubit)) t ⊚ mul-right t (rotation n (z_on qubit)) ⊚ square_is n (z_on qubit)

  -- the circuit of R(P)²
  pub square_circuit : IsCliffordCircuitOf n (scaled_product n (rotation n p) (rotation n p)) (conjugated_gates (opening n p) (Gate.S qubit))
  square_circuit =
      let v = opening n p in
      let o = opening_is n some few p l d in
      record {
        fits = all-append (circuit.Fits n) (as_gates v) _ (clifford_circuit n v o.fits) (o.below, clifford_circuit n (undone v) (undone_fits n v o.fits));
        no_t = omega (arith, t_count-append (as_gates v) (Gate.S qubit ∷ as_gates (undone v)), t_count-cons (Gate.S qubit) (as_gates (undone v)), clifford_count v, clifford_count (undone v));
        equal = equal_entries _ _ (opened_is n some few p l d (Gate.S qubit) at_identity at_pauli 4 center_is ⊚ equal-sym (square_is n p));
      }
