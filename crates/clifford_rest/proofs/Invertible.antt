-- Matrices with an inverse on the right, up to a power of √2: gates, rotations, and products of these.
use Rattle.std.proofs.Common.{◌≡◌, ℕ, ◌+◌, ◌^◌, ◌<◌, ◌≤◌, Bool, true, false, not, T as Holds, List, [], ◌∷◌, ap, sym, ◌∙◌}
use Rattle.std.specs.List.{AllByRecursion}
use Rattle.ring_laws.specs.Ring.{power}
use Rattle.ring_laws.specs.Matrix.{product, identity}
use Rattle.ring_laws.specs.Cyclotomic.{Zω, cyclotomics, integer, plus, times, negative, ω, root2, zero_number, one_number}
use Rattle.ring_laws.proofs.Ring.{power-add, power-zero}
use Rattle.tc_bridge.proofs.Matrices.{Alike, ◌⊙◌, alike, alike-sym, multiple, multiple-cong, multiple-factor, multiple-multiple, multiple-one, one-product, scalar_between}
use Rattle.ring_laws.proofs.Cyclotomic.{cyclotomics_laws as laws, zero-times, plus-zero}
use Rattle.tc_circuit.specs.Gate.{Table, gate_table, gate_exponent}
use Rattle.tc_circuit.specs.Model.{ScaledMatrix, after}
use Rattle.channel_rep.specs.declared.gate.ChannelGate.{ChannelGate}
use Rattle.channel_rep.specs.Gates.{GateFits}
use Rattle.tc_bridge.specs.Rotation.{axis}
use Rattle.tc_bridge.specs.Pauli.{pauli_matrix}
use Rattle.tc_bridge.specs.Block.{as_gate, as_gates}
use Rattle.tc_bridge.proofs.Adjoints.{adjoint}
use Rattle.tc_bridge.proofs.Axes.{axis-axis}
use Rattle.tc_bridge.proofs.Conjugations.{gate_fits}
use Rattle.tc_bridge.proofs.Decide.{same_number, number_equal}
use Rattle.tc_bridge.proofs.Rotations.{step_turn, turned_axis}
use Rattle.tc_bridge.proofs.Unitary.{unitary_gate}

-- U·V is √2^roots
pub record IsInvertible (n : ℕ) (u : Table) : Type 0 where
  pub inverse : Table
  pub roots : ℕ
  pub is : Alike cyclotomics (2 ^ n) (product cyclotomics (2 ^ n) u inverse) (multiple cyclotomics (power cyclotomics root2 roots) (identity cyclotomics))

-- the identity
pub invertible_identity : (n : ℕ) → IsInvertible n (identity cyclotomics)
invertible_identity n = record { inverse = identity cyclotomics; roots = 0; is = one-product laws _ ⊙ alike-sym (multiple-factor laws (power-zero laws root2) _ ⊙ multiple-one laws _) }

-- a Clifford gate, by its conjugate transpose
pub invertible_gate : (n : ℕ) → 0 < n → n ≤ 3 → (g : ChannelGate) → GateFits n g → IsInvertible n (gate_table (as_gate g))
invertible_gate n some few g fits =
    let e = gate_exponent (as_gate g) in
    record { inverse = adjoint (gate_table (as_gate g)); roots = e + e; is = (unitary_gate n some few (as_gate g) (gate_fits n g fits)).right }

-- a product, by the inverses in the other order
pub invertible_product : (n : ℕ) (v u : Table) → IsInvertible n v → IsInvertible n u → IsInvertible n (product cyclotomics (2 ^ n) v u)
invertible_product n v u hv hu = record {
  inverse = product cyclotomics (2 ^ n) hu.inverse hv.inverse;
  roots = hu.roots + hv.roots;
  is =
      scalar_between laws v u hu.inverse hv.inverse (power cyclotomics root2 hu.roots) hu.is
      ⊙ multiple-cong laws _ hv.is ⊙ multiple-multiple laws _ _ _ ⊙ multiple-factor laws (sym (power-add laws root2 hu.roots hv.roots)) _;
}

-- Clifford gates behind a matrix
pub invertible_after : (n : ℕ) → 0 < n → n ≤ 3 → (gates : List ChannelGate) → AllByRecursion (GateFits n) gates → (m : ScaledMatrix) → IsInvertible n m.table → IsInvertible n (after n m (as_gates gates)).table
invertible_after n some few [] fits m h = h
invertible_after n some few (g ∷ gates) fits m h = invertible_after n some few gates fits.1 _ (invertible_product n (gate_table (as_gate g)) m.table (invertible_gate n some few g fits.0) h)

-- ---- rotations: twice R(P) times twice its inverse is 4
abbrev first_part : Bool → Zω
first_part inverse = plus one_number (step_turn inverse)

-- what stands before P
abbrev second_part : Bool → Zω
second_part inverse = plus one_number (negative (step_turn inverse))

-- the part at the identity
four : (inverse : Bool) → Holds (same_number (plus (times (first_part inverse) (first_part (not inverse))) (times (second_part inverse) (second_part (not inverse)))) (power cyclotomics root2 4))
unfolding power integer plus times negative ω root2
four true = tt
four false = tt

-- the part at P
nothing_left : (inverse : Bool) → Holds (same_number (plus (times (first_part inverse) (second_part (not inverse))) (times (second_part inverse) (first_part (not inverse)))) zero_number)
unfolding power integer plus times negative ω
nothing_left true = tt
nothing_left false = tt

-- a multiple of the identity, with nothing at P
scalar_axis : (n : ℕ) (a b : Zω) (p : ℕ) → b ≡ zero_number → Alike cyclotomics (2 ^ n) (axis n a b p) (multiple cyclotomics a (identity cyclotomics))
unfolding axis multiple
scalar_axis n a b p e = alike (λ r c. ap (λ x. plus (times a (identity cyclotomics r c)) (times x (pauli_matrix n p r c))) e ∙ ap (plus (times a (identity cyclotomics r c))) (zero-times _) ∙ plus-zero _)

-- a rotation, or its inverse, by the other
pub invertible_rotation : (n : ℕ) (inverse : Bool) (p : ℕ) → IsInvertible n (turned_axis n inverse p)
invertible_rotation n inverse p = record {
  inverse = turned_axis n (not inverse) p;
  roots = 4;
  is =
      axis-axis n (first_part inverse) (second_part inverse) (first_part (not inverse)) (second_part (not inverse)) p
      ⊙ scalar_axis n _ _ p (number_equal _ _ (nothing_left inverse))
      ⊙ multiple-factor laws (number_equal _ _ (four inverse)) _;
}
