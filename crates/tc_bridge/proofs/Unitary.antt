-- Lemmas for the crates above: the conjugate transpose of a circuit's matrix is its inverse, up to a power of 2.
use Rattle.std.proofs.Common.{◌≡◌, ℕ, ◌+◌, ◌^◌, ◌<◌, ◌≤◌, Bool, ◌&&◌, T as Holds, List, [], ◌∷◌, ap, sym, ◌∙◌, arith}
use Rattle.ring_laws.specs.Ring.{power}
use Rattle.ring_laws.specs.Matrix.{sum, product, identity}
use Rattle.ring_laws.specs.Cyclotomic.{cyclotomics, integer, plus, negative, times, conjugate, ω, root2}
use Rattle.ring_laws.proofs.Ring.{power-add, power-zero}
use Rattle.tc_bridge.proofs.Matrices.{Alike, ◌⊙◌, alike-sym, product-left, product-right, multiple, multiple-cong, multiple-factor, multiple-multiple, multiple-one, one-product, scalar_between}
use Rattle.ring_laws.proofs.Cyclotomic.{cyclotomics_laws as laws}
use Rattle.tc_circuit.specs.Bits.{has_bit, flipped, crossed}
use Rattle.tc_circuit.specs.Gate.{Table, gate_table, gate_exponent, Fits, h_entry, diagonal_entry, cx_entry}
use Rattle.tc_circuit.specs.Model.{ScaledMatrix, after, matrix_of, IsCircuit}
use Rattle.tc_circuit.specs.declared.circuit.Gate.{Gate}
use Rattle.pauli_basis.proofs.Small.{all, all_at2, and_left, and_right}
use Rattle.tc_bridge.proofs.Decide.{same_number, number_equal}
use Rattle.tc_bridge.proofs.AllGates.{all_gates, each_gate}
use Rattle.tc_bridge.proofs.Adjoints.{adjoint, adjoint-product, adjoint-adjoint, adjoint-identity}

-- u, divided by √2^e, is unitary
pub record IsUnitary (n : ℕ) (u : Table) (e : ℕ) : Type 0 where
  pub left : Alike cyclotomics (2 ^ n) (product cyclotomics (2 ^ n) (adjoint u) u) (multiple cyclotomics (power cyclotomics root2 (e + e)) (identity cyclotomics))
  pub right : Alike cyclotomics (2 ^ n) (product cyclotomics (2 ^ n) u (adjoint u)) (multiple cyclotomics (power cyclotomics root2 (e + e)) (identity cyclotomics))

-- ---- gates
abbrev is_scalar : ℕ → ℕ → Table → Bool
is_scalar n e a = all (2 ^ n) (λ r. all (2 ^ n) (λ c. same_number (a r c) (times (power cyclotomics root2 (e + e)) (identity cyclotomics r c))))

-- a gate and its adjoint, on both sides
abbrev inverts : ℕ → Gate → Bool
inverts n g =
    is_scalar n (gate_exponent g) (product cyclotomics (2 ^ n) (adjoint (gate_table g)) (gate_table g))
    && is_scalar n (gate_exponent g) (product cyclotomics (2 ^ n) (gate_table g) (adjoint (gate_table g)))

-- computed on one, two and three qubits
inverts_1 : Holds (all_gates 1 (inverts 1))
unfolding product sum identity adjoint integer conjugate plus times negative power ω root2 has_bit flipped crossed h_entry diagonal_entry cx_entry
inverts_1 = tt

inverts_2 : Holds (all_gates 2 (inverts 2))
unfolding product sum identity adjoint integer conjugate plus times negative power ω root2 has_bit flipped crossed h_entry diagonal_entry cx_entry
inverts_2 = tt

inverts_3 : Holds (all_gates 3 (inverts 3))
unfolding product sum identity adjoint integer conjugate plus times negative power ω root2 has_bit flipped crossed h_entry diagonal_entry cx_entry
inverts_3 = tt

-- what the test says
scalar_is : (n e : ℕ) (a : Table) → Holds (is_scalar n e a) → Alike cyclotomics (2 ^ n) a (multiple cyclotomics (power cyclotomics root2 (e + e)) (identity cyclotomics))
unfolding multiple
scalar_is n e a h = record { at = λ r c lr lc. number_equal _ _ (all_at2 (2 ^ n) (2 ^ n) (λ r c. same_number (a r c) (times (power cyclotomics root2 (e + e)) (identity cyclotomics r c))) h r c lr lc) }

-- each gate is unitary
pub unitary_gate : (n : ℕ) → 0 < n → n ≤ 3 → (g : Gate) → Fits n g → IsUnitary n (gate_table g) (gate_exponent g)
unitary_gate n some few g fits =
    let h = each_gate inverts inverts_1 inverts_2 inverts_3 n some few g fits in
    record {
      left = scalar_is n (gate_exponent g) _ (and_left _ _ h);
      right = scalar_is n (gate_exponent g) _ (and_right (is_scalar n (gate_exponent g) (product cyclotomics (2 ^ n) (adjoint (gate_table g)) (gate_table g))) _ h);
    }

-- ---- products
-- √2^2e · √2^2f
pub squares-add : (e f : ℕ) → times (power cyclotomics root2 (e + e)) (power cyclotomics root2 (f + f)) ≡ power cyclotomics root2 ((e + f) + (e + f))
squares-add e f = sym (power-add laws root2 (e + e) (f + f)) ∙ ap (power cyclotomics root2) (let s : (e + e) + (f + f) ≡ (e + f) + (e + f) = omega arith in s)

-- a product of unitary matrices is
pub unitary_product : (n : ℕ) (v u : Table) (f e : ℕ) → IsUnitary n v f → IsUnitary n u e → IsUnitary n (product cyclotomics (2 ^ n) v u) (f + e)
unitary_product n v u f e hv hu = record {
  left =
      product-right laws (adjoint-product v u) _
      ⊙ scalar_between laws (adjoint u) (adjoint v) v u _ hv.left
      ⊙ multiple-cong laws _ hu.left
      ⊙ multiple-multiple laws _ _ _
      ⊙ multiple-factor laws (squares-add f e) _;
  right =
      product-left laws _ (adjoint-product v u)
      ⊙ scalar_between laws v u (adjoint u) (adjoint v) _ hu.right
      ⊙ multiple-cong laws _ hv.right
      ⊙ multiple-multiple laws _ _ _
      ⊙ multiple-factor laws (laws.mul_comm _ _ ∙ squares-add f e) _;
}

-- and the adjoint of one
pub unitary_adjoint : (n : ℕ) (u : Table) (e : ℕ) → IsUnitary n u e → IsUnitary n (adjoint u) e
unitary_adjoint n u e h = record { left = product-right laws (adjoint-adjoint u) _ ⊙ h.right; right = product-left laws _ (adjoint-adjoint u) ⊙ h.left }

-- ---- circuits
pub unitary_identity : (n : ℕ) → IsUnitary n (identity cyclotomics) 0
unitary_identity n = record { left = product-right laws adjoint-identity _ ⊙ square; right = product-left laws _ adjoint-identity ⊙ square }
  where
    square : Alike cyclotomics (2 ^ n) (product cyclotomics (2 ^ n) (identity cyclotomics) (identity cyclotomics)) (multiple cyclotomics (power cyclotomics root2 0) (identity cyclotomics))
    square = one-product laws _ ⊙ alike-sym (multiple-factor laws (power-zero laws root2) _ ⊙ multiple-one laws _)

-- gates behind a unitary matrix
unitary_after : (n : ℕ) → 0 < n → n ≤ 3 → (gates : List Gate) (m : ScaledMatrix) → IsCircuit n gates → IsUnitary n m.table m.exponent → IsUnitary n (after n m gates).table (after n m gates).exponent
unitary_after n some few [] m fits h = h
unitary_after n some few (g ∷ gates) m fits h =
    unitary_after n some few gates _ fits.1 (unitary_product n (gate_table g) m.table (gate_exponent g) m.exponent (unitary_gate n some few g fits.0) h)

-- each circuit's matrix is unitary
pub unitary_circuit : (n : ℕ) → 0 < n → n ≤ 3 → (gates : List Gate) → IsCircuit n gates → IsUnitary n (matrix_of n gates).table (matrix_of n gates).exponent
unitary_circuit n some few gates fits = unitary_after n some few gates (matrix_of n []) fits (unitary_identity n)
