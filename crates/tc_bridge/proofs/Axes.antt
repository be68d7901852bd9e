-- Lemmas for the crates above: the matrices a·I + b·P.
use Rattle.std.proofs.Common.{ℕ, ◌^◌, [], ◌∷◌}
use Rattle.ring_laws.specs.Matrix.{product, identity}
use Rattle.ring_laws.specs.Cyclotomic.{Zω, cyclotomics, plus, times}
use Rattle.tc_bridge.proofs.Matrices.{Alike, ◌⊙◌, alike, alike-refl, add-cong, matrix_add, multiple, multiple-product, product-multiple, product-matrix_add, matrix_add-product, multiple-cong, scalar-product, product-scalar}
use Rattle.ring_laws.proofs.Cyclotomic.{cyclotomics_laws as laws}
use Rattle.tc_circuit.specs.Gate.{Table}
use Rattle.ring_laws.proofs.Reader.{ring, reads}
use Rattle.tc_bridge.specs.Pauli.{pauli_matrix}
use Rattle.tc_bridge.specs.Rotation.{axis}
use Rattle.tc_bridge.proofs.Paulis.{pauli_square}

module _ (n : ℕ) (a b : Zω) (p : ℕ) where
  -- (a·I + b·P)·U is a·U + b·P·U
  pub axis-product : (u : Table) → Alike cyclotomics (2 ^ n) (product cyclotomics (2 ^ n) (axis n a b p) u) (matrix_add cyclotomics (multiple cyclotomics a u) (multiple cyclotomics b (product cyclotomics (2 ^ n) (pauli_matrix n p) u)))
  unfolding axis matrix_add multiple
  axis-product u = matrix_add-product laws (multiple cyclotomics a (identity cyclotomics)) (multiple cyclotomics b (pauli_matrix n p)) u ⊙ add-cong laws (scalar-product laws a u) (multiple-product laws b (pauli_matrix n p) u)

  -- U·(a·I + b·P) is a·U + b·U·P
  pub product-axis : (u : Table) → Alike cyclotomics (2 ^ n) (product cyclotomics (2 ^ n) u (axis n a b p)) (matrix_add cyclotomics (multiple cyclotomics a u) (multiple cyclotomics b (product cyclotomics (2 ^ n) u (pauli_matrix n p))))
  unfolding axis matrix_add multiple
  product-axis u = product-matrix_add laws u (multiple cyclotomics a (identity cyclotomics)) (multiple cyclotomics b (pauli_matrix n p)) ⊙ add-cong laws (product-scalar laws a u) (product-multiple laws b u (pauli_matrix n p))

-- ---- multiples, and products of two
pub multiple-axis : {m : ℕ} (n : ℕ) (w a b : Zω) (p : ℕ) → Alike cyclotomics m (multiple cyclotomics w (axis n a b p)) (axis n (times w a) (times w b) p)
unfolding axis multiple
multiple-axis n w a b p = alike (λ r c. ring laws (w ∷ a ∷ b ∷ identity cyclotomics r c ∷ pauli_matrix n p r c ∷ []) (search reads depth 30 parts 0 fits 10000) tt)

-- (a·I + b·P)·(d·I + e·P) by P·P = I
pub axis-axis : (n : ℕ) (a b d e : Zω) (p : ℕ) → Alike cyclotomics (2 ^ n) (product cyclotomics (2 ^ n) (axis n a b p) (axis n d e p)) (axis n (plus (times a d) (times b e)) (plus (times a e) (times b d)) p)
unfolding axis matrix_add multiple
axis-axis n a b d e p =
    axis-product n a b p (axis n d e p)
    ⊙ add-cong laws (alike-refl _) (multiple-cong laws b (product-axis n d e p (pauli_matrix n p) ⊙ add-cong laws (alike-refl _) (multiple-cong laws e (pauli_square n p))))
    ⊙ alike (λ r c. ring laws (a ∷ b ∷ d ∷ e ∷ identity cyclotomics r c ∷ pauli_matrix n p r c ∷ []) (search reads depth 30 parts 0 fits 10000) tt)
