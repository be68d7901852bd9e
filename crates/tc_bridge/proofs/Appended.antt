-- Lemmas for the crates above: the matrix of gates behind others.
use Rattle.std.proofs.Common.{ℕ, List, [], ◌∷◌, ◌++◌, sym, subst}
use Rattle.tc_circuit.specs.Gate.{gate_table, gate_exponent}
use Rattle.tc_circuit.specs.Model.{ScaledMatrix, after, matrix_of}
use Rattle.tc_circuit.specs.declared.circuit.Gate.{Gate}
use Rattle.tc_circuit.proofs.Same.{after-append}
use Rattle.tc_bridge.specs.Rotation.{scaled_product}
use Rattle.tc_bridge.proofs.ScaledMatrices.{Equal, one, equal-refl, equal-sym, ◌⊚◌, mul-left, mul_assoc, one-mul, mul-one}

-- a gate's matrix
abbrev pub gate_matrix : Gate → ScaledMatrix
gate_matrix g = record { table = gate_table g; exponent = gate_exponent g }

-- gates behind equal matrices make equal matrices
after-equal : (n : ℕ) (gates : List Gate) {a b : ScaledMatrix} → Equal n a b → Equal n (after n a gates) (after n b gates)
after-equal n [] h = h
after-equal n (g ∷ gates) h = after-equal n gates (mul-left (gate_matrix g) h)

-- gates behind a product act on its first factor
after-product : (n : ℕ) (gates : List Gate) (a b : ScaledMatrix) → Equal n (after n (scaled_product n a b) gates) (scaled_product n (after n a gates) b)
after-product n [] a b = equal-refl _
after-product n (g ∷ gates) a b = after-equal n gates (equal-sym (mul_assoc (gate_matrix g) a b)) ⊚ after-product n gates (scaled_product n (gate_matrix g) a) b

-- gates behind a matrix: the gates' own matrix times it
pub after_is : (n : ℕ) (gates : List Gate) (m : ScaledMatrix) → Equal n (after n m gates) (scaled_product n (matrix_of n gates) m)
after_is n gates m = after-equal n gates (equal-sym (one-mul m)) ⊚ after-product n gates one m

-- one circuit behind another: the product of the second matrix and the first
pub append_is : (n : ℕ) (c d : List Gate) → Equal n (matrix_of n (c ++ d)) (scaled_product n (matrix_of n d) (matrix_of n c))
append_is n c d = subst (λ (x : ScaledMatrix). Equal n x (scaled_product n (matrix_of n d) (matrix_of n c))) (sym (after-append n c d one)) (after_is n d (matrix_of n c))

-- a circuit of one gate
pub gate_is : (n : ℕ) (g : Gate) → Equal n (matrix_of n (g ∷ [])) (gate_matrix g)
gate_is n g = mul-one (gate_matrix g)

-- a circuit behind one gate
pub cons_is : (n : ℕ) (g : Gate) (c : List Gate) → Equal n (matrix_of n (g ∷ c)) (scaled_product n (matrix_of n c) (gate_matrix g))
cons_is n g c = after_is n c (scaled_product n (gate_matrix g) one) ⊚ mul-left (matrix_of n c) (mul-one (gate_matrix g))
