-- The matrix of a circuit, gate by gate.
use Rattle.std.proofs.Common.{◌≡◌, ℕ, ◌+◌, ◌*◌, ◌^◌, ap, sym, subst, refl, ◌∙◌, List, [], ◌∷◌, ◌++◌, length, take, drop}
use Rattle.ring_laws.specs.Matrix.{product, Agree}
use Rattle.ring_laws.specs.Cyclotomic.{cyclotomics}
use Rattle.ring_laws.proofs.Sums.{product-Agree}
use Rattle.ring_laws.proofs.Cyclotomic.{cyclotomics_laws}
use Rattle.tc_ring.specs.declared.omega.Omega.{Omega}
use Rattle.tc_circuit.specs.Gate.{gate_table, gate_exponent}
use Rattle.tc_circuit.specs.Grid.{Grid, IsGrid, entries, grid_matrix}
use Rattle.tc_circuit.specs.Model.{ScaledMatrix, matrix_of, IsMatrixOf}
use Rattle.tc_circuit.specs.declared.circuit.Gate.{Gate}
use Rattle.tc_circuit.proofs.Cells.{written}
use Rattle.tc_circuit.proofs.Same.{after-append}

-- one gate more
pub matrix_more : (n : ℕ) (gate : Gate) (gates : List Gate) (a b : ScaledMatrix) → b.exponent ≡ gate_exponent gate + a.exponent
    → Agree cyclotomics (2 ^ n) b.table (product cyclotomics (2 ^ n) (gate_table gate) a.table) → IsMatrixOf n gates a → IsMatrixOf n (gates ++ gate ∷ []) b
matrix_more n gate gates a b e agrees h =
    let one = after-append n gates (gate ∷ []) (matrix_of n []) in
    record {
      exponent = e ∙ ap (λ k. gate_exponent gate + k) h.exponent ∙ sym (ap (λ (m : ScaledMatrix). m.exponent) one);
      table = λ r c lr lc. agrees r c lr lc
          ∙ product-Agree cyclotomics_laws (2 ^ n) (gate_table gate) (gate_table gate) a.table (matrix_of n gates).table (λ i j li lj. refl) h.table r c lr lc
          ∙ sym (ap (λ (m : ScaledMatrix). m.table r c) one);
    }

-- the same, of cells that were lent as a slice and written
pub matrix_written : (n k j len : ℕ) (gate : Gate) (old lent new : List Omega) (view : Grid) → record { qubits = n; exponent = k; cells = old } ≡ view
    → IsGrid (record { qubits = n; exponent = k; cells = old }) → lent ≡ old → length lent ≡ len → j ≡ gate_exponent gate + k → length new ≡ 2 ^ n * 2 ^ n
    → Agree cyclotomics (2 ^ n) (entries n new) (product cyclotomics (2 ^ n) (gate_table gate) (entries n lent))
    → (gates : List Gate) → IsMatrixOf view.qubits gates (grid_matrix view) → IsMatrixOf view.qubits (gates ++ gate ∷ []) (grid_matrix (record { qubits = n; exponent = j; cells = take len (new ++ drop (length new) old) }))
matrix_written n k j len gate old lent new view e h same long more whole agrees gates =
    let before : length old ≡ len = sym (ap length same) ∙ long in
    let after : length new ≡ len = whole ∙ sym h.whole ∙ before in
    let agreed = subst (λ (cells : List Omega). Agree cyclotomics (2 ^ n) (entries n new) (product cyclotomics (2 ^ n) (gate_table gate) (entries n cells))) same agrees in
    subst (λ (view : Grid). IsMatrixOf view.qubits gates (grid_matrix view) → IsMatrixOf view.qubits (gates ++ gate ∷ []) (grid_matrix (record { qubits = n; exponent = j; cells = take len (new ++ drop (length new) old) }))) e
    (λ m. subst (λ (cells : List Omega). IsMatrixOf n (gates ++ gate ∷ []) (grid_matrix (record { qubits = n; exponent = j; cells = cells }))) (sym (written len new old after before))
    (matrix_more n gate gates (grid_matrix (record { qubits = n; exponent = k; cells = old })) (grid_matrix (record { qubits = n; exponent = j; cells = new })) more agreed m))
