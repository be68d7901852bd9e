-- Matrices of circuits in place of the circuits.
use Rattle.std.proofs.Common.{◌≡◌, ℕ, ◌^◌, ◌<◌, ◌↔◌, sym, subst, ◌∙◌, List}
use Rattle.ring_laws.specs.Ring.{power}
use Rattle.ring_laws.specs.Matrix.{Agree}
use Rattle.ring_laws.specs.Cyclotomic.{cyclotomics, times, ω, root2}
use Rattle.tc_circuit.specs.Model.{ScaledMatrix, matrix_of, IsMatrixOf, SameUpTo, Same}
use Rattle.tc_circuit.specs.declared.circuit.Gate.{Gate}

-- matrices with the same exponents and entries are the same up to the same phase
same_moved : (size j : ℕ) (a x b y : ScaledMatrix) → a.exponent ≡ x.exponent → Agree cyclotomics size a.table x.table → b.exponent ≡ y.exponent → Agree cyclotomics size b.table y.table
    → SameUpTo size j a b → SameUpTo size j x y
same_moved size j a x b y ea ta eb tb h = λ r c lr lc.
    let left : times (power cyclotomics root2 b.exponent) (a.table r c) ≡ times (power cyclotomics root2 y.exponent) (x.table r c) = λ i. times (power cyclotomics root2 (eb i)) (ta r c lr lc i) in
    let right : times (power cyclotomics root2 a.exponent) (times (power cyclotomics ω j) (b.table r c)) ≡ times (power cyclotomics root2 x.exponent) (times (power cyclotomics ω j) (y.table r c))
    = λ i. times (power cyclotomics root2 (ea i)) (times (power cyclotomics ω j) (tb r c lr lc i)) in
    sym left ∙ h r c lr lc ∙ right

-- a test of two matrices is one of the circuits
pub test_of_circuits : (T : Type 0) (size n m : ℕ) (c d : List Gate) (x y : ScaledMatrix) → size ≡ n → n ≡ m → IsMatrixOf n c x → IsMatrixOf m d y
    → T ↔ ((j : ℕ) × (j < 8) × SameUpTo (2 ^ size) j x y) → T ↔ ((n ≡ m) × Same n c d)
test_of_circuits T size n m c d x y e same f g h =
    let g' = subst (λ (k : ℕ). IsMatrixOf k d y) (sym same) g in
    let at : (j : ℕ) → SameUpTo (2 ^ size) j x y ↔ SameUpTo (2 ^ n) j (matrix_of n c) (matrix_of n d) = λ j. subst (λ (k : ℕ). SameUpTo (2 ^ k) j x y ↔ SameUpTo (2 ^ n) j (matrix_of n c) (matrix_of n d)) (sym e) (
      same_moved (2 ^ n) j x (matrix_of n c) y (matrix_of n d) f.exponent f.table g'.exponent g'.table,
      same_moved (2 ^ n) j (matrix_of n c) x (matrix_of n d) y (sym f.exponent) (λ r k lr lk. sym (f.table r k lr lk)) (sym g'.exponent) (λ r k lr lk. sym (g'.table r k lr lk)),
    ) in (
      λ t. let s = h.0 t in (same, (s.0, s.1, (at s.0).0 s.2)),
      λ (e, s). h.1 (s.0, s.1, (at s.0).1 s.2),
    )
