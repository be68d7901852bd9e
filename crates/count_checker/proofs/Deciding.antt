-- Whether two circuits are the same is decided: by the entries of their matrices, for each of the eight phases.
use Rattle.std.proofs.Common.{◌≡◌, ◌⊎◌, ℕ, zero, suc, ◌^◌, ◌<◌, Bool, true, false, ◌&&◌, ◌||◌, refl, ap, inl, inr, ⊎_elim}
use Rattle.std.specs.Bool.{Decides}
use Rattle.std.specs.Ordering.{int_eq}
use Rattle.std.proofs.lemmas.Bool.{cases_Bool}
use Rattle.std.proofs.lemmas.Bool.Decides.{not_from_Decides, Decides-like, Decides-and, Decides-eqb, Decides-int_eq, Decides-below_and, Decides-below_or}
use Rattle.ring_laws.specs.Ring.{power}
use Rattle.ring_laws.specs.Cyclotomic.{Zω, cyclotomics, times, ω, root2}
use Rattle.ring_laws.proofs.Cyclotomic.{coordinatewise}
use Rattle.tc_circuit.specs.Circuit.{Gates}
use Rattle.tc_circuit.specs.Model.{ScaledMatrix, matrix_of, SameUpTo}
use Rattle.count_checker.specs.Check.{AreSame}

-- a test at each number below one, and at some
abbrev at_all : (ℕ → Bool) → ℕ → Bool
at_all test zero = true
at_all test (suc n) = test n && at_all test n

abbrev at_some : (ℕ → Bool) → ℕ → Bool
at_some test zero = false
at_some test (suc n) = test n || at_some test n

-- the same coordinates
abbrev same_number : Zω → Zω → Bool
same_number x y = int_eq x.x0 y.x0 && (int_eq x.x1 y.x1 && (int_eq x.x2 y.x2 && int_eq x.x3 y.x3))

number_decided : (x y : Zω) → Decides (same_number x y) (x ≡ y)
number_decided x y =
    Decides-like (same_number x y)
    (λ h. coordinatewise record { x0 = h.0; x1 = h.1.0; x2 = h.1.1.0; x3 = h.1.1.1 })
    (λ e. (ap (λ (z : Zω). z.x0) e, (ap (λ (z : Zω). z.x1) e, (ap (λ (z : Zω). z.x2) e, ap (λ (z : Zω). z.x3) e))))
    (Decides-and _ _ (Decides-int_eq x.x0 y.x0) (Decides-and _ _ (Decides-int_eq x.x1 y.x1) (Decides-and _ _ (Decides-int_eq x.x2 y.x2) (Decides-int_eq x.x3 y.x3))))

module _ (size : ℕ) (a b : ScaledMatrix) where
  abbrev left : ℕ → ℕ → Zω
  left row column = times (power cyclotomics root2 b.exponent) (a.table row column)

  abbrev right : ℕ → ℕ → ℕ → Zω
  right j row column = times (power cyclotomics root2 a.exponent) (times (power cyclotomics ω j) (b.table row column))

  abbrev same_row : ℕ → ℕ → Bool
  same_row j row = at_all (λ column. same_number (left row column) (right j row column)) size

  -- a row, all rows, and one of the phases
  row_decided : (j row : ℕ) → Decides (same_row j row) ((column : ℕ) → column < size → left row column ≡ right j row column)
  row_decided j row =
      Decides-below_and (λ column. same_number (left row column) (right j row column)) (λ column. left row column ≡ right j row column)
      (at_all (λ column. same_number (left row column) (right j row column))) (λ column. number_decided (left row column) (right j row column)) refl (λ _. refl) size

  up_to_decided : (j : ℕ) → Decides (at_all (same_row j) size) (SameUpTo size j a b)
  up_to_decided j =
      Decides-like (at_all (same_row j) size) (λ h row column l m. h row l column m) (λ h row l column m. h row column l m)
      (Decides-below_and (same_row j) (λ row. (column : ℕ) → column < size → left row column ≡ right j row column) (at_all (same_row j)) (row_decided j) refl (λ _. refl) size)

  pub phases_decided : Decides (at_some (λ j. at_all (same_row j) size) 8) ((j : ℕ) × (j < 8) × SameUpTo size j a b)
  phases_decided = Decides-below_or (λ j. at_all (same_row j) size) (λ j. SameUpTo size j a b) (at_some (λ j. at_all (same_row j) size)) up_to_decided refl (λ _. refl) 8

-- two circuits are the same or they aren't
pub same_or_not : (a b : Gates) → AreSame a b ⊎ (AreSame a b → ⊥)
same_or_not a b =
    let both = Decides-and _ _ (Decides-eqb a.qubits b.qubits) (phases_decided (2 ^ a.qubits) (matrix_of a.qubits a.gates) (matrix_of a.qubits b.gates)) in
    ⊎_elim (λ yes. inl (both.0 yes)) (λ no. inr (not_from_Decides _ both no)) (cases_Bool _)
