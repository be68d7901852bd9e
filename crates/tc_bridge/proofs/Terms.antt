-- Sums of Paulis with powers of ω before them, as lists: products with a Pauli, and equality up to the order of the terms.
use Rattle.std.proofs.Common.{ℕ, ◌+◌, ◌*◌, ◌%◌, ◌^◌, List, [], ◌∷◌, Bool, true, false, ◌&&◌, eqb, eqb→eq, T as Holds, ap, sym, ◌∙◌}
use Rattle.ring_laws.specs.Ring.{power}
use Rattle.ring_laws.specs.Matrix.{product}
use Rattle.ring_laws.specs.Cyclotomic.{cyclotomics, times, ω}
use Rattle.ring_laws.proofs.Ring.{power-add}
use Rattle.tc_bridge.proofs.Matrices.{Alike, ◌⊙◌, alike, alike-refl, alike-sym, nothing, matrix_add, add-cong, add_left_comm, multiple, multiple-cong, multiple-add, multiple-factor, multiple-multiple, multiple-nothing, multiple-product, product-multiple, product-matrix_add, matrix_add-product, product-nothing, nothing-product}
use Rattle.ring_laws.proofs.Cyclotomic.{cyclotomics_laws as laws}
use Rattle.tc_circuit.specs.Gate.{Table}
use Rattle.pauli_basis.specs.Products.{product_code, turns}
use Rattle.pauli_basis.proofs.Small.{and_left, and_right}
use Rattle.tc_bridge.specs.Pauli.{pauli_matrix}
use Rattle.tc_bridge.proofs.Powers.{imaginary-power, ω-mod}
use Rattle.tc_bridge.proofs.Paulis.{paulis_multiply}

-- ω^turn · P
pub record Term : Type 0 where
  pub turn : ℕ
  pub code : ℕ

-- a term by its parts
abbrev pub term : ℕ → ℕ → Term
term turn code = record { turn = turn; code = code }

-- its matrix
abbrev pub term_matrix : ℕ → Term → Table
term_matrix n t = multiple cyclotomics (power cyclotomics ω t.turn) (pauli_matrix n t.code)

-- the sum of the terms
abbrev pub terms_sum : ℕ → List Term → Table
terms_sum n [] = nothing cyclotomics
terms_sum n (t ∷ ts) = matrix_add cyclotomics (term_matrix n t) (terms_sum n ts)

-- ---- the order of the terms
-- one power of ω and one Pauli
abbrev pub same_term : Term → Term → Bool
same_term a b = eqb a.code b.code && eqb (a.turn % 8) (b.turn % 8)

-- a list without one term, if that was found
pub record Removed : Type 0 where
  pub found : Bool
  pub rest : List Term

-- one term taken out
abbrev pub remove : Term → List Term → Removed
remove t [] = record { found = false; rest = [] }
remove t (u ∷ us) = elim (same_term t u) [ true ↦ record { found = true; rest = us } | false ↦ (let r = remove t us in record { found = r.found; rest = u ∷ r.rest }) ]

-- the same terms in another order
abbrev pub same_terms : List Term → List Term → Bool
same_terms [] [] = true
same_terms [] (u ∷ us) = false
same_terms (t ∷ ts) us = let r = remove t us in r.found && same_terms ts r.rest

module _ {n : ℕ} where
  -- terms that pass the test have one matrix
  term_equal : (m : ℕ) (t u : Term) → Holds (same_term t u) → Alike cyclotomics n (term_matrix m t) (term_matrix m u)
  unfolding multiple
  term_equal m t u h =
      let code = eqb→eq t.code u.code (and_left (eqb t.code u.code) _ h) in
      let turn = eqb→eq (t.turn % 8) (u.turn % 8) (and_right (eqb t.code u.code) _ h) in
      alike (λ r c i. times ((ω-mod t.turn ∙ ap (power cyclotomics ω) turn ∙ sym (ω-mod u.turn)) i) (pauli_matrix m (code i) r c))

  -- a term that was found stands before the rest
  removed : (m : ℕ) (t : Term) (us : List Term) → Holds (remove t us).found → Alike cyclotomics n (terms_sum m us) (matrix_add cyclotomics (term_matrix m t) (terms_sum m (remove t us).rest))
  removed m t [] h = absurd h
  removed m t (u ∷ us) h = by (same_term t u) (term_equal m t u) (removed m t us) h
    where
      by : (b : Bool) → (Holds b → Alike cyclotomics n (term_matrix m t) (term_matrix m u))
          → (Holds (remove t us).found → Alike cyclotomics n (terms_sum m us) (matrix_add cyclotomics (term_matrix m t) (terms_sum m (remove t us).rest)))
          → Holds (elim b as (λ _. Removed) [ true ↦ record { found = true; rest = us } | false ↦ record { found = (remove t us).found; rest = u ∷ (remove t us).rest } ]).found
          → Alike cyclotomics n (matrix_add cyclotomics (term_matrix m u) (terms_sum m us))
          (matrix_add cyclotomics (term_matrix m t) (terms_sum m (elim b as (λ _. Removed) [ true ↦ record { found = true; rest = us } | false ↦ record { found = (remove t us).found; rest = u ∷ (remove t us).rest } ]).rest))
      by true e ih h = add-cong laws (alike-sym (e tt)) (alike-refl _)
      by false e ih h = add-cong laws (alike-refl _) (ih h) ⊙ add_left_comm laws _ _ _

  -- lists that pass the test have one sum
  pub same_sum : (m : ℕ) (ts us : List Term) → Holds (same_terms ts us) → Alike cyclotomics n (terms_sum m ts) (terms_sum m us)
  same_sum m [] [] h = alike-refl _
  same_sum m [] (u ∷ us) h = absurd h
  same_sum m (t ∷ ts) us h =
      add-cong laws (alike-refl _) (same_sum m ts (remove t us).rest (and_right (remove t us).found _ h))
      ⊙ alike-sym (removed m t us (and_left (remove t us).found _ h))

-- ---- products
-- the terms of the sum times Q
abbrev pub times_pauli : ℕ → ℕ → List Term → List Term
times_pauli n q [] = []
times_pauli n q (t ∷ ts) = term (t.turn + 2 * turns n t.code q) (product_code t.code q) ∷ times_pauli n q ts

-- and those of ω^turn·P times the sum
abbrev pub pauli_times : ℕ → ℕ → ℕ → List Term → List Term
pauli_times n turn p [] = []
pauli_times n turn p (t ∷ ts) = term ((turn + t.turn) + 2 * turns n p t.code) (product_code p t.code) ∷ pauli_times n turn p ts

-- ω^k·P·Q as a term
turned_product : (n k p q : ℕ) → Alike cyclotomics (2 ^ n) (multiple cyclotomics (power cyclotomics ω k) (product cyclotomics (2 ^ n) (pauli_matrix n p) (pauli_matrix n q))) (term_matrix n (term (k + 2 * turns n p q) (product_code p q)))
turned_product n k p q =
    multiple-cong laws _ (paulis_multiply n p q ⊙ multiple-factor laws (imaginary-power (turns n p q)) _)
    ⊙ multiple-multiple laws _ _ _ ⊙ multiple-factor laws (sym (power-add laws ω k (2 * turns n p q))) _

-- their matrices
pub terms-pauli : (n q : ℕ) (ts : List Term) → Alike cyclotomics (2 ^ n) (product cyclotomics (2 ^ n) (terms_sum n ts) (pauli_matrix n q)) (terms_sum n (times_pauli n q ts))
terms-pauli n q [] = nothing-product laws _
terms-pauli n q (t ∷ ts) =
    matrix_add-product laws (term_matrix n t) (terms_sum n ts) (pauli_matrix n q)
    ⊙ add-cong laws (multiple-product laws _ (pauli_matrix n t.code) _ ⊙ turned_product n t.turn t.code q) (terms-pauli n q ts)

-- on the other side
pub pauli-terms : (n turn p : ℕ) (ts : List Term) → Alike cyclotomics (2 ^ n) (multiple cyclotomics (power cyclotomics ω turn) (product cyclotomics (2 ^ n) (pauli_matrix n p) (terms_sum n ts))) (terms_sum n (pauli_times n turn p ts))
pauli-terms n turn p [] = multiple-cong laws _ (product-nothing laws _) ⊙ multiple-nothing laws _
pauli-terms n turn p (t ∷ ts) =
    multiple-cong laws _ (product-matrix_add laws (pauli_matrix n p) (term_matrix n t) (terms_sum n ts)) ⊙ multiple-add laws _ _ _
    ⊙ add-cong laws
    (multiple-cong laws _ (product-multiple laws _ (pauli_matrix n p) (pauli_matrix n t.code)) ⊙ multiple-multiple laws _ _ _ ⊙ multiple-factor laws (sym (power-add laws ω turn t.turn)) _ ⊙ turned_product n (turn + t.turn) p t.code)
    (pauli-terms n turn p ts)
