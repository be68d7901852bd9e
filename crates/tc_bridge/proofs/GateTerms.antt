-- The Clifford gates as sums of Paulis, and what conjugation by them makes of a Pauli, computed for one to three qubits.
use Rattle.std.proofs.Common.{ℕ, ◌*◌, ◌^◌, ◌<◌, ◌≤◌, List, [], ◌∷◌, Bool, ◌&&◌, ◌||◌, eqb, eqb→eq, ltb, ltb→lt, T as Holds, sym, ◌∙◌}
use Rattle.ring_laws.specs.Ring.{power}
use Rattle.ring_laws.specs.Matrix.{product, identity, kronecker}
use Rattle.ring_laws.specs.Cyclotomic.{cyclotomics, integer, plus, times, negative, ω, root2}
use Rattle.tc_bridge.proofs.Matrices.{Alike, ◌⊙◌, alike-sym, matrix_add, multiple, multiple-factor}
use Rattle.ring_laws.proofs.Cyclotomic.{cyclotomics_laws as laws}
use Rattle.tc_circuit.specs.Bits.{has_bit, flipped, crossed}
use Rattle.tc_circuit.specs.Gate.{gate_table, h_entry, diagonal_entry, cx_entry}
use Rattle.ring_laws.proofs.Sizes.{sizes}
use Rattle.pauli_basis.specs.Products.{product_code, turns, sign_turns}
use Rattle.pauli_basis.proofs.Small.{all, all_at, all_at2, and_left, and_right}
use Rattle.channel_rep.specs.declared.gate.ChannelGate.{ChannelGate}
use Rattle.channel_rep.specs.Gates.{GateFits, image}
use Rattle.tc_bridge.specs.Pauli.{imaginary, letter_matrix, pauli_matrix, sign}
use Rattle.tc_bridge.specs.Steps.{z_on}
use Rattle.tc_bridge.specs.Block.{as_gate}
use Rattle.tc_bridge.proofs.Decide.{same_number, number_equal}
use Rattle.tc_bridge.proofs.AllGates.{or_right}
use Rattle.tc_bridge.proofs.Powers.{imaginary-power, imaginary-sign}
use Rattle.tc_bridge.proofs.Terms.{Term, term, terms_sum, times_pauli, pauli_times, same_terms, same_sum, terms-pauli, pauli-terms}

-- ---- every Clifford gate
abbrev pub all_cliffords : ℕ → (ChannelGate → Bool) → Bool
all_cliffords n f = all n (λ q. f (ChannelGate.H q) && (f (ChannelGate.S q) && (f (ChannelGate.Sdg q) && all n (λ t. eqb q t || f (ChannelGate.Cx q t)))))

-- a test at one of them
at_clifford : (n : ℕ) (f : ChannelGate → Bool) → Holds (all_cliffords n f) → (g : ChannelGate) → GateFits n g → Holds (f g)
at_clifford n f h (ChannelGate.H q) l = and_left (f (ChannelGate.H q)) _ (all_at n _ h q l)
at_clifford n f h (ChannelGate.S q) l = and_left (f (ChannelGate.S q)) _ (and_right (f (ChannelGate.H q)) _ (all_at n _ h q l))
at_clifford n f h (ChannelGate.Sdg q) l = and_left (f (ChannelGate.Sdg q)) _ (and_right (f (ChannelGate.S q)) _ (and_right (f (ChannelGate.H q)) _ (all_at n _ h q l)))
at_clifford n f h (ChannelGate.Cx q t) l =
    or_right (eqb q t) (f (ChannelGate.Cx q t)) (λ k. l.2 (eqb→eq q t k))
    (all_at n (λ t. eqb q t || f (ChannelGate.Cx q t)) (and_right (f (ChannelGate.Sdg q)) _ (and_right (f (ChannelGate.S q)) _ (and_right (f (ChannelGate.H q)) _ (all_at n _ h q l.0)))) t l.1)

module _ (f : ℕ → ChannelGate → Bool) (one : Holds (all_cliffords 1 (f 1))) (two : Holds (all_cliffords 2 (f 2))) (three : Holds (all_cliffords 3 (f 3))) where
  -- a test that every Clifford gate passes
  pub each_clifford : (n : ℕ) → 0 < n → n ≤ 3 → (g : ChannelGate) → GateFits n g → Holds (f n g)
  each_clifford n some few = at_clifford n (f n) (sizes (λ n. Holds (all_cliffords n (f n))) one two three n some few)

-- ---- the gates as sums: h·√2 (its table) is X + Z, s·√2 is ω·I + ω⁷·Z, sdg·√2 is ω⁷·I + ω·Z, 2·cx is I + Z + X − Z·X
abbrev pub gate_terms : ChannelGate → List Term
gate_terms (ChannelGate.H q) = term 0 (4 ^ q) ∷ term 0 (z_on q) ∷ []
gate_terms (ChannelGate.S q) = term 1 0 ∷ term 7 (z_on q) ∷ []
gate_terms (ChannelGate.Sdg q) = term 7 0 ∷ term 1 (z_on q) ∷ []
gate_terms (ChannelGate.Cx control target) = term 0 0 ∷ term 0 (z_on control) ∷ term 0 (4 ^ target) ∷ term 4 (product_code (z_on control) (4 ^ target)) ∷ []

-- the power of √2 before each of them
abbrev pub gate_roots : ChannelGate → ℕ
gate_roots (ChannelGate.H q) = 0
gate_roots (ChannelGate.S q) = 1
gate_roots (ChannelGate.Sdg q) = 1
gate_roots (ChannelGate.Cx control target) = 2

-- the sum has the gate's entries
abbrev is_sum_at : ℕ → ChannelGate → ℕ → ℕ → Bool
is_sum_at n g r c = same_number (times (power cyclotomics root2 (gate_roots g)) (gate_table (as_gate g) r c)) (terms_sum n (gate_terms g) r c)

abbrev is_sum : ℕ → ChannelGate → Bool
is_sum n g = all (2 ^ n) (λ r. all (2 ^ n) (is_sum_at n g r))

-- computed on one, two and three qubits
sums_1 : Holds (all_cliffords 1 (is_sum 1))
unfolding matrix_add multiple kronecker identity integer plus times negative power ω root2 imaginary letter_matrix pauli_matrix has_bit flipped crossed h_entry diagonal_entry cx_entry
sums_1 = tt

sums_2 : Holds (all_cliffords 2 (is_sum 2))
unfolding matrix_add multiple kronecker identity integer plus times negative power ω root2 imaginary letter_matrix pauli_matrix has_bit flipped crossed h_entry diagonal_entry cx_entry
sums_2 = tt

sums_3 : Holds (all_cliffords 3 (is_sum 3))
unfolding matrix_add multiple kronecker identity integer plus times negative power ω root2 imaginary letter_matrix pauli_matrix has_bit flipped crossed h_entry diagonal_entry cx_entry
sums_3 = tt

-- √2 to its power times a Clifford gate is the sum of its terms
pub gate_sum : (n : ℕ) → 0 < n → n ≤ 3 → (g : ChannelGate) → GateFits n g → Alike cyclotomics (2 ^ n) (multiple cyclotomics (power cyclotomics root2 (gate_roots g)) (gate_table (as_gate g))) (terms_sum n (gate_terms g))
unfolding multiple
gate_sum n some few g fits = record { at = λ r c lr lc. number_equal _ _ (all_at2 (2 ^ n) (2 ^ n) (is_sum_at n g) (each_clifford is_sum sums_1 sums_2 sums_3 n some few g fits) r c lr lc) }

-- ---- conjugation
-- g·Q is g·Q·g† times g, as lists of terms
abbrev conjugates_at : ℕ → ChannelGate → ℕ → Bool
conjugates_at n g q = let s = image n g q in
    ltb s.code (4 ^ n) && same_terms (times_pauli n q (gate_terms g)) (pauli_times n (2 * sign_turns s.is_negative) s.code (gate_terms g))

-- for each Pauli
abbrev conjugates : ℕ → ChannelGate → Bool
conjugates n g = all (4 ^ n) (conjugates_at n g)

-- computed on one, two and three qubits
conjugates_1 : Holds (all_cliffords 1 (conjugates 1))
unfolding turns image
conjugates_1 = tt

conjugates_2 : Holds (all_cliffords 2 (conjugates 2))
unfolding turns image
conjugates_2 = tt

conjugates_3 : Holds (all_cliffords 3 (conjugates 3))
unfolding turns image
conjugates_3 = tt

module _ (n : ℕ) (some : 0 < n) (few : n ≤ 3) (g : ChannelGate) (fits : GateFits n g) (q : ℕ) (l : q < 4 ^ n) where
  -- the computed fact at one gate and one Pauli
  conjugated : Holds (conjugates_at n g q)
  conjugated = all_at (4 ^ n) (conjugates_at n g) (each_clifford conjugates conjugates_1 conjugates_2 conjugates_3 n some few g fits) q l

  -- the image is a Pauli on as many qubits
  pub image-lt : (image n g q).code < 4 ^ n
  image-lt = ltb→lt (image n g q).code (4 ^ n) (and_left (ltb (image n g q).code (4 ^ n)) _ conjugated)

  -- the sum of a gate's terms takes Q to its image
  pub terms_conjugate : let s = image n g q in
      Alike cyclotomics (2 ^ n) (product cyclotomics (2 ^ n) (terms_sum n (gate_terms g)) (pauli_matrix n q))
      (multiple cyclotomics (sign s.is_negative) (product cyclotomics (2 ^ n) (pauli_matrix n s.code) (terms_sum n (gate_terms g))))
  terms_conjugate = let s = image n g q in
      terms-pauli n q (gate_terms g)
      ⊙ same_sum n _ _ (and_right (ltb s.code (4 ^ n)) _ conjugated)
      ⊙ alike-sym (pauli-terms n (2 * sign_turns s.is_negative) s.code (gate_terms g))
      ⊙ multiple-factor laws (sym (imaginary-power (sign_turns s.is_negative)) ∙ imaginary-sign s.is_negative) _
