-- Lemmas for the crates above: Clifford gates move past a·I + b·P as they conjugate P, and so a gate between Clifford gates
-- and their inverses is conjugated.
use Rattle.std.proofs.Common.{◌≡◌, ℕ, suc, ◌+◌, ◌^◌, ◌<◌, ◌≤◌, List, [], ◌∷◌, ◌++◌, Bool, false, T as Holds, refl, ap, sym, ◌∙◌, subst, add_comm, append_assoc, length, length-append, arith}
use Rattle.std.specs.List.{AllByRecursion}
use Rattle.ring_laws.specs.Ring.{power}
use Rattle.ring_laws.specs.Cyclotomic.{Zω, cyclotomics, integer, times, negative, conjugate, ω, root2}
use Rattle.ring_laws.proofs.Ring.{power-zero}
use Rattle.tc_bridge.proofs.Matrices.{◌⊙◌, alike-refl, alike-sym, add-cong, multiple-cong, multiple-factor, multiple-multiple, multiple-one, product-right}
use Rattle.ring_laws.proofs.Cyclotomic.{cyclotomics_laws as laws, times_assoc, times-one}
use Rattle.tc_circuit.specs.Bits.{has_bit, flipped, crossed}
use Rattle.tc_circuit.specs.Gate.{Table, gate_table, gate_exponent, h_entry, diagonal_entry, cx_entry}
use Rattle.tc_circuit.specs.Gate as circuit
use Rattle.tc_circuit.specs.Model.{ScaledMatrix, matrix_of}
use Rattle.tc_circuit.specs.declared.circuit.Gate.{Gate}
use Rattle.pauli_basis.specs.Products.{Signed}
use Rattle.pauli_basis.proofs.Small.{all, all_at2}
use Rattle.channel_rep.specs.declared.gate.ChannelGate.{ChannelGate}
use Rattle.channel_rep.specs.declared.gate.ChannelGate.TheVariants.{H, S, Sdg, Cx}
use Rattle.channel_rep.specs.Gates.{GateFits, image}
use Rattle.channel_rep.specs.Conjugations.{conjugated, conjugated_by}
use Rattle.tc_bridge.specs.Pauli.{sign}
use Rattle.tc_bridge.specs.Rotation.{axis, scaled_product}
use Rattle.tc_bridge.specs.Block.{as_gate, as_gates, inverse_gate, undone, conjugated_gates}
use Rattle.tc_bridge.proofs.Decide.{same_number, number_equal}
use Rattle.tc_bridge.proofs.Powers.{sign-false, sign-times}
use Rattle.tc_bridge.proofs.Adjoints.{adjoint}
use Rattle.tc_bridge.proofs.Unitary.{unitary_gate}
use Rattle.tc_bridge.proofs.GateTerms.{all_cliffords, each_clifford, image-lt}
use Rattle.tc_bridge.proofs.CircuitChannels.{gate_conjugates}
use Rattle.tc_bridge.proofs.Axes.{axis-product, product-axis}
use Rattle.tc_bridge.proofs.ScaledMatrices.{Equal, one, equal_tables, equal-refl, equal-sym, ◌⊚◌, mul-left, mul-right, mul_assoc, one-mul}
use Rattle.tc_bridge.proofs.Appended.{gate_matrix, append_is, gate_is, cons_is}

-- ---- inverses
-- the matrix of the inverse is the conjugate transpose
abbrev adjoint_at : ℕ → ChannelGate → ℕ → ℕ → Bool
adjoint_at n g r c = same_number (gate_table (as_gate (inverse_gate g)) r c) (conjugate (gate_table (as_gate g) c r))

-- the same for each entry
abbrev is_adjoint : ℕ → ChannelGate → Bool
is_adjoint n g = all (2 ^ n) (λ r. all (2 ^ n) (adjoint_at n g r))

-- computed on one, two and three qubits
adjoints_1 : Holds (all_cliffords 1 (is_adjoint 1))
unfolding integer conjugate times negative power ω has_bit flipped crossed h_entry diagonal_entry cx_entry
adjoints_1 = tt

adjoints_2 : Holds (all_cliffords 2 (is_adjoint 2))
unfolding integer conjugate times negative power ω has_bit flipped crossed h_entry diagonal_entry cx_entry
adjoints_2 = tt

adjoints_3 : Holds (all_cliffords 3 (is_adjoint 3))
unfolding integer conjugate times negative power ω has_bit flipped crossed h_entry diagonal_entry cx_entry
adjoints_3 = tt

-- a gate and its inverse have one exponent
inverse_exponent : (g : ChannelGate) → gate_exponent (as_gate (inverse_gate g)) ≡ gate_exponent (as_gate g)
inverse_exponent (H q) = refl
inverse_exponent (S q) = refl
inverse_exponent (Sdg q) = refl
inverse_exponent (Cx c t) = refl

-- a Clifford gate that fits is a gate that fits
pub gate_fits : (n : ℕ) (g : ChannelGate) → GateFits n g → circuit.Fits n (as_gate g)
gate_fits n (H q) l = l
gate_fits n (S q) l = l
gate_fits n (Sdg q) l = l
gate_fits n (Cx c t) l = l

module _ (n : ℕ) (some : 0 < n) (few : n ≤ 3) where
  -- the inverse undoes the gate
  pub inverse_is : (g : ChannelGate) → GateFits n g → Equal n (scaled_product n (gate_matrix (as_gate (inverse_gate g))) (gate_matrix (as_gate g))) one
  unfolding adjoint
  inverse_is g fits = record {
    is =
        multiple-factor laws (power-zero laws root2) _ ⊙ multiple-one laws _
        ⊙ product-right laws (record { at = λ r c lr lc. number_equal _ _ (all_at2 (2 ^ n) (2 ^ n) (adjoint_at n g) (each_clifford is_adjoint adjoints_1 adjoints_2 adjoints_3 n some few g fits) r c lr lc) }) _
        ⊙ (unitary_gate n some few (as_gate g) (gate_fits n g fits)).left
        ⊙ multiple-factor laws (ap (λ (e : ℕ). power cyclotomics root2 (e + gate_exponent (as_gate g))) (sym (inverse_exponent g))) _;
  }

-- the inverse fits where the gate does
pub inverse_fits : (n : ℕ) (g : ChannelGate) → GateFits n g → GateFits n (inverse_gate g)
inverse_fits n (H q) l = l
inverse_fits n (S q) l = l
inverse_fits n (Sdg q) l = l
inverse_fits n (Cx c t) l = l

-- what holds of each of two lists holds of each of both
pub all-append : {X : Type 0} (P : X → Type 0) (c d : List X) → AllByRecursion P c → AllByRecursion P d → AllByRecursion P (c ++ d)
all-append P [] d h g = g
all-append P (x ∷ c) d h g = (h.0, all-append P c d h.1 g)

-- gates that are undone fit
pub undone_fits : (n : ℕ) (gates : List ChannelGate) → AllByRecursion (GateFits n) gates → AllByRecursion (GateFits n) (undone gates)
undone_fits n [] h = tt
undone_fits n (g ∷ gates) h = all-append (GateFits n) (undone gates) (inverse_gate g ∷ []) (undone_fits n gates h.1) (inverse_fits n g h.0, tt)

-- ---- a gate past a·I + b·P
abbrev pub signed_axis : ℕ → Zω → Zω → Signed → ℕ → ScaledMatrix
signed_axis n a b s j = record { table = axis n a (times b (sign s.is_negative)) s.code; exponent = j }

-- as many gates in either form
pub length-as_gates : (gates : List ChannelGate) → length (as_gates gates) ≡ length gates
length-as_gates [] = refl
length-as_gates (g ∷ gates) = ap suc (length-as_gates gates)

-- as many inverses as gates
pub length-undone : (gates : List ChannelGate) → length (undone gates) ≡ length gates
length-undone [] = refl
length-undone (g ∷ gates) = let e = length-append (undone gates) (inverse_gate g ∷ []) in omega (arith, e, length-undone gates)

module _ (n : ℕ) (some : 0 < n) (few : n ≤ 3) where
  -- g·(a·I ± b·P) is (a·I ± b·g·P·g†)·g
  pub gate_axis : (g : ChannelGate) → GateFits n g → (a b : Zω) (s : Signed) (j : ℕ) → s.code < 4 ^ n
      → Equal n (scaled_product n (gate_matrix (as_gate g)) (signed_axis n a b s j)) (scaled_product n (signed_axis n a b (conjugated n g s) j) (gate_matrix (as_gate g)))
  gate_axis g fits a b s j l =
      let t = image n g s.code in
      let u = gate_table (as_gate g) in
      equal_tables _ _ (add_comm (gate_exponent (as_gate g)) j) (
      product-axis n a _ s.code u
      ⊙ add-cong laws (alike-refl _)
      (multiple-cong laws _ (gate_conjugates n some few g fits s.code l) ⊙ multiple-multiple laws _ _ _
      ⊙ multiple-factor laws (times_assoc b (sign s.is_negative) (sign t.is_negative) ∙ ap (times b) (sign-times s.is_negative t.is_negative)) _)
      ⊙ alike-sym (axis-product n a _ t.code u))

-- ---- a gate between Clifford gates and their inverses
pub as_gates-append : (c d : List ChannelGate) → as_gates (c ++ d) ≡ as_gates c ++ as_gates d
as_gates-append [] d = refl
as_gates-append (g ∷ c) d = ap (λ (x : List Gate). as_gate g ∷ x) (as_gates-append c d)

-- one Clifford gate more on both sides
conjugated-cons : (g : ChannelGate) (gates : List ChannelGate) (center : Gate) → conjugated_gates (g ∷ gates) center ≡ as_gate g ∷ (conjugated_gates gates center ++ (as_gate (inverse_gate g) ∷ []))
conjugated-cons g gates center =
    ap (λ (x : List Gate). as_gate g ∷ (as_gates gates ++ (center ∷ x))) (as_gates-append (undone gates) (inverse_gate g ∷ []))
    ∙ ap (λ (x : List Gate). as_gate g ∷ x) (sym (append_assoc (as_gates gates) (center ∷ as_gates (undone gates)) (as_gate (inverse_gate g) ∷ [])))

-- a·I + b·P as one with a sign
pub plain_axis : (n : ℕ) (a b : Zω) (p j : ℕ) → Equal n (record { table = axis n a b p; exponent = j }) (signed_axis n a b (record { code = p; is_negative = false }) j)
plain_axis n a b p j = subst (λ (x : Zω). Equal n (record { table = axis n a b p; exponent = j }) (record { table = axis n a x p; exponent = j })) (sym (ap (times b) sign-false ∙ times-one b)) (equal-refl _)

module _ (n : ℕ) (some : 0 < n) (few : n ≤ 3) where
  -- where the Clifford gates take a Pauli to that of the center, the whole is the center with the first Pauli
  pub conjugated_is : (gates : List ChannelGate) (center : Gate) (a b : Zω) (z j : ℕ) → AllByRecursion (GateFits n) gates → Equal n (gate_matrix center) (record { table = axis n a b z; exponent = j })
      → (s : Signed) → s.code < 4 ^ n → conjugated_by n gates s ≡ record { code = z; is_negative = false } → Equal n (matrix_of n (conjugated_gates gates center)) (signed_axis n a b s j)
  conjugated_is [] center a b z j fits h s l e = gate_is n center ⊚ h ⊚ subst (λ (t : Signed). Equal n (record { table = axis n a b z; exponent = j }) (signed_axis n a b t j)) (sym e) (plain_axis n a b z j)
  conjugated_is (g ∷ gates) center a b z j fits h s l e =
      let u = gate_matrix (as_gate g) in
      let v = gate_matrix (as_gate (inverse_gate g)) in
      let back = as_gate (inverse_gate g) ∷ [] in
      subst (λ (c : List Gate). Equal n (matrix_of n c) (signed_axis n a b s j)) (sym (conjugated-cons g gates center)) (
      cons_is n (as_gate g) (conjugated_gates gates center ++ back)
      ⊚ mul-right (append_is n (conjugated_gates gates center) back ⊚ mul-right (gate_is n (as_gate (inverse_gate g))) _ ⊚ mul-left v (conjugated_is gates center a b z j fits.1 h (conjugated n g s) (image-lt n some few g fits.0 s.code l) e)) u
      ⊚ mul_assoc v _ u ⊚ mul-left v (equal-sym (gate_axis n some few g fits.0 a b s j l)) ⊚ equal-sym (mul_assoc v u _)
      ⊚ mul-right (inverse_is n some few g fits.0) _ ⊚ one-mul _)
