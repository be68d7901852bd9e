-- R(−P) is, up to a power of ω, R(P) behind a Clifford circuit.
use Rattle.std.proofs.Common.{◌≡◌, ◌≢◌, ℕ, ◌^◌, ◌<◌, ◌≤◌, List, [], ◌∷◌, ◌++◌, Bool, true, false, T as Holds, sym, ◌∙◌, subst}
use Rattle.std.specs.List.{AllByRecursion}
use Rattle.ring_laws.specs.Ring.{power}
use Rattle.ring_laws.specs.Matrix.{identity}
use Rattle.ring_laws.specs.Cyclotomic.{Zω, cyclotomics, integer, plus, times, negative, ω, root2, one_number}
use Rattle.ring_laws.proofs.Ring.{power-zero, power-one, power-suc}
use Rattle.tc_bridge.proofs.Matrices.{Alike, ◌⊙◌, alike, alike-sym, matrix_add, add-cong, add-nothing, multiple, multiple-cong, multiple-factor, multiple-multiple, multiple-one}
use Rattle.ring_laws.proofs.Cyclotomic.{cyclotomics_laws as laws}
use Rattle.tc_circuit.specs.Model.{ScaledMatrix, matrix_of}
use Rattle.tc_circuit.specs.declared.circuit.Gate.{Gate}
use Rattle.channel_rep.specs.declared.gate.ChannelGate.{ChannelGate}
use Rattle.channel_rep.specs.declared.gate.ChannelGate.TheVariants.{Sdg}
use Rattle.channel_rep.specs.Gates.{GateFits}
use Rattle.tc_bridge.specs.Pauli.{pauli_matrix, sign}
use Rattle.tc_bridge.specs.Rotation.{axis, rotation, scaled_product}
use Rattle.tc_bridge.specs.Steps.{z_on}
use Rattle.tc_bridge.specs.Block.{as_gates, undone, opening, highest}
use Rattle.tc_bridge.proofs.Decide.{same_number, number_equal}
use Rattle.tc_bridge.proofs.Paulis.{pauli_identity}
use Rattle.tc_bridge.proofs.Axes.{multiple-axis, axis-axis}
use Rattle.tc_bridge.proofs.GateTerms.{gate_sum}
use Rattle.tc_bridge.proofs.ScaledMatrices.{Equal, Near, near, ◌⊛◌, near-left, equal-sym, mul-one}
use Rattle.tc_bridge.proofs.Appended.{gate_matrix}
use Rattle.tc_bridge.proofs.Conjugations.{signed_axis, plain_axis, as_gates-append, all-append, undone_fits}
use Rattle.tc_bridge.proofs.Blocks.{opening_is, opened_is}

-- 1 + ω and 1 − ω
abbrev pub one_plus : Zω
one_plus = plus one_number ω

abbrev pub one_minus : Zω
one_minus = plus one_number (negative ω)

-- (ω⁷·I + ω·P)/√2, the inverse of R(P)² up to a power of ω
abbrev quarter : ℕ → ℕ → ScaledMatrix
quarter n p = record { table = axis n (power cyclotomics ω 7) ω p; exponent = 1 }

-- ---- R(−P) is ω·R(P) times that
on_identity : Holds (same_number (times root2 one_plus) (times ω (plus (times one_plus (power cyclotomics ω 7)) (times one_minus ω))))
unfolding power integer plus times negative ω root2
on_identity = tt

on_pauli : Holds (same_number (times root2 (times one_minus (sign true))) (times ω (plus (times one_plus ω) (times one_minus (power cyclotomics ω 7)))))
unfolding power integer plus times negative ω root2 sign
on_pauli = tt

-- the numbers before I, and before P
identity_is : times root2 one_plus ≡ times ω (plus (times one_plus (power cyclotomics ω 7)) (times one_minus ω))
identity_is = number_equal _ _ on_identity

pauli_is : times root2 (times one_minus (sign true)) ≡ times ω (plus (times one_plus ω) (times one_minus (power cyclotomics ω 7)))
pauli_is = number_equal _ _ on_pauli

-- equal numbers before I and P
axis_equal : {m : ℕ} (n p : ℕ) (a a' b b' : Zω) → a ≡ a' → b ≡ b' → Alike cyclotomics m (axis n a b p) (axis n a' b' p)
unfolding axis
axis_equal n p a a' b b' e f = alike (λ r c i. plus (times (e i) (identity cyclotomics r c)) (times (f i) (pauli_matrix n p r c)))

-- R(−P) is ω·R(P) times the quarter
negative_is : (n p : ℕ) → Near n (signed_axis n one_plus one_minus (record { code = p; is_negative = true }) 2) (scaled_product n (rotation n p) (quarter n p))
negative_is n p = record {
  turn = 1;
  is = record {
    is =
        multiple-factor laws (power-suc laws root2 2 ∙ laws.mul_comm _ _) _ ⊙ alike-sym (multiple-multiple laws _ _ _)
        ⊙ multiple-cong laws _ (
        multiple-axis n root2 one_plus _ p
        ⊙ axis_equal n p _ _ _ _ identity_is pauli_is
        ⊙ alike-sym (multiple-factor laws (power-one laws ω) _ ⊙ multiple-cong laws ω (axis-axis n one_plus one_minus (power cyclotomics ω 7) ω p) ⊙ multiple-axis n ω _ _ p));
  };
}

-- ---- the circuit of that matrix: sdg between the opening and its inverse
abbrev pub quarter_gates : ℕ → ℕ → List ChannelGate
quarter_gates n p = opening n p ++ (Sdg (highest n p) ∷ undone (opening n p))

module _ (n : ℕ) (some : 0 < n) (few : n ≤ 3) where
  -- sdg is such a quarter of Z
  sdg_axis : (z : ℕ) → z < n → Equal n (gate_matrix (Gate.Sdg z)) (quarter n (z_on z))
  unfolding axis matrix_add multiple
  sdg_axis z l = record {
    is =
        gate_sum n some few (Sdg z) l
        ⊙ add-cong laws (multiple-cong laws _ (pauli_identity n)) (add-nothing laws _ ⊙ multiple-factor laws (power-one laws ω) (pauli_matrix n (z_on z)))
        ⊙ alike-sym (multiple-factor laws (power-zero laws root2) (axis n (power cyclotomics ω 7) ω (z_on z)) ⊙ multiple-one laws _);
  }

  -- the circuit has that matrix
  pub quarter_is : (p : ℕ) → p < 4 ^ n → p ≢ 0 → Equal n (matrix_of n (as_gates (quarter_gates n p))) (quarter n p)
  quarter_is p l d =
      subst (λ (c : List Gate). Equal n (matrix_of n c) (quarter n p)) (sym (as_gates-append (opening n p) (Sdg (highest n p) ∷ undone (opening n p))))
      (opened_is n some few p l d (Gate.Sdg (highest n p)) (power cyclotomics ω 7) ω 1 (sdg_axis (highest n p) (opening_is n some few p l d).below))

  -- and its gates fit
  quarter_fits : (p : ℕ) → p < 4 ^ n → p ≢ 0 → AllByRecursion (GateFits n) (quarter_gates n p)
  quarter_fits p l d = let o = opening_is n some few p l d in all-append (GateFits n) (opening n p) _ o.fits (o.below, undone_fits n (opening n p) o.fits)

  -- ---- R(±P) as R(P) behind Clifford gates
  pub correction : Bool → ℕ → List ChannelGate
  correction true p = quarter_gates n p
  correction false p = []

  -- its gates fit
  pub correction_fits : (s : Bool) (p : ℕ) → p < 4 ^ n → p ≢ 0 → AllByRecursion (GateFits n) (correction s p)
  unfolding correction
  correction_fits true p l d = quarter_fits p l d
  correction_fits false p l d = tt

  -- R(±P) is R(P) times its matrix, up to a power of ω
  pub corrected : (s : Bool) (p : ℕ) → p < 4 ^ n → p ≢ 0 → Near n (signed_axis n one_plus one_minus (record { code = p; is_negative = s }) 2) (scaled_product n (rotation n p) (matrix_of n (as_gates (correction s p))))
  unfolding correction
  corrected true p l d = negative_is n p ⊛ near-left (rotation n p) (near (equal-sym (quarter_is p l d)))
  corrected false p l d = near (equal-sym (plain_axis n one_plus one_minus p 2)) ⊛ near (equal-sym (mul-one (rotation n p)))
