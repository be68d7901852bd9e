-- Lemmas for the crates above: a letter's block is R(P) exactly.
use Rattle.std.proofs.Common.{◌≡◌, ◌≢◌, ℕ, ◌^◌, ◌<◌, ◌≤◌, Bool, true, false, not, ◌&&◌, ◌||◌, eqb, eqb→eq, ltb, ltb→lt, leb, leb→le, length, T as Holds, List, [], ◌∷◌, T_not, refl, subst}
use lib.Dec.{eqb_refl}
use Rattle.std.specs.List.{AllByRecursion}
use Rattle.ring_laws.specs.Cyclotomic.{Zω, plus, negative, ω, root2, one_number}
use Rattle.ring_laws.proofs.Ring.{power-zero}
use Rattle.tc_bridge.proofs.Matrices.{◌⊙◌, alike-sym, multiple-factor, multiple-one}
use Rattle.ring_laws.proofs.Cyclotomic.{cyclotomics_laws as laws}
use Rattle.tc_circuit.specs.Model.{matrix_of}
use Rattle.tc_circuit.specs.declared.circuit.Gate.{Gate}
use Rattle.ring_laws.proofs.Sizes.{sizes}
use Rattle.pauli_basis.specs.Products.{turns}
use Rattle.pauli_basis.proofs.Small.{all, all_at, and_left, and_right}
use Rattle.channel_rep.specs.declared.gate.ChannelGate.{ChannelGate}
use Rattle.channel_rep.specs.declared.gate.ChannelGate.TheVariants.{H, S, Sdg, Cx}
use Rattle.channel_rep.specs.Gates.{GateFits, image}
use Rattle.tc_bridge.specs.Rotation.{axis, rotation}
use Rattle.tc_bridge.specs.Steps.{z_on}
use Rattle.tc_bridge.specs.Block.{opening, highest, conjugated_gates, block}
use Rattle.tc_bridge.proofs.AllGates.{or_right}
use Rattle.tc_bridge.proofs.CircuitChannels.{t_axis}
use Rattle.tc_bridge.proofs.ScaledMatrices.{Equal, equal-sym, ◌⊚◌}
use Rattle.tc_bridge.proofs.Appended.{gate_matrix}
use Rattle.tc_bridge.proofs.Conjugations.{plain_axis, conjugated_is}
use Rattle.channel_rep.specs.Conjugations.{conjugated_by}

-- a gate that fits, as a test
abbrev fits_test : ℕ → ChannelGate → Bool
fits_test n (H q) = ltb q n
fits_test n (S q) = ltb q n
fits_test n (Sdg q) = ltb q n
fits_test n (Cx c t) = ltb c n && (ltb t n && not (eqb c t))

-- and of each gate of a list
abbrev all_fit_test : ℕ → List ChannelGate → Bool
all_fit_test n [] = true
all_fit_test n (g ∷ gates) = fits_test n g && all_fit_test n gates

-- the opening takes the Pauli to Z on its highest qubit, fits, and the block is short
abbrev opens_at : ℕ → ℕ → Bool
opens_at n p =
    eqb p 0 || (let s = conjugated_by n (opening n p) (record { code = p; is_negative = false }) in
    eqb s.code (z_on (highest n p)) && (not s.is_negative && (ltb (highest n p) n && (all_fit_test n (opening n p) && leb (length (block n p)) 17))))

-- computed for each Pauli on one, two and three qubits
opens_1 : Holds (all 4 (opens_at 1))
unfolding turns image
opens_1 = tt

opens_2 : Holds (all 16 (opens_at 2))
unfolding turns image
opens_2 = tt

opens_3 : Holds (all 64 (opens_at 3))
unfolding turns image
opens_3 = tt

-- what the tests say
not_equal : (c t : ℕ) → Holds (not (eqb c t)) → c ≢ t
not_equal c t h e = T_not (eqb c t) h (subst (λ (x : ℕ). Holds (eqb c x)) e (eqb_refl c))

fits_is : (n : ℕ) (g : ChannelGate) → Holds (fits_test n g) → GateFits n g
fits_is n (H q) h = ltb→lt q n h
fits_is n (S q) h = ltb→lt q n h
fits_is n (Sdg q) h = ltb→lt q n h
fits_is n (Cx c t) h = (ltb→lt c n (and_left (ltb c n) _ h), ltb→lt t n (and_left (ltb t n) _ (and_right (ltb c n) _ h)), not_equal c t (and_right (ltb t n) _ (and_right (ltb c n) _ h)))

all_fit : (n : ℕ) (gates : List ChannelGate) → Holds (all_fit_test n gates) → AllByRecursion (GateFits n) gates
all_fit n [] h = tt
all_fit n (g ∷ gates) h = (fits_is n g (and_left (fits_test n g) _ h), all_fit n gates (and_right (fits_test n g) _ h))

not_true : (b : Bool) → Holds (not b) → b ≡ false
not_true true h = absurd h
not_true false h = refl

-- what is known of the opening of a Pauli
pub record Opening (n p : ℕ) : Type 0 where
  pub is : conjugated_by n (opening n p) (record { code = p; is_negative = false }) ≡ record { code = z_on (highest n p); is_negative = false }
  pub below : highest n p < n
  pub fits : AllByRecursion (GateFits n) (opening n p)
  pub short : length (block n p) ≤ 17

-- t is R(Z)
pub t_is : (n : ℕ) → 0 < n → n ≤ 3 → (q : ℕ) → q < n → Equal n (gate_matrix (Gate.T q)) (rotation n (z_on q))
t_is n some few q l = record { is = t_axis n some few q l ⊙ alike-sym (multiple-factor laws (power-zero laws root2) _ ⊙ multiple-one laws _) }

module _ (n : ℕ) (some : 0 < n) (few : n ≤ 3) (p : ℕ) (l : p < 4 ^ n) (d : p ≢ 0) where
  -- the computed facts at one Pauli
  pub opening_is : Opening n p
  opening_is =
      let s = conjugated_by n (opening n p) (record { code = p; is_negative = false }) in
      let h = or_right (eqb p 0) _ (λ k. d (eqb→eq p 0 k)) (all_at (4 ^ n) (opens_at n) (sizes (λ n. Holds (all (4 ^ n) (opens_at n))) opens_1 opens_2 opens_3 n some few) p l) in
      let h1 = and_right (eqb s.code (z_on (highest n p))) _ h in
      let h2 = and_right (not s.is_negative) _ h1 in
      let h3 = and_right (ltb (highest n p) n) _ h2 in
      let code_is = eqb→eq s.code (z_on (highest n p)) (and_left (eqb s.code (z_on (highest n p))) _ h) in
      let sign_is = not_true s.is_negative (and_left (not s.is_negative) _ h1) in
      record {
        is = λ i. record { code = code_is i; is_negative = sign_is i };
        below = ltb→lt (highest n p) n (and_left (ltb (highest n p) n) _ h2);
        fits = all_fit n (opening n p) (and_left (all_fit_test n (opening n p)) _ h3);
        short = leb→le (length (block n p)) 17 (and_right (all_fit_test n (opening n p)) _ h3);
      }

  -- a gate that is a·I + b·Z, between the opening and its inverse, is a·I + b·P
  pub opened_is : (center : Gate) (a b : Zω) (j : ℕ) → Equal n (gate_matrix center) (record { table = axis n a b (z_on (highest n p)); exponent = j }) → Equal n (matrix_of n (conjugated_gates (opening n p) center)) (record { table = axis n a b p; exponent = j })
  opened_is center a b j h = conjugated_is n some few (opening n p) center a b (z_on (highest n p)) j opening_is.fits h (record { code = p; is_negative = false }) l opening_is.is ⊚ equal-sym (plain_axis n a b p j)

  -- a letter's block has the matrix R(P), exactly
  pub block_is : Equal n (matrix_of n (block n p)) (rotation n p)
  block_is = opened_is (Gate.T (highest n p)) (plus one_number ω) (plus one_number (negative ω)) 2 (t_is n some few (highest n p) opening_is.below)
