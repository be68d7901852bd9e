-- Lemmas for the crates above: conjugation of codes by gates and by their inverses.
use Rattle.std.proofs.Common.{◌≡◌, ℕ, ◌^◌, ◌<◌, ◌≤◌, Bool, true, false, ◌&&◌, T as Holds, eqb, eqb→eq, List, [], ◌∷◌, length, refl, ap, sym, ◌∙◌, arith}
use Rattle.std.specs.List.{AllByRecursion}
use Rattle.std.proofs.lemmas.List.{length-append}
use mathlib.Core.Bool.{beq}
use Rattle.pauli_basis.specs.Products.{Signed, turns}
use Rattle.pauli_basis.proofs.Small.{all, all_at, and_left, and_right}
use Rattle.channel_rep.specs.declared.gate.ChannelGate.{ChannelGate}
use Rattle.channel_rep.specs.declared.gate.ChannelGate.TheVariants.{H, S, Sdg, Cx}
use Rattle.channel_rep.specs.Gates.{GateFits, image}
use Rattle.channel_rep.specs.Tables.{turned_over}
use Rattle.channel_rep.proofs.Images.{image-lt, beq_is}
use Rattle.channel_rep.proofs.Conjugated.{conjugated_by-append}
use Rattle.tc_bridge.specs.Block.{inverse_gate, undone}
use Rattle.tc_bridge.proofs.GateTerms.{all_cliffords, each_clifford}
use Rattle.tc_bridge.proofs.Conjugations.{inverse_fits, undone_fits}
use Rattle.channel_rep.specs.Conjugations.{conjugated, conjugated_by}

-- ---- the inverse gate turns back
abbrev turns_back : ℕ → ChannelGate → ℕ → Bool
turns_back n g p =
    let s = image n g p in
    let t = image n (inverse_gate g) s.code in
    eqb t.code p && beq s.is_negative t.is_negative

-- at every code
abbrev all_turn_back : ℕ → ChannelGate → Bool
all_turn_back n g = all (4 ^ n) (turns_back n g)

-- on one qubit
back_1 : Holds (all_cliffords 1 (all_turn_back 1))
unfolding image turns
back_1 = tt

-- on two qubits
back_2 : Holds (all_cliffords 2 (all_turn_back 2))
unfolding image turns
back_2 = tt

-- on three qubits
back_3 : Holds (all_cliffords 3 (all_turn_back 3))
unfolding image turns
back_3 = tt

-- the inverse's inverse is the gate
inverse-inverse : (g : ChannelGate) → inverse_gate (inverse_gate g) ≡ g
inverse-inverse (H q) = refl
inverse-inverse (S q) = refl
inverse-inverse (Sdg q) = refl
inverse-inverse (Cx c t) = refl

module _ (n : ℕ) (some : 0 < n) (few : n ≤ 3) where
  -- the test at a gate and a code
  turned_back : (g : ChannelGate) → GateFits n g → (p : ℕ) → p < 4 ^ n → Holds (turns_back n g p)
  turned_back g fits p l = all_at (4 ^ n) (turns_back n g) (each_clifford all_turn_back back_1 back_2 back_3 n some few g fits) p l

  -- two signs that are the same cancel
  cancel_signs : (a b c : Bool) → b ≡ c → turned_over (turned_over a b) c ≡ a
  cancel_signs true true true e = refl
  cancel_signs true false false e = refl
  cancel_signs false true true e = refl
  cancel_signs false false false e = refl
  cancel_signs a true false e = absurd cc
  cancel_signs a false true e = absurd cc

  -- a gate and then its inverse
  pub conjugated-inverse : (g : ChannelGate) → GateFits n g → (s : Signed) → s.code < 4 ^ n → conjugated n (inverse_gate g) (conjugated n g s) ≡ s
  conjugated-inverse g fits s l =
      let h = turned_back g fits s.code l in
      let u = image n g s.code in
      let t = image n (inverse_gate g) u.code in
      λ i. record {
        code = eqb→eq t.code s.code (and_left (eqb t.code s.code) _ h) i;
        is_negative = cancel_signs s.is_negative u.is_negative t.is_negative (beq_is u.is_negative t.is_negative (and_right (eqb t.code s.code) _ h)) i;
      }

  -- conjugates are codes of as many qubits
  pub conjugated_by-lt : (gates : List ChannelGate) → AllByRecursion (GateFits n) gates → (s : Signed) → s.code < 4 ^ n → (conjugated_by n gates s).code < 4 ^ n
  conjugated_by-lt [] fits s l = l
  conjugated_by-lt (g ∷ gates) fits s l = conjugated_by-lt gates fits.1 (conjugated n g s) (image-lt n some few g fits.0 s.code l)

  -- gates and then their inverses in reverse order
  pub conjugated_by-undone : (gates : List ChannelGate) → AllByRecursion (GateFits n) gates → (s : Signed) → s.code < 4 ^ n → conjugated_by n (undone gates) (conjugated_by n gates s) ≡ s
  conjugated_by-undone [] fits s l = refl
  conjugated_by-undone (g ∷ gates) fits s l =
      conjugated_by-append n (undone gates) (inverse_gate g ∷ []) (conjugated_by n gates (conjugated n g s))
      ∙ ap (conjugated n (inverse_gate g)) (conjugated_by-undone gates fits.1 (conjugated n g s) (image-lt n some few g fits.0 s.code l))
      ∙ conjugated-inverse g fits.0 s l

  -- and the other way round
  inverse-conjugated : (g : ChannelGate) → GateFits n g → (s : Signed) → s.code < 4 ^ n → conjugated n g (conjugated n (inverse_gate g) s) ≡ s
  inverse-conjugated g fits s l =
      ap (λ (k : ChannelGate). conjugated n k (conjugated n (inverse_gate g) s)) (sym (inverse-inverse g)) ∙ conjugated-inverse (inverse_gate g) (inverse_fits n g fits) s l

  -- the inverses in reverse order and then the gates
  pub undone-conjugated_by : (gates : List ChannelGate) → AllByRecursion (GateFits n) gates → (s : Signed) → s.code < 4 ^ n → conjugated_by n gates (conjugated_by n (undone gates) s) ≡ s
  undone-conjugated_by [] fits s l = refl
  undone-conjugated_by (g ∷ gates) fits s l =
      let t = conjugated_by n (undone gates) s in
      ap (λ (k : Signed). conjugated_by n gates (conjugated n g k)) (conjugated_by-append n (undone gates) (inverse_gate g ∷ []) s)
      ∙ ap (conjugated_by n gates) (inverse-conjugated g fits.0 t (conjugated_by-lt (undone gates) (undone_fits n gates fits.1) s l))
      ∙ undone-conjugated_by gates fits.1 s l

-- the code of a conjugate doesn't depend on the sign
pub conjugated_code : (n : ℕ) (gates : List ChannelGate) (s t : Signed) → s.code ≡ t.code → (conjugated_by n gates s).code ≡ (conjugated_by n gates t).code
conjugated_code n [] s t e = e
conjugated_code n (g ∷ gates) s t e = conjugated_code n gates (conjugated n g s) (conjugated n g t) (ap (λ (k : ℕ). (image n g k).code) e)
