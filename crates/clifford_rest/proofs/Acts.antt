-- What matrices do to Paulis.
use Rattle.std.proofs.Common.{◌≡◌, ℕ, ◌^◌, ◌<◌, ◌≤◌, List, [], ◌∷◌, ap, ◌∙◌}
use Rattle.std.specs.List.{AllByRecursion}
use Rattle.ring_laws.specs.Ring.{power}
use Rattle.ring_laws.specs.Matrix.{product, identity}
use Rattle.ring_laws.specs.Cyclotomic.{cyclotomics, times, root2}
use Rattle.ring_laws.proofs.Ring.{power-zero}
use Rattle.tc_bridge.proofs.Matrices.{Alike, ◌⊙◌, alike-sym, assoc, multiple, multiple-cong, multiple-factor, multiple-multiple, multiple-one, multiple-product, product-multiple, combination-weights, combination-multiple, combination-identity, product-left, product-right, one-product, product-one}
use Rattle.ring_laws.proofs.Cyclotomic.{cyclotomics_laws as laws}
use Rattle.tc_ring.specs.Surds.{surds, embed}
use Rattle.tc_circuit.specs.Gate.{Table, gate_table}
use Rattle.tc_circuit.specs.Model.{ScaledMatrix, after, matrix_of}
use Rattle.pauli_basis.specs.Products.{Signed}
use Rattle.channel_rep.specs.declared.gate.ChannelGate.{ChannelGate}
use Rattle.channel_rep.specs.Gates.{GateFits, image, positive}
use Rattle.channel_rep.specs.Tables.{ScaledTable, turned_over}
use Rattle.channel_rep.proofs.Images.{image-lt}
use Rattle.tc_bridge.specs.Pauli.{pauli_matrix, sign}
use Rattle.tc_bridge.specs.Channel.{IsChannel}
use Rattle.tc_bridge.specs.Block.{as_gate, as_gates}
use Rattle.tc_bridge.proofs.Powers.{sign-false, sign-times}
use Rattle.tc_bridge.proofs.Embeddings.{embed-identity, embed-signed}
use Rattle.tc_bridge.proofs.Channels.{channel_at, channel_from}
use Rattle.tc_bridge.proofs.CircuitChannels.{gate_conjugates}
use Rattle.channel_rep.specs.Conjugations.{conjugated, conjugated_by}
use Rattle.tc_bridge.proofs.CliffordTables.{HasEntry}

-- U·P = ±Q·U: U conjugates P to Q with the sign
pub record Acts (n : ℕ) (u : Table) (p : ℕ) (s : Signed) : Type 0 where
  pub below : s.code < 4 ^ n
  pub is : Alike cyclotomics (2 ^ n) (product cyclotomics (2 ^ n) u (pauli_matrix n p)) (multiple cyclotomics (sign s.is_negative) (product cyclotomics (2 ^ n) (pauli_matrix n s.code) u))

-- a gate acts on a code by its image
pub acts_gate : (n : ℕ) → 0 < n → n ≤ 3 → (g : ChannelGate) → GateFits n g → (q : ℕ) → q < 4 ^ n → Acts n (gate_table (as_gate g)) q (image n g q)
acts_gate n some few g fits q l = record { below = image-lt n some few g fits q l; is = gate_conjugates n some few g fits q l }

-- the identity leaves each Pauli
pub acts_identity : (n p : ℕ) → p < 4 ^ n → Acts n (identity cyclotomics) p (positive p)
acts_identity n p l = record {
  below = l;
  is = one-product laws (pauli_matrix n p) ⊙ alike-sym (multiple-factor laws sign-false _ ⊙ multiple-one laws _ ⊙ product-one laws (pauli_matrix n p));
}

-- one matrix behind another: the codes go on, and the signs multiply
pub acts_product : (n : ℕ) (u v : Table) (p : ℕ) (s t : Signed) → Acts n u p s → Acts n v s.code t
    → Acts n (product cyclotomics (2 ^ n) v u) p (record { code = t.code; is_negative = turned_over s.is_negative t.is_negative })
acts_product n u v p s t h g = record {
  below = g.below;
  is =
      assoc laws v u (pauli_matrix n p) ⊙ product-left laws v h.is ⊙ product-multiple laws _ v _
      ⊙ multiple-cong laws _ (alike-sym (assoc laws v (pauli_matrix n s.code) u) ⊙ product-right laws g.is u ⊙ multiple-product laws _ _ u ⊙ multiple-cong laws _ (assoc laws (pauli_matrix n t.code) v u))
      ⊙ multiple-multiple laws _ _ _ ⊙ multiple-factor laws (sign-times s.is_negative t.is_negative) _;
}

-- gates behind a matrix
pub acts_after : (n : ℕ) → 0 < n → n ≤ 3 → (gates : List ChannelGate) → AllByRecursion (GateFits n) gates → (m : ScaledMatrix) (p : ℕ) (s : Signed) → Acts n m.table p s
    → Acts n (after n m (as_gates gates)).table p (conjugated_by n gates s)
acts_after n some few [] fits m p s h = h
acts_after n some few (g ∷ gates) fits m p s h =
    acts_after n some few gates fits.1 _ p (conjugated n g s) (acts_product n m.table (gate_table (as_gate g)) p s (image n g s.code) h (acts_gate n some few g fits.0 s.code h.below))

-- a circuit of Clifford gates acts by their images, one after another
pub acts_circuit : (n : ℕ) → 0 < n → n ≤ 3 → (gates : List ChannelGate) → AllByRecursion (GateFits n) gates → (p : ℕ) → p < 4 ^ n
    → Acts n (matrix_of n (as_gates gates)).table p (conjugated_by n gates (positive p))
acts_circuit n some few gates fits p l = acts_after n some few gates fits (record { table = identity cyclotomics; exponent = 0 }) p (positive p) (acts_identity n p l)

-- ---- channels
-- the entry among the numbers of Z[ω]
entry : (n : ℕ) (c : ScaledTable) (column : ℕ) (s : Signed) → HasEntry n c column s → (row : ℕ) → row < 4 ^ n
    → embed (c.table row column) ≡ times (sign s.is_negative) (identity cyclotomics row s.code)
entry n c column s h row l = ap embed (h.is row l) ∙ embed-signed s.is_negative (identity surds row s.code) ∙ ap (times (sign s.is_negative)) (embed-identity row s.code)

-- a unitary of such a channel acts as the entries say
pub acts_from_channel : (n : ℕ) (u : Table) (c : ScaledTable) → IsChannel n u c → c.exponent ≡ 0 → (q : ℕ) → q < 4 ^ n → (s : Signed) → HasEntry n c q s → Acts n u q s
acts_from_channel n u c h e q l s one = record {
  below = one.below;
  is =
      alike-sym (multiple-factor laws (ap (power cyclotomics root2) e ∙ power-zero laws root2) _ ⊙ multiple-one laws _)
      ⊙ channel_at n u c h q l
      ⊙ combination-weights laws (4 ^ n) _ _ _ (λ k lk. entry n c q s one k lk) ⊙ combination-multiple laws (4 ^ n) _ _ _
      ⊙ multiple-cong laws _ (combination-identity laws (4 ^ n) _ _ one.below);
}

-- and the other way round
pub channel_from_acts : (n : ℕ) (u : Table) (c : ScaledTable) → c.exponent ≡ 0 → (made : ℕ → Signed) → ((q : ℕ) → q < 4 ^ n → HasEntry n c q (made q)) → ((q : ℕ) → q < 4 ^ n → Acts n u q (made q)) → IsChannel n u c
channel_from_acts n u c e made entries acts = channel_from n u c (λ q l.
    multiple-factor laws (ap (power cyclotomics root2) e ∙ power-zero laws root2) _ ⊙ multiple-one laws _
    ⊙ (acts q l).is
    ⊙ alike-sym (combination-weights laws (4 ^ n) _ _ _ (λ k lk. entry n c q (made q) (entries q l) k lk) ⊙ combination-multiple laws (4 ^ n) _ _ _
    ⊙ multiple-cong laws _ (combination-identity laws (4 ^ n) _ _ (entries q l).below)))
