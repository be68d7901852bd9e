-- Lemmas for the crates above: unitary matrices with one channel are the same up to a phase, and those that are have one
-- channel.
use Rattle.std.proofs.Common.{◌≡◌, ℕ, ◌+◌, ◌^◌, ◌<◌, refl, ap, sym, ◌∙◌, lit<}
use Rattle.std.proofs.Math.Nat.{one-le-pow}
use Rattle.ring_laws.specs.Ring.{power}
use Rattle.ring_laws.specs.Matrix.{product, identity}
use Rattle.ring_laws.specs.Cyclotomic.{Zω, cyclotomics, times, conjugate, ω, root2}
use Rattle.ring_laws.proofs.Ring.{power-add}
use Rattle.tc_bridge.proofs.Identities.{identity_same}
use Rattle.tc_bridge.proofs.Matrices.{Alike, ◌⊙◌, alike-sym, assoc, multiple, multiple-cong, multiple_comm, multiple-factor, multiple-multiple, multiple-product, product-multiple, combination, combination-cong, combination-weights, combination-multiple, product-combination, combination-product, multiple-combination, product-left, product-right, scalar-product, product-scalar}
use Rattle.ring_laws.proofs.Cyclotomic.{cyclotomics_laws as laws, times_left_comm, times-one}
use Rattle.tc_ring.specs.Surds.{embed}
use Rattle.tc_circuit.specs.Gate.{Table}
use Rattle.tc_circuit.specs.Model.{SameUpTo}
use Rattle.channel_rep.specs.Tables.{ScaledTable, SameTable}
use Rattle.tc_bridge.specs.Pauli.{pauli_matrix}
use Rattle.tc_bridge.specs.Channel.{IsChannel}
use Rattle.tc_bridge.proofs.Adjoints.{adjoint}
use Rattle.tc_bridge.proofs.Unitary.{IsUnitary, unitary_product, unitary_adjoint}
use Rattle.tc_bridge.proofs.Commutant.{commutant}
use Rattle.tc_bridge.proofs.Phases.{IsTurned, phase_of_unit}
use Rattle.tc_bridge.proofs.Channels.{channel_at, channel_from}
use Rattle.tc_bridge.proofs.Embeddings.{same_embedded}
use Rattle.tc_bridge.proofs.Unique.{strip, unique}
use Rattle.tc_bridge.proofs.Powers.{cancel_multiple}

-- ---- the inverse of V: Q·V† is the sum over P of D(P, Q)·V†·P
undone : (n : ℕ) (v : Table) (f : ℕ) (d : ScaledTable) → IsUnitary n v f → IsChannel n v d → (q : ℕ) → q < 4 ^ n
    → Alike cyclotomics (2 ^ n) (multiple cyclotomics (power cyclotomics root2 d.exponent) (product cyclotomics (2 ^ n) (pauli_matrix n q) (adjoint v)))
    (combination cyclotomics (4 ^ n) (λ p. embed (d.table p q)) (λ p. product cyclotomics (2 ^ n) (adjoint v) (pauli_matrix n p)))
undone n v f d hv cv q l =
    let a = adjoint v in
    let paulis = pauli_matrix n q in
    cancel_multiple (f + f) _ _ (
    multiple_comm laws _ _ _
    ⊙ multiple-cong laws _ (alike-sym (product-right laws hv.left (product cyclotomics (2 ^ n) paulis a) ⊙ scalar-product laws _ _) ⊙ assoc laws a v _ ⊙ product-left laws a (alike-sym (assoc laws v paulis a)))
    ⊙ alike-sym (product-multiple laws _ a _)
    ⊙ product-left laws a (alike-sym (multiple-product laws _ _ a) ⊙ product-right laws (channel_at n v d cv q l) a ⊙ strip n v f hv _)
    ⊙ product-multiple laws _ a _
    ⊙ multiple-cong laws _ (product-combination laws a (4 ^ n) _ _))

module _ (n : ℕ) (u v : Table) (e f : ℕ) (c d : ScaledTable) (hu : IsUnitary n u e) (hv : IsUnitary n v f) (cu : IsChannel n u c) (cv : IsChannel n v d) (same : SameTable n c d) where
  -- V†·U
  between : Table
  between = product cyclotomics (2 ^ n) (adjoint v) u

  -- V†·U commutes with every Pauli
  commutes : (q : ℕ) → q < 4 ^ n → Alike cyclotomics (2 ^ n) (product cyclotomics (2 ^ n) between (pauli_matrix n q)) (product cyclotomics (2 ^ n) (pauli_matrix n q) between)
  unfolding between
  commutes q l =
      let a = adjoint v in
      let paulis = pauli_matrix n q in
      let near = power cyclotomics root2 c.exponent in
      let far = power cyclotomics root2 d.exponent in
      cancel_multiple d.exponent _ _ (cancel_multiple c.exponent _ _ (
      multiple_comm laws near far _
      ⊙ multiple-cong laws far (
      multiple-cong laws near (assoc laws a u paulis) ⊙ alike-sym (product-multiple laws near a _) ⊙ product-left laws a (channel_at n u c cu q l)
      ⊙ product-combination laws a (4 ^ n) _ _)
      ⊙ alike-sym (combination-multiple laws (4 ^ n) far _ _)
      ⊙ combination-weights laws (4 ^ n) _ _ _ (λ p lp. (same_embedded n c d same).at p q lp l)
      ⊙ combination-multiple laws (4 ^ n) near _ _
      ⊙ multiple-cong laws near (
      combination-cong laws (4 ^ n) _ _ _ (λ p lp. alike-sym (assoc laws a (pauli_matrix n p) u))
      ⊙ alike-sym (combination-product laws (4 ^ n) _ _ u)
      ⊙ product-right laws (alike-sym (undone n v f d hv cv q l)) u
      ⊙ multiple-product laws far _ u
      ⊙ multiple-cong laws far (assoc laws paulis a u))))

  -- so it is a number times the identity
  factor : Zω
  factor = between 0 0

  -- by which V†·U is that number
  between_is : Alike cyclotomics (2 ^ n) between (multiple cyclotomics factor (identity cyclotomics))
  unfolding factor
  between_is = commutant n between commutes

  -- there is a first entry
  first : 0 < 2 ^ n
  first = one-le-pow n 2 (lit< tt)

  -- whose absolute value is that of a unitary matrix
  factor_size : times factor (conjugate factor) ≡ power cyclotomics root2 ((f + e) + (f + e))
  unfolding between factor multiple adjoint
  factor_size =
      let whole = unitary_product n (adjoint v) u f e (unitary_adjoint n v f hv) hu in
      sym ((product-right laws between_is (adjoint between) ⊙ scalar-product laws factor (adjoint between)).at 0 0 first first)
      ∙ whole.right.at 0 0 first first ∙ ap (times (power cyclotomics root2 ((f + e) + (f + e)))) (identity_same laws 0 0 refl) ∙ times-one _

  -- it is a power of ω
  turned : IsTurned (f + e) factor
  turned = phase_of_unit (f + e) factor factor_size

  -- √2^f·U is that number of √2^e·V
  pub same_up_to : (j : ℕ) × (j < 8) × SameUpTo (2 ^ n) j (record { table = u; exponent = e }) (record { table = v; exponent = f })
  unfolding between multiple
  same_up_to = (turned.turn, turned.low, turned_whole.at)
    where
      turned_whole : Alike cyclotomics (2 ^ n) (multiple cyclotomics (power cyclotomics root2 f) u) (multiple cyclotomics (power cyclotomics root2 e) (multiple cyclotomics (power cyclotomics ω turned.turn) v))
      turned_whole = cancel_multiple f _ _ (
          multiple-multiple laws _ _ u ⊙ multiple-factor laws (sym (power-add laws root2 f f)) u
          ⊙ alike-sym (product-right laws hv.right u ⊙ scalar-product laws _ u)
          ⊙ assoc laws v (adjoint v) u ⊙ product-left laws v between_is ⊙ product-scalar laws factor v
          ⊙ multiple-factor laws (turned.is ∙ ap (times (power cyclotomics ω turned.turn)) (power-add laws root2 f e) ∙ times_left_comm _ _ _ ∙ ap (times (power cyclotomics root2 f)) (laws.mul_comm _ _)) v
          ⊙ alike-sym (multiple-cong laws _ (multiple-multiple laws _ _ v) ⊙ multiple-multiple laws _ _ v))

-- ---- the other direction
-- a multiple has the same channel
multiple_channel : (n : ℕ) (w : Zω) (u : Table) (c : ScaledTable) → IsChannel n u c → IsChannel n (multiple cyclotomics w u) c
multiple_channel n w u c h = channel_from n _ c (λ q l.
    multiple-cong laws _ (multiple-product laws w u (pauli_matrix n q)) ⊙ multiple_comm laws _ w _ ⊙ multiple-cong laws w (channel_at n u c h q l)
    ⊙ multiple-combination laws w (4 ^ n) _ _ ⊙ combination-cong laws (4 ^ n) _ _ _ (λ p lp. alike-sym (product-multiple laws w (pauli_matrix n p) u)))

-- and so has what it is a multiple of
pub divided_channel : (n k : ℕ) (u v : Table) (c : ScaledTable) → Alike cyclotomics (2 ^ n) (multiple cyclotomics (power cyclotomics root2 k) u) v → IsChannel n v c → IsChannel n u c
divided_channel n k u v c same h = channel_from n u c (λ q l.
    cancel_multiple k _ _ (multiple_comm laws _ _ _
    ⊙ multiple-cong laws _ (alike-sym (multiple-product laws _ u (pauli_matrix n q)) ⊙ product-right laws same (pauli_matrix n q))
    ⊙ channel_at n v c h q l
    ⊙ combination-cong laws (4 ^ n) _ _ _ (λ p lp. product-left laws (pauli_matrix n p) (alike-sym same) ⊙ product-multiple laws _ (pauli_matrix n p) u)
    ⊙ alike-sym (multiple-combination laws _ (4 ^ n) _ _)))

-- matrices that are the same up to a phase have one channel
pub same_channel : (n : ℕ) (u v : Table) (e f j : ℕ) (c d : ScaledTable) → IsUnitary n u e → IsChannel n u c → IsChannel n v d
    → SameUpTo (2 ^ n) j (record { table = u; exponent = e }) (record { table = v; exponent = f }) → SameTable n c d
unfolding multiple
same_channel n u v e f j c d hu cu cv same =
    unique n u e c d hu cu (divided_channel n f u _ d (record { at = same })
    (multiple_channel n (power cyclotomics root2 e) _ d (multiple_channel n (power cyclotomics ω j) v d cv)))
