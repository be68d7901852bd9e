-- Lemmas for the crates above: a unitary matrix has one channel at most.
use Rattle.std.proofs.Common.{◌≡◌, ℕ, ◌+◌, ◌^◌, ◌<◌, sym}
use Rattle.ring_laws.specs.Ring.{power}
use Rattle.ring_laws.specs.Matrix.{product}
use Rattle.ring_laws.specs.Cyclotomic.{Zω, cyclotomics, plus, times, negative, root2, one_number}
use Rattle.ring_laws.proofs.Ring.{cancel}
use Rattle.tc_bridge.proofs.Matrices.{Alike, ◌⊙◌, alike-sym, nothing, add-cong, assoc, multiple, multiple-cong, multiple_comm, multiple-product, multiple-zero, multiple-factor, add-multiple, combination, combination-cong, combination-weights, combination-multiple, combination-add, multiple-combination, combination-product, product-left, product-right, product-scalar, multiple-one}
use Rattle.ring_laws.proofs.Cyclotomic.{cyclotomics_laws as laws, negative_one-times}
use Rattle.tc_ring.specs.Surds.{embed}
use Rattle.tc_circuit.specs.Gate.{Table}
use Rattle.channel_rep.specs.Tables.{ScaledTable, SameTable}
use Rattle.tc_bridge.specs.Pauli.{pauli_matrix}
use Rattle.tc_bridge.specs.Channel.{IsChannel}
use Rattle.tc_bridge.proofs.Powers.{cancel_multiple}
use Rattle.tc_bridge.proofs.Adjoints.{adjoint}
use Rattle.tc_bridge.proofs.Unitary.{IsUnitary}
use Rattle.tc_bridge.proofs.Orthogonal.{independent}
use Rattle.tc_bridge.proofs.Channels.{spread, channel_at}
use Rattle.tc_bridge.proofs.Embeddings.{same_from_embedded}

-- equal combinations of Paulis have equal weights
pub equal_weights : (n : ℕ) (v w : ℕ → Zω) → Alike cyclotomics (2 ^ n) (combination cyclotomics (4 ^ n) v (pauli_matrix n)) (combination cyclotomics (4 ^ n) w (pauli_matrix n)) → (q : ℕ) → q < 4 ^ n → v q ≡ w q
equal_weights n v w h q l = cancel laws (v q) (w q) (independent n (λ p. plus (v p) (negative (w p))) none q l)
  where
    minus : Zω
    minus = negative one_number

    none : Alike cyclotomics (2 ^ n) (combination cyclotomics (4 ^ n) (λ p. plus (v p) (negative (w p))) (pauli_matrix n)) (nothing cyclotomics)
    none =
        combination-add laws (4 ^ n) v (λ p. negative (w p)) (pauli_matrix n)
        ⊙ add-cong laws
        (h ⊙ alike-sym (multiple-one laws _))
        (combination-weights laws (4 ^ n) _ _ (pauli_matrix n) (λ p lp. sym (negative_one-times (w p))) ⊙ combination-multiple laws (4 ^ n) minus w (pauli_matrix n))
        ⊙ alike-sym (add-multiple laws one_number minus _)
        ⊙ multiple-factor laws (laws.add-neg one_number) _
        ⊙ multiple-zero laws _

-- U taken off on the right of Σ w(P)·P·U
pub strip : (n : ℕ) (u : Table) (e : ℕ) → IsUnitary n u e → (w : ℕ → Zω)
    → Alike cyclotomics (2 ^ n) (product cyclotomics (2 ^ n) (spread n w u) (adjoint u)) (multiple cyclotomics (power cyclotomics root2 (e + e)) (combination cyclotomics (4 ^ n) w (pauli_matrix n)))
strip n u e h w =
    combination-product laws (4 ^ n) w _ (adjoint u)
    ⊙ combination-cong laws (4 ^ n) w _ _ (λ p l. assoc laws (pauli_matrix n p) u (adjoint u) ⊙ product-left laws (pauli_matrix n p) h.right ⊙ product-scalar laws _ (pauli_matrix n p))
    ⊙ alike-sym (multiple-combination laws _ (4 ^ n) w (pauli_matrix n))

-- multiples of sums of w(P)·P·U are equal only where those of w(P)·P are
bare : (n : ℕ) (u : Table) (e : ℕ) → IsUnitary n u e → (v w : ℕ → Zω) (x y : Zω)
    → Alike cyclotomics (2 ^ n) (multiple cyclotomics x (spread n v u)) (multiple cyclotomics y (spread n w u))
    → Alike cyclotomics (2 ^ n) (multiple cyclotomics x (combination cyclotomics (4 ^ n) v (pauli_matrix n))) (multiple cyclotomics y (combination cyclotomics (4 ^ n) w (pauli_matrix n)))
bare n u e h v w x y same = cancel_multiple (e + e) _ _ (alike-sym (stripped v x) ⊙ product-right laws same (adjoint u) ⊙ stripped w y)
  where
    stripped : (w : ℕ → Zω) (y : Zω)
        → Alike cyclotomics (2 ^ n) (product cyclotomics (2 ^ n) (multiple cyclotomics y (spread n w u)) (adjoint u))
        (multiple cyclotomics (power cyclotomics root2 (e + e)) (multiple cyclotomics y (combination cyclotomics (4 ^ n) w (pauli_matrix n))))
    stripped w y = multiple-product laws y _ (adjoint u) ⊙ multiple-cong laws y (strip n u e h w) ⊙ multiple_comm laws y _ _

-- two channels of one unitary matrix have the same entries
pub unique : (n : ℕ) (u : Table) (e : ℕ) (c d : ScaledTable) → IsUnitary n u e → IsChannel n u c → IsChannel n u d → SameTable n c d
unique n u e c d h hc hd = same_from_embedded n c d (record { at = λ p q lp lq. equal_weights n _ _ (weighed q lq) p lp })
  where
    near : Zω
    near = power cyclotomics root2 c.exponent

    far : Zω
    far = power cyclotomics root2 d.exponent

    weighed : (q : ℕ) → q < 4 ^ n
        → Alike cyclotomics (2 ^ n) (combination cyclotomics (4 ^ n) (λ p. times far (embed (c.table p q))) (pauli_matrix n)) (combination cyclotomics (4 ^ n) (λ p. times near (embed (d.table p q))) (pauli_matrix n))
    weighed q l =
        combination-multiple laws (4 ^ n) far _ _
        ⊙ bare n u e h _ _ far near (multiple-cong laws far (alike-sym (channel_at n u c hc q l)) ⊙ multiple_comm laws far near _ ⊙ multiple-cong laws near (channel_at n u d hd q l))
        ⊙ alike-sym (combination-multiple laws (4 ^ n) near _ _)
