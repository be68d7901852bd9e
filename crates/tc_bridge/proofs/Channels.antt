-- Lemmas for the crates above: the equation of a channel, between matrices; channels multiply.
use Rattle.std.proofs.Common.{ℕ, ◌+◌, ◌^◌, ◌<◌, sym}
use Rattle.ring_laws.specs.Ring.{power}
use Rattle.ring_laws.specs.Matrix.{sum, product}
use Rattle.ring_laws.specs.Cyclotomic.{Zω, cyclotomics, times, root2}
use Rattle.ring_laws.proofs.Ring.{power-add}
use Rattle.tc_bridge.proofs.Matrices.{Alike, ◌⊙◌, alike-sym, assoc, multiple, multiple-cong, multiple-factor, multiple-multiple, multiple_comm, multiple-product, product-multiple, combination, combination-cong, combination-weights, combination-multiple, combination-combination, multiple-combination, product-combination, combination-product, product-left, product-right}
use Rattle.ring_laws.proofs.Cyclotomic.{cyclotomics_laws as laws}
use Rattle.tc_ring.specs.Surds.{surds, embed}
use Rattle.tc_circuit.specs.Gate.{Table}
use Rattle.channel_rep.specs.Tables.{ScaledTable, SameTable}
use Rattle.tc_bridge.specs.Pauli.{pauli_matrix}
use Rattle.tc_bridge.specs.Channel.{IsChannel}
use Rattle.tc_bridge.proofs.Embeddings.{embed-product, same_embedded}
use Rattle.tc_bridge.proofs.Powers.{cancel_multiple}

-- the sum over P of w(P)·P·U
abbrev pub spread : ℕ → (ℕ → Zω) → Table → Table
spread n w u = combination cyclotomics (4 ^ n) w (λ p. product cyclotomics (2 ^ n) (pauli_matrix n p) u)

-- the equation at a Pauli Q
pub channel_at : (n : ℕ) (u : Table) (c : ScaledTable) → IsChannel n u c → (q : ℕ) → q < 4 ^ n
    → Alike cyclotomics (2 ^ n) (multiple cyclotomics (power cyclotomics root2 c.exponent) (product cyclotomics (2 ^ n) u (pauli_matrix n q))) (spread n (λ p. embed (c.table p q)) u)
unfolding multiple combination
channel_at n u c h q l = record { at = h q l }

-- a channel, from the equation at each Pauli
pub channel_from : (n : ℕ) (u : Table) (c : ScaledTable)
    → ((q : ℕ) → q < 4 ^ n → Alike cyclotomics (2 ^ n) (multiple cyclotomics (power cyclotomics root2 c.exponent) (product cyclotomics (2 ^ n) u (pauli_matrix n q))) (spread n (λ p. embed (c.table p q)) u))
    → IsChannel n u c
unfolding multiple combination
channel_from n u c h = λ q l. (h q l).at

-- ---- one matrix behind another
-- the sum over P of w(P)·V·P·U, where V has a channel
through : (n : ℕ) (v u : Table) (d : ScaledTable) → IsChannel n v d → (w : ℕ → Zω)
    → Alike cyclotomics (2 ^ n) (multiple cyclotomics (power cyclotomics root2 d.exponent) (product cyclotomics (2 ^ n) v (spread n w u)))
    (spread n (λ s. sum cyclotomics (4 ^ n) (λ p. times (embed (d.table s p)) (w p))) (product cyclotomics (2 ^ n) v u))
through n v u d h w =
    multiple-cong laws _ (product-combination laws v (4 ^ n) w _)
    ⊙ multiple-combination laws _ (4 ^ n) w _
    ⊙ combination-cong laws (4 ^ n) w _ _ (λ p l.
    multiple-cong laws _ (alike-sym (assoc laws v (pauli_matrix n p) u))
    ⊙ alike-sym (multiple-product laws _ (product cyclotomics (2 ^ n) v (pauli_matrix n p)) u)
    ⊙ product-right laws (channel_at n v d h p l) u
    ⊙ combination-product laws (4 ^ n) _ _ u
    ⊙ combination-cong laws (4 ^ n) _ _ _ (λ s l'. assoc laws (pauli_matrix n s) v u))
    ⊙ combination-combination laws (4 ^ n) (4 ^ n) w (λ s p. embed (d.table s p)) _

-- the channel of V·U is the product of the channels
pub channel_product : (n : ℕ) (v u : Table) (d c : ScaledTable) → IsChannel n v d → IsChannel n u c
    → IsChannel n (product cyclotomics (2 ^ n) v u) (record { table = product surds (4 ^ n) d.table c.table; exponent = d.exponent + c.exponent })
channel_product n v u d c hv hu = channel_from n _ _ (λ q l.
    multiple-factor laws (power-add laws root2 d.exponent c.exponent) _
    ⊙ alike-sym (multiple-multiple laws _ _ _)
    ⊙ multiple-cong laws _ (multiple-cong laws _ (assoc laws v u (pauli_matrix n q)) ⊙ alike-sym (product-multiple laws _ v _) ⊙ product-left laws v (channel_at n u c hu q l))
    ⊙ through n v u d hv (λ p. embed (c.table p q))
    ⊙ combination-weights laws (4 ^ n) _ _ _ (λ s l'. sym (embed-product (4 ^ n) d.table c.table s q)))

-- ---- another table with the same entries is the channel too
pub same_table_channel : (n : ℕ) (u : Table) (c d : ScaledTable) → SameTable n d c → IsChannel n u c → IsChannel n u d
same_table_channel n u c d same h = channel_from n u d (λ q l.
    cancel_multiple c.exponent _ _ (
    multiple_comm laws _ _ _ ⊙ multiple-cong laws _ (channel_at n u c h q l)
    ⊙ alike-sym (combination-multiple laws (4 ^ n) _ _ _) ⊙ combination-weights laws (4 ^ n) _ _ _ (λ p lp. sym ((same_embedded n d c same).at p q lp l)) ⊙ combination-multiple laws (4 ^ n) _ _ _))
