-- The entries of a channel as traces.
use Rattle.std.proofs.Common.{◌≡◌, ℕ, ◌+◌, ◌^◌, ◌<◌, ap, sym, ◌∙◌}
use Rattle.ring_laws.specs.Ring.{power}
use Rattle.ring_laws.specs.Matrix.{sum, product}
use Rattle.ring_laws.specs.Cyclotomic.{Zω, cyclotomics, times, root2}
use Rattle.ring_laws.proofs.Ring.{power-add}
use Rattle.ring_laws.proofs.Sums.{sum_cong, mul-sum, sum_swap, sum_single}
use Rattle.tc_bridge.proofs.Matrices.{Alike, ◌⊙◌, alike-sym, multiple, multiple-cong, multiple-product, product-multiple, combination, product-combination, product-left, product-right}
use Rattle.ring_laws.proofs.Cyclotomic.{cyclotomics_laws as laws, times-zero, times_assoc, times_comm, times_left_comm}
use Rattle.tc_ring.specs.Surds.{embed}
use Rattle.tc_circuit.specs.Gate.{Table}
use Rattle.channel_rep.specs.Tables.{ScaledTable}
use Rattle.tc_bridge.specs.Pauli.{pauli_matrix}
use Rattle.tc_bridge.specs.Channel.{IsChannel}
use Rattle.tc_bridge.proofs.Adjoints.{adjoint}
use Rattle.tc_bridge.proofs.Unitary.{IsUnitary}
use Rattle.tc_bridge.proofs.Orthogonal.{trace, orthogonal, square_trace}
use Rattle.tc_bridge.proofs.Channels.{channel_at}
use Rattle.tc_bridge.proofs.Unique.{strip}

-- traces of equal matrices, of multiples and of combinations
trace-alike : (n : ℕ) {a b : Table} → Alike cyclotomics n a b → trace n a ≡ trace n b
trace-alike n h = sum_cong laws n _ _ (λ k l. h.at k k l l)

trace-multiple : (n : ℕ) (w : Zω) (a : Table) → trace n (multiple cyclotomics w a) ≡ times w (trace n a)
unfolding multiple
trace-multiple n w a = sym (mul-sum laws n w (λ k. a k k))

trace-combination : (n m : ℕ) (w : ℕ → Zω) (a : ℕ → Table) → trace n (combination cyclotomics m w a) ≡ sum cyclotomics m (λ p. times (w p) (trace n (a p)))
unfolding combination
trace-combination n m w a = sum_swap laws n m (λ k p. times (w p) (a p k k)) ∙ sum_cong laws m _ _ (λ p l. sym (mul-sum laws n (w p) (λ k. a p k k)))

-- √2^k·tr(P·U·Q·U†) is 2^n·√2^2e·C(P, Q)
pub entry_trace : (n : ℕ) (u : Table) (e : ℕ) (c : ScaledTable) → IsUnitary n u e → IsChannel n u c → (p q : ℕ) → p < 4 ^ n → q < 4 ^ n
    → times (power cyclotomics root2 ((n + n) + (e + e))) (embed (c.table p q))
    ≡ times (power cyclotomics root2 c.exponent) (trace (2 ^ n) (product cyclotomics (2 ^ n) (pauli_matrix n p) (product cyclotomics (2 ^ n) (product cyclotomics (2 ^ n) u (pauli_matrix n q)) (adjoint u))))
entry_trace n u e c hu hc p q lp lq =
    let against = λ (s : ℕ). product cyclotomics (2 ^ n) (pauli_matrix n p) (pauli_matrix n s) in
    let w = λ (s : ℕ). embed (c.table s q) in
    let k = power cyclotomics root2 c.exponent in
    ap (λ x. times x (w p)) (power-add laws root2 (n + n) (e + e)) ∙ turn (power cyclotomics root2 (n + n)) (power cyclotomics root2 (e + e)) (w p)
    ∙ ap (times (power cyclotomics root2 (e + e)))
    (ap (times (w p)) (sym (square_trace n p))
    ∙ sym (sum_single laws (4 ^ n) p (λ s. times (w s) (trace (2 ^ n) (against s))) lp (λ s ls d. ap (times (w s)) (orthogonal n p s lp ls (λ x. d (sym x))) ∙ times-zero (w s)))
    ∙ sym (trace-combination (2 ^ n) (4 ^ n) w against))
    ∙ sym (trace-multiple (2 ^ n) (power cyclotomics root2 (e + e)) (combination cyclotomics (4 ^ n) w against))
    ∙ trace-alike (2 ^ n) (alike-sym (
    alike-sym (product-multiple laws k (pauli_matrix n p) _)
    ⊙ product-left laws (pauli_matrix n p) (alike-sym (multiple-product laws k _ (adjoint u)) ⊙ product-right laws (channel_at n u c hc q lq) (adjoint u) ⊙ strip n u e hu w)
    ⊙ product-multiple laws _ (pauli_matrix n p) _ ⊙ multiple-cong laws _ (product-combination laws (pauli_matrix n p) (4 ^ n) w (pauli_matrix n))))
    ∙ trace-multiple (2 ^ n) k _
  where
    turn : (a b x : Zω) → times (times a b) x ≡ times b (times x a)
    turn a b x = times_assoc a b x ∙ times_left_comm a b x ∙ ap (times b) (times_comm a x)
