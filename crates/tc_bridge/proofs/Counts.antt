-- Lemmas for the crates above: which circuits Clifford gates, blocks and words make, and how many T gates these have.
use Rattle.std.proofs.Common.{◌≡◌, ◌≢◌, ℕ, ◌+◌, ◌^◌, ◌<◌, ◌≤◌, List, [], ◌∷◌, ◌++◌, length, cond, refl, arith}
use Rattle.std.specs.List.{AllByRecursion}
use Rattle.tc_circuit.specs.Gate as circuit
use Rattle.tc_circuit.specs.Model.{IsCircuit, t_count_of}
use Rattle.tc_circuit.specs.declared.circuit.Gate.{Gate}
use Rattle.tc_circuit.proofs.Counts.{t_of, t_count-cons, t_count-append}
use Rattle.channel_rep.specs.declared.gate.ChannelGate.{ChannelGate}
use Rattle.channel_rep.specs.declared.gate.ChannelGate.TheVariants.{H, S, Sdg, Cx}
use Rattle.channel_rep.specs.Gates.{GateFits}
use Rattle.channel_rep.specs.Words.{IsWord}
use Rattle.tc_bridge.specs.Block.{as_gate, as_gates, undone, opening, highest, block, word_gates}
use Rattle.tc_bridge.proofs.Conjugations.{gate_fits, all-append, undone_fits}
use Rattle.tc_bridge.proofs.Blocks.{opening_is}

-- ---- Clifford gates
clifford_t : (g : ChannelGate) → t_of (as_gate g) ≡ 0
clifford_t (H q) = refl
clifford_t (S q) = refl
clifford_t (Sdg q) = refl
clifford_t (Cx c t) = refl

-- Clifford gates have no T gate
pub clifford_count : (gates : List ChannelGate) → t_count_of (as_gates gates) ≡ 0
clifford_count [] = refl
clifford_count (g ∷ gates) = omega (arith, t_count-cons (as_gate g) (as_gates gates), clifford_t g, clifford_count gates)

-- and are a circuit where they fit
pub clifford_circuit : (n : ℕ) (gates : List ChannelGate) → AllByRecursion (GateFits n) gates → IsCircuit n (as_gates gates)
clifford_circuit n [] fits = tt
clifford_circuit n (g ∷ gates) fits = (gate_fits n g fits.0, clifford_circuit n gates fits.1)

-- ---- blocks
pub block_count : (n p : ℕ) → t_count_of (block n p) ≡ 1
block_count n p =
    let v = opening n p in
    omega (
      arith,
      t_count-append (as_gates v) (Gate.T (highest n p) ∷ as_gates (undone v)),
      t_count-cons (Gate.T (highest n p)) (as_gates (undone v)),
      clifford_count v,
      clifford_count (undone v),
    )

-- and is a circuit
pub block_circuit : (n : ℕ) → 0 < n → n ≤ 3 → (p : ℕ) → p < 4 ^ n → p ≢ 0 → IsCircuit n (block n p)
block_circuit n some few p l d =
    let o = opening_is n some few p l d in
    all-append (circuit.Fits n) (as_gates (opening n p)) _ (clifford_circuit n (opening n p) o.fits) (o.below, clifford_circuit n (undone (opening n p)) (undone_fits n (opening n p) o.fits))

-- ---- words
pub word_count : (n : ℕ) (word : List ℕ) → t_count_of (word_gates n word) ≡ length word
word_count n [] = refl
word_count n (p ∷ word) = omega (arith, t_count-append (word_gates n word) (block n p), word_count n word, block_count n p)

-- and is a circuit
pub word_circuit : (n : ℕ) → 0 < n → n ≤ 3 → (word : List ℕ) → IsWord n word → IsCircuit n (word_gates n word)
word_circuit n some few [] good = tt
word_circuit n some few (p ∷ word) good = all-append (circuit.Fits n) (word_gates n word) (block n p) (word_circuit n some few word good.1) (block_circuit n some few p good.0.0 good.0.1)
