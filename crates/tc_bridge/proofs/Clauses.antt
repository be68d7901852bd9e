-- The laws on words, as contracts state them.
use Rattle.std.proofs.Common.{◌≡◌, ℕ, ◌<◌, ◌≤◌, ◌++◌, List, arith}
use Rattle.tc_circuit.specs.Gate as circuit
use Rattle.tc_circuit.specs.Model.{matrix_of, IsCircuit, t_count_of}
use Rattle.tc_circuit.specs.declared.circuit.Gate.{Gate}
use Rattle.channel_rep.specs.Words.{IsWord}
use Rattle.tc_bridge.specs.Block.{as_gates, word_gates}
use Rattle.tc_bridge.specs.Laws.{IsWordThenClifford, IsCircuitOfWord}
use Rattle.tc_bridge.proofs.ScaledMatrices.{◌⊚◌, mul-right, equal_entries, near_entries}
use Rattle.tc_bridge.proofs.Appended.{append_is}
use Rattle.tc_bridge.proofs.Conjugations.{all-append}
use Rattle.tc_circuit.proofs.Counts.{t_count-append}
use Rattle.tc_bridge.proofs.Counts.{clifford_count, clifford_circuit, word_count, word_circuit}
use Rattle.tc_bridge.proofs.Words.{circuit_worded, word_gates_is}

-- a circuit with t T gates is a word of t letters behind a circuit without T gates
pub word_then_clifford : (n : ℕ) → 0 < n → n ≤ 3 → (gates : List Gate) → IsCircuit n gates → IsWordThenClifford n gates
word_then_clifford n some few gates fits =
    let w = circuit_worded n some few gates fits in
    let phase = near_entries (matrix_of n gates) _ w.is in
    record {
      word = w.letters;
      letters = w.good;
      long = w.long;
      clifford = as_gates w.rest;
      fits = clifford_circuit n w.rest w.fits;
      no_t = clifford_count w.rest;
      phase = phase.0;
      low = phase.1;
      same = phase.2;
    }

-- the circuit of a word behind a circuit without T gates: the blocks of its letters behind that circuit
pub circuit_of_word : (n : ℕ) → 0 < n → n ≤ 3 → (word : List ℕ) → IsWord n word → (clifford : List Gate) → IsCircuit n clifford → t_count_of clifford ≡ 0
    → (gates : List Gate) × IsCircuitOfWord n word clifford gates
circuit_of_word n some few word good clifford fits none = (
  clifford ++ word_gates n word,
  record {
    fits = all-append (circuit.Fits n) clifford (word_gates n word) fits (word_circuit n some few word good);
    t_gates = omega (arith, t_count-append clifford (word_gates n word), word_count n word);
    equal = equal_entries _ _ (append_is n clifford (word_gates n word) ⊚ mul-right (word_gates_is n some few word good) (matrix_of n clifford));
  },
)
