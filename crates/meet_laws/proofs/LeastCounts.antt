-- The least T-count of a circuit is the number of letters of its channel's least word.
use Rattle.std.proofs.Common.{◌≡◌, ℕ, ◌+◌, ◌<◌, ◌≤◌, List, ◌++◌, length, inl, inr, arith}
use Rattle.std.proofs.lemmas.Bool.{cases_lt}
use Rattle.tc_circuit.specs.Gate as circuit
use Rattle.tc_circuit.specs.Model.{matrix_of, IsCircuit, Same, t_count_of, IsLeastTCount}
use Rattle.tc_circuit.specs.declared.circuit.Gate.{Gate}
use Rattle.channel_rep.specs.Cells.{ChannelGrid, scaled, IsReduced, IsSignedPermutation}
use Rattle.clifford_rest.proofs.TFree.{is_permutation}
use Rattle.channel_rep.specs.Tables.{ScaledTable, built, SameTable, IsBuiltOf, IsCircuitChannel}
use Rattle.channel_rep.proofs.Built.{same_table_sym, same_table_trans}
use Rattle.channel_rep.specs.Words.{IsWord}
use Rattle.channel_rep.specs.Products.{table_product}
use Rattle.channel_rep.proofs.Products.{tables_right, tables_left}
use Rattle.coset_label.specs.Words.{word_channel}
use Rattle.coset_label.proofs.InFront.{coset_before}
use Rattle.tc_bridge.specs.Block.{word_gates}
use Rattle.tc_bridge.specs.Steps.{steps_of}
use Rattle.tc_bridge.proofs.CircuitChannels.{circuit_channel, steps_fit}
use Rattle.tc_bridge.proofs.Conjugations.{all-append}
use Rattle.tc_circuit.proofs.Counts.{t_count-append}
use Rattle.tc_bridge.proofs.Counts.{word_count, word_circuit}
use Rattle.tc_bridge.proofs.OneChannel.{same_channel, same_up_to}
use Rattle.tc_bridge.proofs.Unitary.{unitary_circuit}
use Rattle.meet_laws.specs.Laws.{IsGridOf, IsLeastCircuit}
use Rattle.level_laws.specs.Levels.{IsInCoset, IsLeastWord, NoneBelow, removed}
use Rattle.level_laws.proofs.Inverses.{put_back}
use Rattle.level_laws.proofs.Circuits.{circuit_word, circuits_joined, word_built}
use Rattle.meet_laws.proofs.Cliffords.{HasClifford}
use Rattle.meet_laws.proofs.Between.{clifford_behind}
use Rattle.level_laws.proofs.LeastWords.{least_word_exists}

-- a word of t letters in the coset of m
record IsWordOf (n : ℕ) (m : ScaledTable) (t : ℕ) : Type 0 where
  pub word : List ℕ
  pub is : IsInCoset n m word
  pub long : length word ≡ t

-- a circuit that is the same, with t T gates
record IsCircuitWith (n : ℕ) (c : List Gate) (t : ℕ) : Type 0 where
  pub gates : List Gate
  pub fits : IsCircuit n gates
  pub same : Same n c gates
  pub count : t_count_of gates ≡ t

module _ (n : ℕ) (some : 0 < n) (few : n ≤ 3) (c : List Gate) (hc : IsCircuit n c) (m : ScaledTable) (is : IsBuiltOf n (steps_of c) m) where
  -- each circuit that is the same has a word of as many letters as it has T gates in the coset of the channel
  word_of : (d : List Gate) → IsCircuit n d → Same n c d → IsWordOf n m (t_count_of d)
  word_of d hd same =
      let w = circuit_word n some few d hd in
      let one = same_channel n (matrix_of n c).table (matrix_of n d).table (matrix_of n c).exponent (matrix_of n d).exponent same.0 (built n (steps_of c)) (built n (steps_of d))
      (unitary_circuit n some few c hc) (circuit_channel n some few c hc) (circuit_channel n some few d hd) same.2 in
      record { word = w.word; is = record { word = w.is_word; coset = coset_before n m _ _ (same_table_trans n m (built n (steps_of c)) _ is one) w.coset }; long = w.long }

  -- the gates of a word behind a circuit of what is left of the channel without it are the same
  pub word_behind_rest : (w : List ℕ) → IsWord n w → (d : List Gate) → IsCircuit n d → SameTable n (built n (steps_of d)) (removed n m w) → Same n c (d ++ word_gates n w)
  word_behind_rest w hw d hd same =
      let gates = d ++ word_gates n w in
      let fits = all-append (circuit.Fits n) d (word_gates n w) hd (word_circuit n some few w hw) in
      let channel : SameTable n (built n (steps_of gates)) m =
      same_table_trans n _ (table_product n (built n (steps_of (word_gates n w))) (built n (steps_of d))) _ (circuits_joined n some few d (word_gates n w))
      (same_table_trans n _ (table_product n (word_channel n w) (built n (steps_of d))) _ (tables_left n _ _ _ (word_built n some few w hw))
      (same_table_trans n _ (table_product n (word_channel n w) (removed n m w)) _ (tables_right n _ _ _ same) (put_back n w hw m))) in
      same_up_to n (matrix_of n c).table (matrix_of n gates).table (matrix_of n c).exponent (matrix_of n gates).exponent (built n (steps_of c)) (built n (steps_of gates))
      (unitary_circuit n some few c hc) (unitary_circuit n some few gates fits) (circuit_channel n some few c hc) (circuit_channel n some few gates fits)
      (same_table_trans n _ m _ (same_table_sym n _ _ is) (same_table_sym n _ _ channel))

  -- what is left of the channel without a word of its coset is that of a circuit without T gates
  pub rest_circuit : (w : List ℕ) → IsInCoset n m w → HasClifford n (removed n m w)
  rest_circuit w h = clifford_behind n some few m w h.word (steps_of c, steps_fit n c hc, is) h.coset

  -- so each word of the coset has a circuit that is the same, with a T gate for each letter
  circuit_of : (w : List ℕ) → IsInCoset n m w → IsCircuitWith n c (length w)
  circuit_of w h =
      let d = rest_circuit w h in
      record {
        gates = d.gates ++ word_gates n w;
        fits = all-append (circuit.Fits n) d.gates (word_gates n w) d.fits (word_circuit n some few w h.word);
        same = word_behind_rest w h.word d.gates d.fits d.same;
        count = omega (arith, t_count-append d.gates (word_gates n w), d.no_t, word_count n w);
      }

  -- ---- the least T-count
  -- from the least T-count to the least word
  pub word_of_count : (t : ℕ) → IsLeastTCount n c t → (w : List ℕ) × IsLeastWord n m w × (length w ≡ t)
  word_of_count t h =
      let d = h.reached in
      let v = word_of d.0 d.1 d.2 in
      let w = least_word_exists n m v.word v.is in
      let up = w.1.shortest v.word v.is in
      let e = circuit_of w.0 w.1.member in
      let down = h.least e.gates e.fits e.same in
      (w.0, w.1, omega (arith, up, down, v.long, d.3, e.count))

  -- and back
  pub count_of_word : (w : List ℕ) → IsLeastWord n m w → IsLeastTCount n c (length w)
  count_of_word w h =
      let e = circuit_of w h.member in
      record {
        reached = (e.gates, e.fits, e.same, e.count);
        least = λ d hd same. let v = word_of d hd same in let l = h.shortest v.word v.is in omega (arith, v.long);
      }

  -- there is one
  pub count_exists : (t : ℕ) × IsLeastTCount n c t
  count_exists =
      let v = circuit_word n some few c hc in
      let w = least_word_exists n m v.word (record { word = v.is_word; coset = coset_before n m _ _ is v.coset }) in
      (length w.0, count_of_word w.0 w.1)

  -- where no word of at most t letters is in the coset, each circuit that is the same has more T gates
  pub above_count : (t : ℕ) → NoneBelow n m (t + 1) → (d : List Gate) → IsCircuit n d → Same n c d → t < t_count_of d
  above_count t none d hd same = let v = word_of d hd same in let l = more v.word v.is in omega (arith, v.long)
    where
      more : (v : List ℕ) → IsInCoset n m v → t < length v
      more v s = elim (cases_lt (length v) (t + 1)) [ inl l ↦ absurd (none v s l) | inr g ↦ omega arith ]

  -- and back
  pub none_of_counts : (t : ℕ) → ((d : List Gate) → IsCircuit n d → Same n c d → t < t_count_of d) → NoneBelow n m (t + 1)
  none_of_counts t above v s l = let e = circuit_of v s in let g = above e.gates e.fits e.same in omega (arith, e.count)

  -- the gates of the least word behind a circuit without T gates of what is left are a least circuit
  pub least_circuit : (w : List ℕ) → IsLeastWord n m w → (d : List Gate) → IsCircuit n d → t_count_of d ≡ 0 → SameTable n (built n (steps_of d)) (removed n m w)
      → IsLeastCircuit n c (d ++ word_gates n w) (length w)
  least_circuit w h d hd none same = record {
    circuit = all-append (circuit.Fits n) d (word_gates n w) hd (word_circuit n some few w h.member.word);
    same = word_behind_rest w h.member.word d hd same;
    count = omega (arith, t_count-append d (word_gates n w), none, word_count n w);
    least = count_of_word w h;
  }

-- what is left of a circuit's channel without a word of its coset has a grid
pub rest_grid : (n : ℕ) → 0 < n → n ≤ 3 → (m : ScaledTable) → IsCircuitChannel n m → (w : List ℕ) → IsInCoset n m w → (e : ChannelGrid) × IsGridOf n (removed n m w) e
rest_grid n some few m circuit w h = let d = clifford_behind n some few m w h.word circuit h.coset in (d.grid, d.is_grid)

-- what is left of a circuit's channel without a word of its coset, with the least exponent, is a signed permutation
pub rest_permutation : (e : ChannelGrid) → 0 < e.qubits → e.qubits ≤ 3 → (m : ScaledTable) → IsCircuitChannel e.qubits m → (w : List ℕ) → IsInCoset e.qubits m w
    → SameTable e.qubits (scaled e) (removed e.qubits m w) → IsReduced e → IsSignedPermutation e
rest_permutation e some few m circuit w h same reduced =
    let d = clifford_behind e.qubits some few m w h.word circuit h.coset in
    is_permutation e some few d.gates d.fits d.no_t (same_table_trans e.qubits (scaled e) (removed e.qubits m w) _ same (same_table_sym e.qubits _ _ d.same)) reduced
