-- The printed circuit: the rest that is left without the least word, and the word's blocks behind it.
use Rattle.std.proofs.Common.{◌≡◌, ℕ, ◌*◌, ◌<◌, ◌≤◌, List, ◌++◌, length, Result, Ok, Err, IfOk, OnOk, ap, sym, subst, inl, inr, arith, length-append}
use Rattle.std.proofs.lemmas.Bool.{cases_lt}
use Rattle.tc_circuit.specs.Circuit.{Gates, IsSmallCircuit}
use Rattle.tc_circuit.specs.Model.{IsCircuit, t_count_of}
use Rattle.tc_circuit.specs.declared.circuit.Gate.{Gate}
use Rattle.qasm_reader.specs.Limits.{most_t_gates}
use Rattle.qasm_reader.specs.Read.{Reads}
use Rattle.circuit_writer.specs.Shown.{IsWord, shown}
use Rattle.channel_rep.specs.Cells.{ChannelGrid, scaled, IsReduced, IsSignedPermutation}
use Rattle.channel_rep.specs.Laws.{TablesCompare}
use Rattle.channel_rep.specs.Tables.{ScaledTable, SameTable, IsBuiltOf, IsCircuitChannel, built}
use Rattle.tc_bridge.specs.Block.{word_gates}
use Rattle.tc_bridge.specs.Steps.{steps_of}
use Rattle.clifford_rest.specs.Rest.{rest_of}
use Rattle.level_laws.specs.Levels.{IsLeastWord, removed}
use Rattle.level_laws.specs.Laws.{ExponentsBoundLengths, ReducedIsLeast, RestsAreCircuits}
use Rattle.meet_laws.specs.Laws.{RestsArePermutations, LeastWordsMakeCircuits}
use Rattle.tcount_top.specs.Printed.{IsLeft, word_texts}
use Rattle.tcount_top.specs.Out.{ShowsLike}

-- ---- what is left without the least word
-- a reduced channel's exponent is at most the number of letters of its least word
pub exponent_low : ExponentsBoundLengths → ReducedIsLeast → (m : ChannelGrid) → IsReduced m → (w : List ℕ) → IsLeastWord m.qubits (scaled m) w → m.exponent ≤ length w
exponent_low none least m reduced w h = elim (cases_lt (length w) m.exponent) [
  | inl l ↦ absurd (none m.qubits (scaled m) (least m reduced) (length w) l w h.member (omega arith))
  | inr l ↦ l
]

module _ (n : ℕ) (m : ScaledTable) (channel : IsCircuitChannel n m) (w : List ℕ) (least : IsLeastWord n m w) (left : ChannelGrid) (is : IsLeft n m w left) where
  here : (P : ℕ → Type 0) → P n → P left.qubits
  here P p = subst P (sym is.qubits) p

  -- it is a signed permutation
  pub left_permutes : RestsArePermutations → IsSignedPermutation left
  left_permutes permutes =
      permutes left is.grid.some is.grid.few m (here (λ k. IsCircuitChannel k m) channel) w (here (λ k. IsLeastWord k m w) least).member
      (here (λ k. SameTable k (scaled left) (removed k m w)) is.table) is.reduced

  -- and a circuit's channel
  pub left_channel : RestsAreCircuits → IsCircuitChannel left.qubits (scaled left)
  left_channel circuits =
      circuits left.qubits is.grid.some is.grid.few m (scaled left) w (here (λ k. IsLeastWord k m w) least).member.word (here (λ k. IsCircuitChannel k m) channel)
      (here (λ k. SameTable k (scaled left) (removed k m w)) is.table)

-- ---- the print
-- the law that a print reads as its circuit
abbrev pub PrintsRead : Type 0
PrintsRead = (n t : ℕ) (gates : List Gate) (letters : List (List ℕ)) → 0 < n → n ≤ 3 → IsCircuit n gates → t_count_of gates ≤ most_t_gates → length gates ≤ 4094
    → IsWord n t letters → Reads (shown n gates letters) (record { qubits = n; gates = gates })

-- the bytes show a rest with the blocks of the least word of m behind it
pub record IsMade (n : ℕ) (m : ScaledTable) (w : List ℕ) (bytes : List ℕ) : Type 0 where
  pub least : IsLeastWord n m w
  pub few : length w ≤ 18
  pub left : ChannelGrid
  pub is_left : IsLeft n m w left
  pub rest : List Gate
  pub is_rest : rest ≡ rest_of left
  pub fits : IsCircuit n rest
  pub no_t : t_count_of rest ≡ 0
  pub short : length rest ≤ 45
  pub of_left : IsBuiltOf n (steps_of rest) (scaled left)
  pub blocks : length (word_gates n w) ≤ 25 * length w
  pub letters : IsWord n (length w) (word_texts n w)
  pub shows : bytes ≡ shown n (rest ++ word_gates n w) (word_texts n w)

-- each circuit with the channel m has this print
pub made_shows : TablesCompare → LeastWordsMakeCircuits → PrintsRead → (c : Gates) → IsSmallCircuit c → (m : ScaledTable) → IsBuiltOf c.qubits (steps_of c.gates) m → (w bytes : List ℕ) → IsMade c.qubits m w bytes
    → ShowsLike c (length w) bytes
made_shows tables make prints c small m is w bytes h =
    let n = c.qubits in
    let gates = h.rest ++ word_gates n w in
    let best =
    make n small.some small.few c.gates small.fit m is w h.least h.rest h.fits h.no_t
    ((tables n).transitive (built n (steps_of h.rest)) (scaled h.left) (removed n m w) ((tables n).symmetric (scaled h.left) (built n (steps_of h.rest)) h.of_left) h.is_left.table) in
    record {
      gates = gates;
      word = w;
      circuit = best.circuit;
      same = best.same;
      count = best.count;
      letters = h.letters;
      rest = record {
        channel = m;
        built = is;
        least = h.least;
        left = h.left;
        is_left = h.is_left;
        gates = ap (λ (l : List Gate). l ++ word_gates n w) h.is_rest;
      };
      shows = h.shows;
      reads = subst (λ (b : List ℕ). Reads b (record { qubits = n; gates = gates })) (sym h.shows)
          (prints n (length w) gates (word_texts n w) small.some small.few best.circuit (omega (arith, best.count, h.few)) (omega (arith, length-append h.rest (word_gates n w), h.short, h.blocks, h.few)) h.letters);
    }

-- two facts of a result at once
pub both_ok : {T E : Type 0} (r : Result T E) (P R : T → Type 0) (Q : Type 0) → IfOk r P → OnOk r Q → ((x : T) → P x → Q → R x) → IfOk r R
both_ok (Ok x) P R Q p q f = f x p q
both_ok (Err e) P R Q p q f = tt
