-- What the laws of this crate say.
use Rattle.std.specs.Prelude.{◌≡◌, ◌↔◌, ℕ, ◌+◌, ◌-◌, ◌*◌, ◌^◌, ◌<◌, ◌≤◌, List, [], ◌++◌, length, slice_index_or}
use Rattle.tc_circuit.specs.Model.{IsCircuit, Same, t_count_of, IsLeastTCount}
use Rattle.tc_circuit.specs.declared.circuit.Gate.{Gate}
use Rattle.channel_rep.specs.Cells.{ChannelGrid, scaled, IsChannelGrid, IsReduced, IsSignedPermutation}
use Rattle.channel_rep.specs.Products.{identity_table, table_product}
use Rattle.channel_rep.specs.Tables.{SurdTable, ScaledTable, SameTable, built, IsBuiltOf, IsCircuitChannel}
use Rattle.channel_rep.specs.Words.{IsWord}
use Rattle.coset_label.specs.Cosets.{SameCoset, IsSignedPermutationTable, DiffersByPermutation}
use Rattle.coset_label.specs.Words.{word_channel}
use Rattle.tc_bridge.specs.Block.{word_gates}
use Rattle.tc_bridge.specs.Steps.{steps_of}
use Rattle.level_laws.specs.Levels.{IsInCoset, IsLeastWord, NoneBelow, removed, IsLevelWord, IsLevel, Meets, front_at}

-- ---- Clifford operators and cosets
-- a circuit without T gates has a channel in the coset of the identity
abbrev pub CliffordsLieWithIdentity : Type 0
CliffordsLieWithIdentity = (n : ℕ) → 0 < n → n ≤ 3 → (c : List Gate) → IsCircuit n c → t_count_of c ≡ 0 → SameCoset n (built n (steps_of c)) identity_table

-- a is b·G for the channel G of a circuit without T gates
pub record DiffersByClifford (n : ℕ) (a b : ScaledTable) : Type 0 where
  pub gates : List Gate
  pub fits : IsCircuit n gates
  pub no_t : t_count_of gates ≡ 0
  pub product_is : SameTable n a (table_product n b (built n (steps_of gates)))

-- two circuits' channels lie in one coset exactly where they differ by one
abbrev pub CosetsDifferByCliffords : Type 0
CosetsDifferByCliffords = (n : ℕ) → 0 < n → n ≤ 3 → (a b : ScaledTable) → IsCircuitChannel n a → IsCircuitChannel n b → SameCoset n a b ↔ DiffersByClifford n a b

-- a word v as long as w, with m·R(w) = R(v)·Π for a signed permutation Π
pub record IsMovedWord (n : ℕ) (m : ScaledTable) (w v : List ℕ) : Type 0 where
  pub word : IsWord n v
  pub long : length v ≡ length w
  pub differs : DiffersByPermutation n (table_product n m (word_channel n w)) (word_channel n v)

-- a signed permutation that is a circuit's channel moves behind each word so
abbrev pub PermutationsMoveBehindWords : Type 0
PermutationsMoveBehindWords = (n : ℕ) → 0 < n → n ≤ 3 → (p : SurdTable) → IsSignedPermutationTable n p → IsCircuitChannel n (record { table = p; exponent = 0 })
    → (w : List ℕ) → IsWord n w → (v : List ℕ) × IsMovedWord n (record { table = p; exponent = 0 }) w v

-- ---- least words and least circuits
-- each front and each back of a least word is the least word of its own coset
abbrev pub PartsAreLeast : Type 0
PartsAreLeast = (n : ℕ) → 0 < n → n ≤ 3 → (m : ScaledTable) (a b : List ℕ) → IsLeastWord n m (a ++ b) → IsLevelWord n (length a) a × IsLevelWord n (length b) b

-- each circuit has a least T-count
abbrev pub LeastCountsExist : Type 0
LeastCountsExist = (n : ℕ) → 0 < n → n ≤ 3 → (c : List Gate) → IsCircuit n c → (t : ℕ) × IsLeastTCount n c t

-- it is the number of letters of the least word of the circuit's channel
abbrev pub LeastCountsAreLengths : Type 0
LeastCountsAreLengths = (n : ℕ) → 0 < n → n ≤ 3 → (c : List Gate) → IsCircuit n c → (m : ScaledTable) → IsBuiltOf n (steps_of c) m → (t : ℕ)
    → IsLeastTCount n c t ↔ ((w : List ℕ) × IsLeastWord n m w × (length w ≡ t))

-- no word of at most t letters is in the coset of the channel exactly where each circuit that is the same has more T gates
abbrev pub CountsPassBounds : Type 0
CountsPassBounds = (n : ℕ) → 0 < n → n ≤ 3 → (c : List Gate) → IsCircuit n c → (m : ScaledTable) → IsBuiltOf n (steps_of c) m → (t : ℕ)
    → NoneBelow n m (t + 1) ↔ ((d : List Gate) → IsCircuit n d → Same n c d → t < t_count_of d)

-- a word's gates behind a circuit of what is left of a circuit's channel without the word are the same as the circuit
abbrev pub WordsStandBehindRests : Type 0
WordsStandBehindRests = (n : ℕ) → 0 < n → n ≤ 3 → (c : List Gate) → IsCircuit n c → (m : ScaledTable) → IsBuiltOf n (steps_of c) m → (w : List ℕ) → IsWord n w
    → (d : List Gate) → IsCircuit n d → SameTable n (built n (steps_of d)) (removed n m w) → Same n c (d ++ word_gates n w)

-- what is left without a word of the coset is a signed permutation, once it has the least exponent
abbrev pub RestsArePermutations : Type 0
RestsArePermutations = (e : ChannelGrid) → 0 < e.qubits → e.qubits ≤ 3 → (m : ScaledTable) → IsCircuitChannel e.qubits m → (w : List ℕ) → IsInCoset e.qubits m w
    → SameTable e.qubits (scaled e) (removed e.qubits m w) → IsReduced e → IsSignedPermutation e

-- a grid of a table on n qubits, with the least exponent
pub record IsGridOf (n : ℕ) (m : ScaledTable) (e : ChannelGrid) : Type 0 where
  pub qubits : e.qubits ≡ n
  pub grid : IsChannelGrid e
  pub reduced : IsReduced e
  pub table : SameTable n (scaled e) m

-- what is left of a circuit's channel without a word of its coset has such a grid
abbrev pub RestsHaveGrids : Type 0
RestsHaveGrids = (n : ℕ) → 0 < n → n ≤ 3 → (m : ScaledTable) → IsCircuitChannel n m → (w : List ℕ) → IsInCoset n m w → (e : ChannelGrid) × IsGridOf n (removed n m w) e

-- d is a circuit that is the same as c, with t T gates, and no circuit that is the same has fewer
pub record IsLeastCircuit (n : ℕ) (c d : List Gate) (t : ℕ) : Type 0 where
  pub circuit : IsCircuit n d
  pub same : Same n c d
  pub count : t_count_of d ≡ t
  pub least : IsLeastTCount n c t

-- the gates of the least word behind a circuit without T gates of what is left without the word are a least circuit
abbrev pub LeastWordsMakeCircuits : Type 0
LeastWordsMakeCircuits = (n : ℕ) → 0 < n → n ≤ 3 → (c : List Gate) → IsCircuit n c → (m : ScaledTable) → IsBuiltOf n (steps_of c) m → (w : List ℕ) → IsLeastWord n m w
    → (d : List Gate) → IsCircuit n d → t_count_of d ≡ 0 → SameTable n (built n (steps_of d)) (removed n m w) → IsLeastCircuit n c (d ++ word_gates n w) (length w)

-- ---- halves that meet
-- a front that meets spells, with the word that it meets, a word of the coset
abbrev pub MeetingsSpellWords : Type 0
MeetingsSpellWords = (n : ℕ) → 0 < n → n ≤ 3 → (m : ScaledTable) (h : ℕ) (a b : List ℕ) → IsWord n a → Meets n m h a b → IsInCoset n m (a ++ b)

-- a total t whose fronts stand in order, with h letters behind each: where none of them meets, no word of at most t letters
-- is in the coset; the first that meets spells the least word with what it meets
pub record TellsTotal (n : ℕ) (m : ScaledTable) (t h count : ℕ) (front : ℕ → List ℕ) : Type 0 where
  pub none : ((i : ℕ) → i < count → (b : List ℕ) → Meets n m h (front i) b → ⊥) → NoneBelow n m (t + 1)
  pub first : (i : ℕ) → i < count → (b : List ℕ) → Meets n m h (front i) b → ((j : ℕ) → j < i → (x : List ℕ) → Meets n m h (front j) x → ⊥) → IsLeastWord n m (front i ++ b)
  pub long : (i : ℕ) → i < count → (b : List ℕ) → Meets n m h (front i) b → length (front i ++ b) ≡ t

-- an even total, by the words of a level
abbrev pub EvenTotals : Type 0
EvenTotals = (n : ℕ) → 0 < n → n ≤ 3 → (m : ScaledTable) (h : ℕ) (words : List (List ℕ)) → IsLevel n h words → NoneBelow n m (2 * h)
    → TellsTotal n m (2 * h) h (length words) (λ i. slice_index_or words i [])

-- an odd total, by the words of a level with each letter behind them
abbrev pub OddTotals : Type 0
OddTotals = (n : ℕ) → 0 < n → n ≤ 3 → (m : ScaledTable) (h : ℕ) (words : List (List ℕ)) → IsLevel n h words → NoneBelow n m (2 * h + 1)
    → TellsTotal n m (2 * h + 1) h (length words * (4 ^ n - 1)) (front_at n words)
