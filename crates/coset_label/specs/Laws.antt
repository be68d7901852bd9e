-- What the laws of this crate say.
use Rattle.std.specs.Prelude.{◌≡◌, ◌↔◌, ℕ, ◌<◌, ◌≤◌, Bool, IsTrue, List, length}
use Rattle.std.specs.Bool.{Decides}
use Rattle.channel_rep.specs.Products.{table_product}
use Rattle.channel_rep.specs.Tables.{ScaledTable, Step, stepped, IsCircuitChannel}
use Rattle.channel_rep.specs.Words.{IsWord}
use Rattle.coset_label.specs.Cosets.{SameCoset, SameCosetWords, DiffersByPermutation}
use Rattle.coset_label.specs.Decided.{in_one_coset}
use Rattle.coset_label.specs.Labels.{Label, HasLeastExponent, IsLabelOf, IsLabelOfWord}
use Rattle.coset_label.specs.Tags.{tag_of}
use Rattle.coset_label.specs.Words.{word_channel}

-- the labels of two circuits' channels are equal exactly where the channels lie in one coset
abbrev pub LabelsTellCosets : Type 0
LabelsTellCosets = (n : ℕ) → 0 < n → n ≤ 3 → (a b : ScaledTable) → IsCircuitChannel n a → IsCircuitChannel n b → (label other : Label)
    → IsLabelOf n a label → IsLabelOf n b other → (label ≡ other) ↔ SameCoset n a b

-- an answer tells of two labels whether the circuits' channels that have them lie in one coset
abbrev pub TellsCosets : ℕ → Label → Label → Bool → Type 0
TellsCosets n label other answer = (a b : ScaledTable) → IsCircuitChannel n a → IsCircuitChannel n b → IsLabelOf n a label → IsLabelOf n b other
    → IsTrue answer ↔ SameCoset n a b

-- two circuits' channels M and M' lie in one coset exactly where M = M'·Π for a signed permutation Π
abbrev pub CosetsDifferByPermutations : Type 0
CosetsDifferByPermutations = (n : ℕ) → 0 < n → n ≤ 3 → (a b : ScaledTable) → IsCircuitChannel n a → IsCircuitChannel n b
    → SameCoset n a b ↔ DiffersByPermutation n a b

-- to lie in one coset is an equivalence on words
pub record IsCosetEquivalence (n : ℕ) : Type 0 where
  pub reflexive : (u : List ℕ) → IsWord n u → SameCosetWords n u u
  pub symmetric : (u v : List ℕ) → IsWord n u → IsWord n v → SameCosetWords n u v → SameCosetWords n v u
  pub transitive : (u v w : List ℕ) → IsWord n u → IsWord n v → IsWord n w → SameCosetWords n u v → SameCosetWords n v w → SameCosetWords n u w

abbrev pub CosetsAreClasses : Type 0
CosetsAreClasses = (n : ℕ) → 0 < n → n ≤ 3 → IsCosetEquivalence n

-- words of one coset have one tag
abbrev pub CosetsHaveOneTag : Type 0
CosetsHaveOneTag = (n : ℕ) → 0 < n → n ≤ 3 → (v w : List ℕ) → IsWord n v → IsWord n w → SameCosetWords n v w → (label other : Label)
    → IsLabelOfWord n v label → IsLabelOfWord n w other → tag_of label ≡ tag_of other

-- words of equal labels lie in one coset
abbrev pub EqualLabelsMeanOneCoset : Type 0
EqualLabelsMeanOneCoset = (n : ℕ) → 0 < n → n ≤ 3 → (v w : List ℕ) → IsWord n v → IsWord n w → (label : Label)
    → IsLabelOfWord n v label → IsLabelOfWord n w label → SameCosetWords n v w

-- words of one coset have one label
abbrev pub CosetsHaveOneLabel : Type 0
CosetsHaveOneLabel = (n : ℕ) → 0 < n → n ≤ 3 → (v w : List ℕ) → IsWord n v → IsWord n w → SameCosetWords n v w → (label other : Label)
    → IsLabelOfWord n v label → IsLabelOfWord n w other → label ≡ other

-- a word has at most one label
abbrev pub WordsHaveOneLabel : Type 0
WordsHaveOneLabel = (n : ℕ) → 0 < n → n ≤ 3 → (word : List ℕ) → IsWord n word → (label other : Label)
    → IsLabelOfWord n word label → IsLabelOfWord n word other → label ≡ other

-- the label of a circuit's channel is that of a word exactly where the word lies in the channel's coset
abbrev pub LabelsTellWords : Type 0
LabelsTellWords = (n : ℕ) → 0 < n → n ≤ 3 → (m : ScaledTable) → IsCircuitChannel n m → (w : List ℕ) → IsWord n w → (label other : Label)
    → IsLabelOf n m label → IsLabelOfWord n w other → (label ≡ other) ↔ SameCoset n m (word_channel n w)

-- to lie in one coset is an equivalence on tables
pub record IsTableEquivalence (n : ℕ) : Type 0 where
  pub reflexive : (a : ScaledTable) → SameCoset n a a
  pub symmetric : (a b : ScaledTable) → SameCoset n a b → SameCoset n b a
  pub transitive : (a b c : ScaledTable) → SameCoset n a b → SameCoset n b c → SameCoset n a c

abbrev pub TablesAreClasses : Type 0
TablesAreClasses = (n : ℕ) → IsTableEquivalence n

-- looking for each column of one table among those of the other tells whether they lie in one coset
abbrev pub CosetsAreDecided : Type 0
CosetsAreDecided = (n : ℕ) (a b : ScaledTable) → Decides (in_one_coset n a b) (SameCoset n a b)

-- what stands in front keeps cosets: a table, and so a step
abbrev pub ProductsKeepCosets : Type 0
ProductsKeepCosets = (n : ℕ) (a b c : ScaledTable) → SameCoset n b c → SameCoset n (table_product n a b) (table_product n a c)

abbrev pub StepsKeepCosets : Type 0
StepsKeepCosets = (n : ℕ) (s : Step) (a b : ScaledTable) → SameCoset n a b → SameCoset n (stepped n s a) (stepped n s b)

-- the least exponent of a table is at most that of each table of its coset
abbrev pub ExponentsBoundTables : Type 0
ExponentsBoundTables = (n : ℕ) (a b : ScaledTable) → HasLeastExponent n a → SameCoset n a b → a.exponent ≤ b.exponent

-- and at most the number of letters of each word of its coset
abbrev pub ExponentsBoundWords : Type 0
ExponentsBoundWords = (n : ℕ) (m : ScaledTable) → HasLeastExponent n m → (w : List ℕ) → SameCoset n m (word_channel n w) → m.exponent ≤ length w
