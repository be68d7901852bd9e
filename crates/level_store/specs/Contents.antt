-- What a level keeps: its words, and the buckets in which they are looked up.
use Rattle.std.specs.Prelude.{◌≡◌, ◌↔◌, ℕ, ◌<◌, ◌≤◌, List, length, map, All, Contains, Option, Some, None, get_or}
use Rattle.coset_label.specs.Words.{RotationWord, most_letters}
use Rattle.coset_table.specs.declared.close.Buckets.{Buckets}
use Rattle.coset_table.specs.declared.rule.Shape.{Shape}
use Rattle.coset_table.specs.BucketWords.{IsBucketWord, OfOneCoset}
use Rattle.coset_table.specs.Capacity.{IsShape}
use Rattle.coset_table.specs.Ends.{IsFull, IsReached, Stands, words_in}
use Rattle.level_laws.specs.Levels.{IsLevel}

-- the letters of words, in turn
abbrev pub letters_of_all : List RotationWord → List (List ℕ)
letters_of_all words = map (λ (w : RotationWord). w.letters) words

-- bucket words that hold exactly these words, each once, and whose probes meet none but full buckets before their words
pub record HoldsAll (shape : Shape) (words : List ℕ) (all : List (List ℕ)) : Type 0 where
  pub long : length words ≡ shape.capacity
  pub valid : (k : ℕ) → IsFull shape words k → IsBucketWord shape (get_or words k 0)
  pub exactly : (w : List ℕ) → Stands shape words w ↔ Contains all w
  pub once : (j k : ℕ) → IsFull shape words j → IsFull shape words k → OfOneCoset shape (get_or words j 0) (get_or words k 0) → j ≡ k
  pub reached : (k : ℕ) → IsFull shape words k → IsReached shape words k

-- the buckets of a level's words
pub record AreBucketsOf (n len : ℕ) (all : List (List ℕ)) (b : Buckets) : Type 0 where
  pub shape : Shape
  pub fit : IsShape shape
  pub qubits : shape.qubits ≡ n
  pub len_is : shape.len ≡ len
  pub holds : HoldsAll shape (words_in b) all

-- level k on n qubits as it is stored: its words, and but for level 0 their buckets
pub record IsStored (n k : ℕ) (list : List RotationWord) (table : Option Buckets) : Type 0 where
  pub some : 0 < n
  pub few : n ≤ 3
  pub short : k ≤ most_letters n
  pub level : IsLevel n k (letters_of_all list)
  pub words : All (λ (w : RotationWord). w.qubits ≡ n) list
  pub none : (table ≡ None) ↔ (k ≡ 0)
  pub buckets : (b : Buckets) → table ≡ Some b → AreBucketsOf n k (letters_of_all list) b
