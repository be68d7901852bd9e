-- The parities of a table's numbers by rows, as words of bits.
-- Source: Giles and Selinger, Exact synthesis of multiqubit Clifford+T circuits, 2013, for residues modulo 2.
use Rattle.std.specs.Prelude.{◌≡◌, ℕ, ◌^◌, ◌<◌, ◌≤◌, nat_eq, List, length, slice_index}
use Rattle.std.specs.Int.{bit_at}
use Rattle.std.specs.List.{count_by}
use Rattle.channel_rep.specs.Tables.{SurdTable}
use Rattle.word_laws.specs.Parities.{parity}

-- a word a row, for the whole parts and for the parts of √2
pub record ParityWords : Type 0 where
  pub qubits : ℕ
  pub wholes : List ℕ
  pub parts : List ℕ

-- as many words as there are rows on one to three qubits
pub record IsParityRoom (words : ParityWords) : Type 0 where
  pub few : words.qubits ≤ 3
  pub wholes : length words.wholes ≡ 4 ^ words.qubits
  pub parts : length words.parts ≡ 4 ^ words.qubits

-- a bit for each column, which is 1 where the number is odd
pub record HoldsParities (n : ℕ) (m : SurdTable) (words : ParityWords) : Type 0 where
  pub qubits : words.qubits ≡ n
  pub wholes_below : (row : ℕ) → row < 4 ^ n → slice_index words.wholes row < 2 ^ 4 ^ n
  pub parts_below : (row : ℕ) → row < 4 ^ n → slice_index words.parts row < 2 ^ 4 ^ n
  pub whole_bits : (row column : ℕ) → row < 4 ^ n → column < 4 ^ n → bit_at (slice_index words.wholes row) column ≡ parity (m row column).a
  pub part_bits : (row column : ℕ) → row < 4 ^ n → column < 4 ^ n → bit_at (slice_index words.parts row) column ≡ parity (m row column).b

-- a word has these bits at the places of a list, and else 0
pub record HasBitsAt (places : List ℕ) (bit : ℕ → ℕ) (word : ℕ) : Type 0 where
  pub inside : (k : ℕ) → 0 < count_by (nat_eq k) places → bit_at word k ≡ bit k
  pub outside : (k : ℕ) → count_by (nat_eq k) places ≡ 0 → bit_at word k ≡ 0
