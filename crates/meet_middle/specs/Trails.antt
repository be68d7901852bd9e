-- The target without the first letters of a word, one remainder for each number of letters.
use Rattle.std.specs.Prelude.{◌≡◌, ℕ, ◌+◌, ◌<◌, ◌≤◌, List, [], ◌++◌, length, take, slice_index_or}
use Rattle.channel_rep.specs.Cells.{ChannelGrid, scaled, IsReduced}
use Rattle.channel_rep.specs.Tables.{ScaledTable, SameTable, IsCircuitChannel}
use Rattle.coset_label.specs.Words.{RotationWord, most_letters}
use Rattle.level_laws.specs.Levels.{removed}
use Rattle.quick_label.specs.Letters.{HeldTurns}
use Rattle.meet_middle.specs.Remainders.{IsLeastExponentOf}

-- the target, the word whose letters are taken off, and the rest behind the front that was looked at last
pub record HeldTrail : Type 0 where
  pub target : ChannelGrid
  pub word : RotationWord
  pub rest : ChannelGrid

abbrev pub no_grid : ChannelGrid
no_grid = record { qubits = 0; exponent = 0; cells = [] }

-- what is left without the first letters, so many of them
abbrev pub without : List ChannelGrid → ℕ → ChannelGrid
without rests count = slice_index_or rests count no_grid

-- a circuit's channel, what is left of it without each first part of a word, and room for words as long as any
pub record IsTrail (rests : List ChannelGrid) (word : RotationWord) (rest : ChannelGrid) (turns : HeldTurns) : Type 0 where
  pub some : 0 < word.qubits
  pub few : word.qubits ≤ 3
  pub long : length rests ≡ most_letters word.qubits + 1
  pub qubits : (j : ℕ) → j < length rests → (without rests j).qubits ≡ word.qubits
  pub rest_qubits : rest.qubits ≡ word.qubits
  pub turns_qubits : turns.qubits ≡ word.qubits
  pub circuit : IsCircuitChannel word.qubits (scaled (without rests 0))
  pub kept : (j : ℕ) → j ≤ length word.letters → SameTable word.qubits (scaled (without rests j)) (removed word.qubits (scaled (without rests 0)) (take j word.letters))

-- what is left of the target without a word, with the least exponent: a circuit's channel
pub record IsRest (n : ℕ) (target : ScaledTable) (word : List ℕ) (rest : ChannelGrid) : Type 0 where
  pub qubits : rest.qubits ≡ n
  pub reduced : IsReduced rest
  pub circuit : IsCircuitChannel n (scaled rest)
  pub same : SameTable n (scaled rest) (removed n target word)

-- the least exponent of what is left without a word passes a number of letters, which then can't be all that is behind the word
pub record IsPast (n : ℕ) (target : ScaledTable) (word : List ℕ) (left : ℕ) : Type 0 where
  pub exponent : ℕ
  pub least : IsLeastExponentOf n (removed n target word) exponent
  pub past : left < exponent

-- so it is without a first part of the word, where so many letters are behind the word
pub record HasPast (n : ℕ) (target : ScaledTable) (word : List ℕ) (behind : ℕ) : Type 0 where
  pub first : List ℕ
  pub others : List ℕ
  pub parts : first ++ others ≡ word
  pub past : IsPast n target first (length others + behind)
