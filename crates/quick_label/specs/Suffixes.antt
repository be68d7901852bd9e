-- What a suffix keeps of its word.
use Rattle.std.specs.Prelude.{◌≡◌, ℕ, ◌%◌, ◌^◌, ◌≤◌, Bool, List, length, All}
use Rattle.channel_rep.specs.Cells.{ChannelGrid, table_of, scaled, IsReduced}
use Rattle.channel_rep.specs.Tables.{IsBuiltOf}
use Rattle.coset_label.specs.Words.{RotationWord, IsShortWord, word_steps}
use Rattle.label_laws.specs.Totals.{column_power}
use Rattle.quick_label.specs.Classes.{IsClassRoom, AreClasses}
use Rattle.quick_label.specs.Columns.{StoredColumns, HoldsColumns}
use Rattle.quick_label.specs.Folds.{AreFolds}
use Rattle.quick_label.specs.FrontRooms.{IsFrontRoom}
use Rattle.quick_label.specs.Letters.{HeldTurns}
use Rattle.quick_label.specs.ParityWords.{ParityWords, HoldsParities}
use Rattle.quick_label.specs.Places.{ArePlacePowers}
use Rattle.quick_label.specs.Rooms.{HeldBlocks, AreBlocks}
use Rattle.quick_label.specs.Spans.{AreSpan}
use Rattle.quick_label.specs.declared.before.Folds.{Folds}
use Rattle.quick_label.specs.declared.classes.Class.{Class}
use Rattle.quick_label.specs.declared.front.Front.{Front}

-- a word with its channel, the channel's columns and parities, the span of the letters with its blocks, and the classes of letters
-- before it; and what is the same for all words
pub record SuffixParts : Type 0 where
  pub word : RotationWord
  pub narrow : ChannelGrid
  pub columns : StoredColumns
  pub parities : ParityWords
  pub span : List Bool
  pub blocks : HeldBlocks
  pub classes : List Class
  pub turns : HeldTurns
  pub folds : Folds
  pub powers : List ℕ
  pub top : ℕ
  pub front : Front
  pub slow : ChannelGrid

-- the turns of all letters, the weights of the fold and the powers of the places, and room for blocks, classes, a front and a
-- channel, on n qubits
pub record HasConstants (n : ℕ) (s : SuffixParts) : Type 0 where
  pub turns : s.turns.qubits ≡ n
  pub folds : AreFolds n s.folds
  pub powers : ArePlacePowers n s.powers
  pub top : s.top ≡ column_power n ^ 4 ^ n % 2 ^ 64
  pub blocks : s.blocks.size ≡ 4 ^ n
  pub classes : length s.classes ≡ 4 ^ n
  pub rooms : All (IsClassRoom n) s.classes
  pub front : IsFrontRoom n s.front
  pub slow : s.slow.qubits ≡ n

-- the channel is the word's with its least exponent, and the rest is the channel's and the word's
pub record IsSuffix (s : SuffixParts) : Type 0 where
  pub word : IsShortWord s.word
  pub qubits : s.narrow.qubits ≡ s.word.qubits
  pub reduced : IsReduced s.narrow
  pub built : IsBuiltOf s.word.qubits (word_steps s.word.letters) (scaled s.narrow)
  pub exponent : s.narrow.exponent ≤ length s.word.letters
  pub size : s.columns.size ≡ 4 ^ s.word.qubits
  pub columns : HoldsColumns (4 ^ s.word.qubits) (table_of s.narrow) s.columns
  pub parities : HoldsParities s.word.qubits (table_of s.narrow) s.parities
  pub span : AreSpan s.word.qubits s.word.letters s.span
  pub blocks : AreBlocks (4 ^ s.word.qubits) s.span s.blocks
  pub classes : AreClasses s.word.qubits s.word.letters s.blocks.homes s.classes
  pub constants : HasConstants s.word.qubits s
