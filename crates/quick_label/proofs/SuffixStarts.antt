-- What a suffix keeps of the empty word.
use Rattle.std.proofs.Common.{◌≡◌, ℕ, ◌^◌, ◌<◌, ◌≤◌, inl, [], sym, subst, arith}
use Rattle.channel_rep.specs.Cells.{table_of, scaled}
use Rattle.channel_rep.specs.Tables.{IsBuiltOf}
use Rattle.channel_rep.specs.Words.{IsWord}
use Rattle.coset_label.specs.Words.{RotationWord}
use Rattle.quick_label.specs.Classes.{AreClasses}
use Rattle.quick_label.specs.Columns.{HoldsColumns}
use Rattle.quick_label.specs.ParityWords.{HoldsParities}
use Rattle.quick_label.specs.Rooms.{AreBlocks}
use Rattle.quick_label.specs.Spans.{AreSpan}
use Rattle.quick_label.specs.Suffixes.{SuffixParts, HasConstants, IsSuffix}

-- the identity's channel, its columns and parities, and the span of no letters
pub record AreEmptyWordParts (n : ℕ) (s : SuffixParts) : Type 0 where
  pub word : s.word ≡ record { qubits = n; letters = [] }
  pub qubits : s.narrow.qubits ≡ n
  pub exponent : s.narrow.exponent ≡ 0
  pub built : IsBuiltOf n [] (scaled s.narrow)
  pub columns : HoldsColumns (4 ^ s.narrow.qubits) (table_of s.narrow) s.columns
  pub parities : HoldsParities s.narrow.qubits (table_of s.narrow) s.parities
  pub span : AreSpan n [] s.span
  pub blocks : AreBlocks (4 ^ n) s.span s.blocks
  pub classes : AreClasses n [] s.blocks.homes s.classes
  pub constants : HasConstants n s

-- no letters are a word
pub no_letters : (n : ℕ) → IsWord n []
no_letters n = grind arith

module _ (n : ℕ) (some : 0 < n) (few : n ≤ 3) (s : SuffixParts) (are : AreEmptyWordParts n s) where
  columns : HoldsColumns (4 ^ n) (table_of s.narrow) s.columns
  columns = subst (λ (k : ℕ). HoldsColumns (4 ^ k) (table_of s.narrow) s.columns) are.qubits are.columns

  of_no_letters : IsSuffix (record s { word = record { qubits = n; letters = [] } })
  of_no_letters = record {
    word = record { some = some; few = few; word = no_letters n; short = omega arith };
    qubits = are.qubits;
    reduced = inl are.exponent;
    built = are.built;
    exponent = omega (arith, are.exponent);
    size = columns.as_many;
    columns = columns;
    parities = subst (λ (k : ℕ). HoldsParities k (table_of s.narrow) s.parities) are.qubits are.parities;
    span = are.span;
    blocks = are.blocks;
    classes = are.classes;
    constants = record {
      turns = are.constants.turns;
      folds = are.constants.folds;
      powers = are.constants.powers;
      top = are.constants.top;
      blocks = are.constants.blocks;
      classes = are.constants.classes;
      rooms = are.constants.rooms;
      front = are.constants.front;
      slow = are.constants.slow;
    };
  }

  pub suffix_starts : IsSuffix s
  suffix_starts = subst (λ (w : RotationWord). IsSuffix (record s { word = w })) (sym are.word) of_no_letters
