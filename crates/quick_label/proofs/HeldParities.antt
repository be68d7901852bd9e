-- How often a letter's product can be divided, from parities that are held.
use Rattle.std.proofs.Common.{◌≡◌, ℕ, ◌^◌, ◌<◌, Bool, false, List, slice_index_or, ap, sym, ◌∙◌, subst}
use Rattle.pauli_basis.specs.Products.{commute}
use Rattle.channel_rep.specs.Tables.{SurdTable}
use Rattle.channel_rep.specs.Rows.{rotated}
use Rattle.word_laws.specs.Divisions.{IsDivisionCount}
use Rattle.word_laws.specs.Parities.{AreParities}
use Rattle.quick_label.specs.ParityWords.{ParityWords, IsParityRoom, HoldsParities}

-- parities that are held, and the rows that commute with a letter
held_parities : (n p : ℕ) (m : SurdTable) (words : ParityWords) (commutes : List Bool) → HoldsParities n m words → IsParityRoom words → p < 4 ^ n
    → ((row : ℕ) → row < 4 ^ n → slice_index_or commutes row false ≡ commute n p row) → AreParities n p m words.wholes words.parts commutes
held_parities n p m words commutes held room low commuting = record {
  code = low;
  rows = room.wholes ∙ ap (λ q. 4 ^ q) held.qubits;
  wholes_below = held.wholes_below;
  parts_below = held.parts_below;
  whole_bits = held.whole_bits;
  part_bits = held.part_bits;
  commuting = commuting;
}

-- tell the divisions
pub divisions_told : (n p code count : ℕ) (inverse : Bool) (m : SurdTable) (words : ParityWords) (wholes parts : List ℕ) (commutes : List Bool) → HoldsParities n m words → IsParityRoom words
    → wholes ≡ words.wholes → parts ≡ words.parts → code ≡ p → code < 4 ^ n → ((row : ℕ) → row < 4 ^ n → slice_index_or commutes row false ≡ commute n p row)
    → ((n : ℕ) (inverse : Bool) (m : SurdTable) → AreParities n code m wholes parts commutes → IsDivisionCount n (rotated n inverse code m) count)
    → IsDivisionCount n (rotated n inverse p m) count
divisions_told n p code count inverse m words wholes parts commutes held room w s e low commuting all =
    subst (λ z. IsDivisionCount n (rotated n inverse z m) count) e
    (all n inverse m
    (subst (λ z. AreParities n code m z parts commutes) (sym w)
    (subst (λ z. AreParities n code m words.wholes z commutes) (sym s)
    (held_parities n code m words commutes held room low (λ row l. commuting row l ∙ ap (λ z. commute n z row) (sym e))))))
