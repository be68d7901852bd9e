-- Weights of rows before a letter: under them the cells before the rotation have the sums of the cells behind it.
use Rattle.std.specs.Prelude.{◌≡◌, ℕ, zero, suc, ◌+◌, ◌*◌, ◌^◌, ◌<◌, ℤ, pos, ◌*ℤ◌, Bool, false, List, slice_index_or}
use Rattle.pauli_basis.specs.Products.{commute, anti_sign}
use Rattle.channel_rep.specs.Tables.{SurdTable}
use Rattle.label_laws.specs.Folds.{rotated_weights, root2_weights}

-- the weights of the cells before the letter, where the table behind it is divided by √2 so often, twice at most
abbrev pub before_letter : ℕ → ℕ → ℕ → SurdTable → SurdTable
before_letter n p (suc zero) w = root2_weights (rotated_weights n false p w)
before_letter n p _ w = rotated_weights n false p w

-- a sum over the cells before the letter is that over the divided cells behind it, or twice that where they are divided at all
abbrev pub doubled : ℕ → ℤ → ℤ
doubled zero z = z
doubled (suc _) z = pos 2 *ℤ z

-- for each letter and each row, a letter's rows together: whether they commute, and whether −i·P·Q is the negative of a Pauli
pub record AreTurns (n : ℕ) (commuting negative : List Bool) : Type 0 where
  pub commutes : (p row : ℕ) → p < 4 ^ n → row < 4 ^ n → slice_index_or commuting (p * 4 ^ n + row) false ≡ commute n p row
  pub signs : (p row : ℕ) → p < 4 ^ n → row < 4 ^ n → slice_index_or negative (p * 4 ^ n + row) false ≡ anti_sign n p row

-- the same for one letter
pub record IsLetterOf (n p : ℕ) (commuting negative : List Bool) : Type 0 where
  pub commutes : (row : ℕ) → row < 4 ^ n → slice_index_or commuting row false ≡ commute n p row
  pub signs : (row : ℕ) → row < 4 ^ n → slice_index_or negative row false ≡ anti_sign n p row
