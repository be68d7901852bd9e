-- The tag of a letter before a word, from the cells of the word's own channel.
use Rattle.std.specs.Prelude.{ℕ, zero, suc, ◌/◌, ◌^◌, false}
use Rattle.channel_rep.specs.Tables.{SurdTable}
use Rattle.label_laws.specs.Folds.{weights, rotated_weights, root2_weights}

-- the weights of the cells before the letter, where the table behind it is divided by √2 so often, twice at most
abbrev pub front_weights : ℕ → ℕ → ℕ → SurdTable
front_weights n p (suc zero) = root2_weights (rotated_weights n false p (weights (4 ^ n)))
front_weights n p _ = rotated_weights n false p (weights (4 ^ n))

-- their sum, halved once where the table is divided at all
abbrev pub halved : ℕ → ℕ → ℕ
halved zero f = f
halved (suc _) f = f / 2
