-- The fronts of a total, and whether one meets the level.
use Rattle.std.specs.Prelude.{ℕ, ◌+◌, ◌-◌, ◌*◌, ◌/◌, ◌^◌, Bool, true, false, List, [], ◌∷◌, length, slice_index_or}
use Rattle.channel_rep.specs.Tables.{ScaledTable}
use Rattle.level_laws.specs.Levels.{has_word, letter_at, front_at, removed}

-- a total: two halves of so many letters, and one letter between them where it is odd
abbrev pub total_of : ℕ → Bool → ℕ
total_of half true = 2 * half + 1
total_of half false = 2 * half

-- how many fronts there are: the words of the level, at an odd total with each letter
abbrev pub fronts_of : ℕ → List (List ℕ) → Bool → ℕ
fronts_of n words true = length words * (4 ^ n - 1)
fronts_of n words false = length words

-- the front of a position
abbrev pub front_of : ℕ → List (List ℕ) → Bool → ℕ → List ℕ
front_of n words true position = front_at n words position
front_of n words false position = slice_index_or words position []

-- the number of its word
abbrev pub number_of : ℕ → Bool → ℕ → ℕ
number_of n true position = position / (4 ^ n - 1)
number_of n false position = position

-- the letter behind the word, if there is one
abbrev pub middle_of : ℕ → Bool → ℕ → List ℕ
middle_of n true position = letter_at n position ∷ []
middle_of n false position = []

-- whether the rest behind the front of a position is in the coset of one of the words
unfoldable pub front_meets : ℕ → List (List ℕ) → Bool → ScaledTable → ℕ → Bool
front_meets n words odd target position = has_word n (removed n target (front_of n words odd position)) words
