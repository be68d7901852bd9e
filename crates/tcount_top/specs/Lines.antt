-- The lines that are answers. Their forms are this project's own.
use Rattle.std.specs.Prelude.{ℕ, zero, suc, List, ◌++◌, length, codes, decimal}
use Rattle.level_laws.specs.Levels.{level}

-- what is written where the words are no command
unfoldable pub usage_line : List ℕ
usage_line = codes "usage: synth M W | check | levels N K W | bench N T SEED M W\n"

-- the line of a text that is refused: the number of the reason, and the place in the text
unfoldable pub refusal_line : ℕ → ℕ → List ℕ
refusal_line number place = codes "refused " ++ decimal number ++ codes " at " ++ decimal place ++ codes "\n"

-- the line of a text that is too long
unfoldable pub too_long_line : List ℕ
too_long_line = codes "refused 14\n"

-- the line of a bound above the limit
unfoldable pub limit_line : ℕ → ℕ → List ℕ
limit_line bound limit = codes "refused 13 bound " ++ decimal bound ++ codes " limit " ++ decimal limit ++ codes "\n"

-- what is written where a text isn't two programs, one after the other
unfoldable pub no_halves_line : List ℕ
no_halves_line = codes "refused 16\n"

-- the line of a circuit that has too many h gates to be compared
unfoldable pub many_h_line : ℕ → List ℕ
many_h_line count = codes "refused 15 count " ++ decimal count ++ codes "\n"

-- what is written where two circuits are the same, and where they aren't
unfoldable pub same_line : List ℕ
same_line = codes "same\n"

unfoldable pub different_line : List ℕ
different_line = codes "different\n"

-- the line of a least T-count above the bound
unfoldable pub above_line : ℕ → List ℕ
above_line bound = codes "above " ++ decimal bound ++ codes "\n"

-- the sizes of levels 0 to `top`, one space between
abbrev pub sizes_text : ℕ → ℕ → List ℕ
sizes_text n zero = decimal (length (level n 0))
sizes_text n (suc top) = sizes_text n top ++ codes " " ++ decimal (length (level n (suc top)))

-- the line of the sizes of levels
unfoldable pub levels_line : ℕ → ℕ → List ℕ
levels_line n top = sizes_text n top ++ codes "\n"
