-- Pairs of candidates in one coset, and turns that make each candidate once.
use Rattle.std.specs.Prelude.{ℕ, Bool, not, ◌&&◌, ◌==◌, ◌+◌, ◌-◌, ◌*◌, ◌^◌, List, [], ◌∷◌, Option, Some, None, option_map, cond, nat_lt, position, flat_map, bytes_eq}
use Rattle.pauli_basis.specs.Products.{commute}
use Rattle.level_laws.specs.Levels.{letter_at, word_at}

-- the place of a word in a list of words
abbrev pub place_of : List (List ℕ) → List ℕ → Option ℕ
place_of words w = position (λ v. bytes_eq v w) words

-- two letters that differ and commute: they may change places
abbrev pub may_exchange : ℕ → ℕ → ℕ → Bool
may_exchange n p q = not (p == q) && commute n p q

-- the partner of the candidate p·q·r is q·p·r, where p and q may change places and p·r is a word of the level: its position
abbrev pub partner_of : ℕ → List (List ℕ) → ℕ → List ℕ → Option ℕ
partner_of n words p [] = None
partner_of n words p (q ∷ r) = cond (may_exchange n p q) (option_map (λ place. place * (4 ^ n - 1) + (q - 1)) (place_of words (p ∷ r))) None

-- the partner of the candidate of a position
abbrev pub partner_at : ℕ → List (List ℕ) → ℕ → Option ℕ
partner_at n words position = partner_of n words (letter_at n position) (word_at n words position)

-- of two partners the earlier acts for both; a candidate without a partner stands for itself
abbrev pub turn_beside : ℕ → Option ℕ → List ℕ
turn_beside position None = position ∷ []
turn_beside position (Some partner) = cond (nat_lt position partner) (position ∷ partner ∷ []) []

-- the turn of a position: at which positions it makes the candidates
abbrev pub turn_of : ℕ → List (List ℕ) → ℕ → List ℕ
turn_of n words position = turn_beside position (partner_at n words position)

-- the turns of positions, one after another
abbrev pub turns_of : ℕ → List (List ℕ) → List ℕ → List ℕ
turns_of n words positions = flat_map (turn_of n words) positions
