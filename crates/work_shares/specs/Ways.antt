-- How many ways lead into each deque, where way i of worker j leads into that of worker j + 1 + i, counted round.
use Rattle.std.specs.Prelude.{ℕ, zero, suc, ◌+◌, ◌%◌, ◌==◌, List, [], ◌∷◌, cond}

-- of the first ways of a worker, those that lead into one deque
unfoldable pub ways_of : ℕ → ℕ → ℕ → ℕ → ℕ
ways_of workers deque worker zero = 0
ways_of workers deque worker (suc n) = cond ((worker + 1 + n) % workers == deque) 1 0 + ways_of workers deque worker n

-- the same over workers from a first one on, who have so many ways each
unfoldable pub ways_from : ℕ → ℕ → ℕ → List ℕ → ℕ
ways_from workers deque first [] = 0
ways_from workers deque first (n ∷ ns) = ways_of workers deque first n + ways_from workers deque (first + 1) ns
