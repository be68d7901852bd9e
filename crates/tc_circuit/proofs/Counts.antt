-- Lemmas for the crates above: the T gates of lists of gates.
use Rattle.std.proofs.Common.{◌≡◌, ℕ, ◌+◌, List, ◌∷◌, ◌++◌, cond}
use Rattle.std.proofs.lemmas.List.Sums.{sum_by-cons, sum_by-append}
use Rattle.tc_circuit.specs.Gate.{is_t}
use Rattle.tc_circuit.specs.Model.{t_count_of}
use Rattle.tc_circuit.specs.declared.circuit.Gate.{Gate}

-- 1 for a T gate, else 0
abbrev pub t_of : Gate → ℕ
t_of g = cond (is_t g) 1 0

-- one gate more in front
pub t_count-cons : (g : Gate) (gates : List Gate) → t_count_of (g ∷ gates) ≡ t_of g + t_count_of gates
t_count-cons g gates = sum_by-cons t_of g gates

-- gates behind others
pub t_count-append : (gates more : List Gate) → t_count_of (gates ++ more) ≡ t_count_of gates + t_count_of more
t_count-append gates more = sum_by-append t_of gates more
