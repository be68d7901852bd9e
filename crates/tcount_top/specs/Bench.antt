-- Made circuits, each that of a word whose letters a seed draws, and what `bench` answers to one.
-- Source: the draws are those of the example of rand in the C standard (ISO/IEC 9899:1990, 7.10.2.2), a linear congruential
-- generator, of whose state the low 31 bits are kept and the high 15 of these are drawn. How a draw gives a letter, and the
-- lines, are this project's own.
use Rattle.std.specs.Prelude.{ℕ, zero, suc, ◌+◌, ◌-◌, ◌*◌, ◌/◌, ◌%◌, ◌^◌, ◌<◌, ◌≤◌, List, ◌++◌, length, map, codes, decimal}
use Rattle.std.specs.List.{range_with_len}
use Rattle.tc_circuit.specs.Model.{IsLeastTCount}
use Rattle.tc_circuit.specs.declared.circuit.Gate.{Gate}
use Rattle.channel_rep.specs.Tables.{built}
use Rattle.tc_bridge.specs.Block.{word_gates}
use Rattle.tc_bridge.specs.Steps.{steps_of}
use Rattle.circuit_writer.specs.Shown.{word_text}
use Rattle.level_laws.specs.Levels.{IsLeastWord}
use Rattle.tcount_top.specs.declared.top.Status.{Status}
use Rattle.tcount_top.specs.declared.top.Status.TheVariants.{Found, Above}
use Rattle.tcount_top.specs.Printed.{word_texts}

-- ---- the generator
-- the state after a state
abbrev pub next_state : ℕ → ℕ
next_state x = (x * 1103515245 + 12345) % 2 ^ 31

-- the state after so many draws; the seed before the first
abbrev pub state_after : ℕ → ℕ → ℕ
state_after seed zero = seed
state_after seed (suc count) = next_state (state_after seed count)

-- what is drawn: the high 15 bits of the state
abbrev pub drawn : ℕ → ℕ
drawn x = x / 2 ^ 16

-- ---- the made circuit
-- the code of a letter on n qubits by a draw: each but 0, the identity's
abbrev pub code_by : ℕ → ℕ → ℕ
code_by n v = 1 + v % (4 ^ n - 1)

-- the word of a seed: t letters, one for each draw in turn
abbrev pub made_word : ℕ → ℕ → ℕ → List ℕ
made_word n t seed = map (λ count. code_by n (drawn (state_after seed count))) (range_with_len 1 t)

-- its gates: the blocks of the letters, the last letter's first
abbrev pub made_gates : ℕ → ℕ → ℕ → List Gate
made_gates n t seed = word_gates n (made_word n t seed)

-- ---- the line of `bench`
-- its beginning: what was asked for, and how many gates the made circuit has
unfoldable pub bench_head : ℕ → ℕ → ℕ → ℕ → List ℕ
bench_head n t seed gates = codes "bench " ++ decimal n ++ codes " " ++ decimal t ++ codes " " ++ decimal seed ++ codes " gates " ++ decimal gates

-- its end where the least T-count is at most the bound: that T-count, and each letter of the least word behind a space
unfoldable pub found_end : ℕ → List (List ℕ) → List ℕ
found_end count letters = codes " t-count " ++ decimal count ++ codes " word" ++ word_text letters ++ codes "\n"

-- and where it is greater
unfoldable pub above_end : ℕ → List ℕ
above_end bound = codes " above " ++ decimal bound ++ codes "\n"

-- the least word of the channel of gates
abbrev pub IsLeastWordOf : ℕ → List Gate → List ℕ → Type 0
IsLeastWordOf n gates word = IsLeastWord n (built n (steps_of gates)) word

-- the outcomes of `bench` for the circuit of t letters by a seed on n qubits, and a bound: status and bytes
pub data BenchOut (n t seed bound : ℕ) : Status → List ℕ → Type 0 where
  -- the circuit's least T-count is at most the bound
  found : (count : ℕ) → IsLeastTCount n (made_gates n t seed) count → count ≤ bound → (word : List ℕ) → IsLeastWordOf n (made_gates n t seed) word
      → BenchOut n t seed bound Found (bench_head n t seed (length (made_gates n t seed)) ++ found_end count (word_texts n word))
  -- it is greater
  above : (count : ℕ) → IsLeastTCount n (made_gates n t seed) count → bound < count
      → BenchOut n t seed bound Above (bench_head n t seed (length (made_gates n t seed)) ++ above_end bound)
