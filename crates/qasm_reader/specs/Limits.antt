-- The limits of a text, which are this project's own.
use Rattle.std.specs.Prelude.{ℕ}

-- the most qubits
abbrev pub most_qubits : ℕ
most_qubits = 3

-- the most T gates, once all gates are written out
abbrev pub most_t_gates : ℕ
most_t_gates = 120

-- the most statements behind the header
abbrev pub most_statements : ℕ
most_statements = 4096

-- the most gates that a defined gate stands for, once all gates are written out
abbrev pub most_gates_defined : ℕ
most_gates_defined = 10000

-- the most gates of a text, once all gates are written out
abbrev pub most_gates : ℕ
most_gates = 100000
