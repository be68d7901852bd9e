-- What the program answers to words and a text.
use Rattle.std.specs.Prelude.{◌≡◌, ℕ, ◌+◌, ◌*◌, ◌<◌, ◌≤◌, List, length, take, drop}
use Rattle.tcount_top.specs.declared.top.Status.{Status}
use Rattle.tcount_top.specs.declared.top.Status.TheVariants.{Found, Above, Refused, Usage}
use Rattle.tcount_top.specs.declared.command.TextCommand.{TextCommand}
use Rattle.tcount_top.specs.declared.command.TextCommand.TheVariants.{Synth, Check}
use Rattle.tcount_top.specs.declared.command.Command.{Command}
use Rattle.tcount_top.specs.declared.command.Command.TheVariants.{OverText, Levels, Bench}
use Rattle.qasm_lex.specs.Tokens.{Bad}
use Rattle.qasm_reader.specs.Read.{Reads, Refused as IsRefused}
use Rattle.qasm_reader.specs.Halves.{HasHalves, HasNoHalves}
use Rattle.circuit_writer.specs.Shown.{IsWord, shown}
use Rattle.coset_label.specs.Words.{most_letters}
use Rattle.tc_circuit.specs.Circuit.{Gates}
use Rattle.tc_circuit.specs.Model.{IsCircuit, Same, IsLeastTCount, t_count_of, h_count_of}
use Rattle.tc_circuit.specs.declared.circuit.Gate.{Gate}
use Rattle.count_checker.specs.Check.{most_h_gates, AreSame, IsTooManyH}
use Rattle.tcount_top.specs.Words.{Spell, IsCommand}
use Rattle.tcount_top.specs.Lines.{usage_line, too_long_line, refusal_line, limit_line, no_halves_line, many_h_line, same_line, different_line, above_line, levels_line}
use Rattle.tcount_top.specs.Printed.{IsRestThenWord, word_texts}
use Rattle.tcount_top.specs.Bench.{BenchOut}

-- the most bytes that a text may have
abbrev pub longest : ℕ
longest = 65536

-- the greatest bound on n qubits, 18, 12 or 8: a word of two halves that levels hold
abbrev pub most_bound : ℕ → ℕ
most_bound n = 2 * most_letters n

-- the bytes are the print of a circuit like c: its matrix is c's up to global phase, and it has t T gates. The letters are
-- the t letters of c's least word, the gates are the rest and the word's blocks, and the bytes themselves read as the circuit
pub record ShowsLike (c : Gates) (t : ℕ) (bytes : List ℕ) : Type 0 where
  pub gates : List Gate
  pub word : List ℕ
  pub circuit : IsCircuit c.qubits gates
  pub same : Same c.qubits c.gates gates
  pub count : t_count_of gates ≡ t
  pub letters : IsWord c.qubits t (word_texts c.qubits word)
  pub rest : IsRestThenWord c word gates
  pub shows : bytes ≡ shown c.qubits gates (word_texts c.qubits word)
  pub reads : Reads bytes (record { qubits = c.qubits; gates = gates })

-- the text isn't too long and reads as the circuit, and the bound is within the limit of its qubits
pub record IsTaken (text : List ℕ) (c : Gates) (bound : ℕ) : Type 0 where
  pub short : length text ≤ longest
  pub reads : Reads text c
  pub low : bound ≤ most_bound c.qubits

-- the outcomes of `synth` with a bound for a text: status and bytes
pub data SynthOut (bound : ℕ) (text : List ℕ) : Status → List ℕ → Type 0 where
  -- the text has more than 65,536 bytes
  too_long : longest < length text → SynthOut bound text Refused too_long_line
  -- the text is refused, for the reason of that number at that place
  refused : length text ≤ longest → (number place : ℕ) → IsRefused text number place → SynthOut bound text Refused (refusal_line number place)
  -- the text reads as a circuit, and the bound is above the limit of its qubits
  past_limit : length text ≤ longest → (c : Gates) → Reads text c → most_bound c.qubits < bound
      → SynthOut bound text Refused (limit_line bound (most_bound c.qubits))
  -- t is the least T-count of the text's circuit, and is at most the bound: a circuit like it with t T gates
  found : (c : Gates) → IsTaken text c bound → (t : ℕ) → IsLeastTCount c.qubits c.gates t → t ≤ bound → (bytes : List ℕ) → ShowsLike c t bytes
      → SynthOut bound text Found bytes
  -- t is the least T-count of the text's circuit, and is greater than the bound
  above : (c : Gates) → IsTaken text c bound → (t : ℕ) → IsLeastTCount c.qubits c.gates t → bound < t → SynthOut bound text Above (above_line bound)

-- neither circuit has more than 120 h gates
abbrev pub AreFewH : Gates → Gates → Type 0
AreFewH c d = (h_count_of c.gates ≤ most_h_gates) × (h_count_of d.gates ≤ most_h_gates)

-- the outcomes for two circuits that are to be compared
pub data CircuitsOut (c d : Gates) : Status → List ℕ → Type 0 where
  -- one has more than 120 h gates: their number in the first such one
  many_h : (count : ℕ) → IsTooManyH c d count → CircuitsOut c d Refused (many_h_line count)
  -- neither has, and they are the same
  are_same : AreFewH c d → AreSame c d → CircuitsOut c d Found same_line
  -- neither has, and they aren't the same
  differ : AreFewH c d → (AreSame c d → ⊥) → CircuitsOut c d Above different_line

-- the outcomes for two programs, where the second one stands behind so many bytes of one text
pub data ProgramsOut (cut : ℕ) (first second : List ℕ) : Status → List ℕ → Type 0 where
  -- the first is refused, for the reason of that number at that place
  first_refused : (number place : ℕ) → IsRefused first number place → ProgramsOut cut first second Refused (refusal_line number place)
  -- the first reads as a circuit, and the second is refused
  second_refused : (c : Gates) → Reads first c → (number place : ℕ) → IsRefused second number place → ProgramsOut cut first second Refused (refusal_line number (cut + place))
  -- both read as circuits
  both_read : (c d : Gates) → Reads first c → Reads second d → (status : Status) → (bytes : List ℕ) → CircuitsOut c d status bytes → ProgramsOut cut first second status bytes

-- the outcomes of `check` for a text: status and bytes
pub data CheckOut (text : List ℕ) : Status → List ℕ → Type 0 where
  -- the text has more than 65,536 bytes
  overlong : longest < length text → CheckOut text Refused too_long_line
  -- a byte of it is bad, whatever else is wrong
  bad_byte : length text ≤ longest → (place : ℕ) → Bad text place → CheckOut text Refused (refusal_line 2 place)
  -- it isn't two programs, one after the other
  no_halves : length text ≤ longest → HasNoHalves text → CheckOut text Refused no_halves_line
  -- it is two programs: one up to the cut, and one behind it
  halved : length text ≤ longest → (cut : ℕ) → HasHalves text cut → (status : Status) → (bytes : List ℕ)
      → ProgramsOut cut (take cut text) (drop cut text) status bytes → CheckOut text status bytes

-- the outcomes of a command that reads a text
abbrev pub TextOut : TextCommand → List ℕ → Status → List ℕ → Type 0
TextOut (Synth bound workers) text status bytes = SynthOut bound text status bytes
TextOut Check text status bytes = CheckOut text status bytes

-- the outcomes of a command for a text; `levels` and `bench` don't look at it
abbrev pub CommandOut : Command → List ℕ → Status → List ℕ → Type 0
CommandOut (OverText command) text status bytes = TextOut command text status bytes
CommandOut (Levels qubits top workers) text status bytes = (status ≡ Found) × (bytes ≡ levels_line qubits top)
CommandOut (Bench qubits letters seed bound workers) text status bytes = BenchOut qubits letters seed bound status bytes

-- the outcomes for words and a text
pub data Out (words : List (List ℕ)) (text : List ℕ) (status : Status) (bytes : List ℕ) : Type 0 where
  -- the words are no command, whatever the text is
  usage : (IsCommand words → ⊥) → status ≡ Usage → bytes ≡ usage_line → Out words text status bytes
  -- they are a command
  command : (command : Command) → Spell words command → CommandOut command text status bytes → Out words text status bytes
