-- What the laws of this crate say.
use Rattle.std.specs.Prelude.{⊤, ◌≡◌, ◌⊎◌, ℕ, ◌≤◌, List, length, take, drop, Some}
use Rattle.tc_circuit.specs.Circuit.{Gates, IsSmallCircuit}
use Rattle.tc_circuit.specs.Model.{Same, IsLeastTCount}
use Rattle.qasm_reader.specs.Halves.{HasHalves}
use Rattle.qasm_reader.specs.Read.{Reads}
use Rattle.tcount_top.specs.declared.top.Status.{Status}
use Rattle.tcount_top.specs.declared.top.Status.TheVariants.{Found, Above, NoMemory}
use Rattle.tcount_top.specs.declared.command.TextCommand.TheVariants.{Synth, Check}
use Rattle.tcount_top.specs.declared.command.Command.{Command}
use Rattle.tcount_top.specs.declared.command.Command.TheVariants.{OverText, Levels, Bench}
use Rattle.tcount_top.specs.Words.{Spell, IsCommand}
use Rattle.tcount_top.specs.Out.{Out, SynthOut, IsTaken, AreFewH, longest}
use Rattle.tcount_top.specs.Printed.{IsPrinted}
use Rattle.tcount_top.specs.Run.{Device, Answers, Failed}

-- words are at most one command
abbrev pub OneCommand : Type 0
OneCommand = (words : List (List ℕ)) (a b : Command) → Spell words a → Spell words b → a ≡ b

-- the outcomes for words and a text have one status and the same bytes
abbrev pub OneOutcome : Type 0
OneOutcome = (words : List (List ℕ)) (text : List ℕ) (s t : Status) (a b : List ℕ) → Out words text s a → Out words text t b → (s ≡ t) × (a ≡ b)

-- words that are a command have an outcome for each text
abbrev pub OutcomesExist : Type 0
OutcomesExist = (words : List (List ℕ)) (text : List ℕ) → IsCommand words → (status : Status) × (bytes : List ℕ) × Out words text status bytes

-- the text isn't too long and is two programs, which read as these circuits, neither with more than 120 h gates
pub record AreTaken (text : List ℕ) (c d : Gates) : Type 0 where
  pub short : length text ≤ longest
  pub cut : ℕ
  pub halves : HasHalves text cut
  pub first : Reads (take cut text) c
  pub second : Reads (drop cut text) d
  pub few : AreFewH c d

-- the command accepts the text: `synth` a circuit with a bound within its limit, `check` two circuits that can be compared,
-- `levels` and `bench` any text, since they don't look at it
abbrev pub Accepts : Command → List ℕ → Type 0
Accepts (OverText (Synth bound workers)) text = (c : Gates) × IsTaken text c bound
Accepts (OverText Check) text = (c d : Gates) × AreTaken text c d
Accepts (Levels qubits top workers) text = ⊤
Accepts (Bench qubits letters seed bound workers) text = ⊤

-- where the words are a command that accepts the source's content and no device failed, the answer is Found or Above, or
-- memory was wanting
abbrev pub IsComplete : List (List ℕ) → Device → Device → Status → Type 0
IsComplete words source sink status = (Failed source → ⊥) → (Failed sink → ⊥)
    → (text : List ℕ) → source.bytes_before ≡ Some text → (command : Command) → Spell words command → Accepts command text
    → (status ≡ Found) ⊎ ((status ≡ Above) ⊎ (status ≡ NoMemory))

-- a run's answers are complete
abbrev pub AnswersAreComplete : Type 0
AnswersAreComplete = (words : List (List ℕ)) (source sink : Device) (status : Status) → Answers words source sink status → IsComplete words source sink status

-- circuits of one matrix up to global phase, and so of one channel, are printed as the same bytes
abbrev pub PrintedOnce : Type 0
PrintedOnce = (c d : Gates) → IsSmallCircuit c → IsSmallCircuit d → c.qubits ≡ d.qubits → Same c.qubits c.gates d.gates
    → (a b : List ℕ) → IsPrinted c a → IsPrinted d b → a ≡ b

-- the circuit of a text has a least T-count
abbrev pub LeastCountsExist : Type 0
LeastCountsExist = (text : List ℕ) (c : Gates) → Reads text c → (t : ℕ) × IsLeastTCount c.qubits c.gates t

-- texts whose circuits are the same up to global phase, and so have one channel, have for one bound one status and the same bytes
abbrev pub OneAnswerForOneMatrix : Type 0
OneAnswerForOneMatrix = (bound : ℕ) (x y : List ℕ) → length x ≤ longest → length y ≤ longest → (c d : Gates) → Reads x c → Reads y d → c.qubits ≡ d.qubits → Same c.qubits c.gates d.gates
    → (s t : Status) (a b : List ℕ) → SynthOut bound x s a → SynthOut bound y t b → (s ≡ t) × (a ≡ b)
