-- What a run does with its source and its sink.
use Rattle.std.specs.Prelude.{◌≡◌, ◌≢◌, ◌⊎◌, ℕ, ◌<◌, ◌≤◌, List, length, ⊤}
use Rattle.std.specs.declared.option.Option.{Option}
use Rattle.std.specs.declared.option.Option.TheVariants.{None, Some}
use Rattle.std.specs.Io.KnownBytes.{Appends}
use Rattle.tc_io.specs.Fault.{Rose}
use Rattle.tc_io.specs.Stream.{ReadsAll, TakesFront, TakesAtMost, AppendsPart}
use Rattle.tcount_top.specs.Words.{IsCommand, AskText}
use Rattle.tcount_top.specs.Out.{Out, longest}
use Rattle.tcount_top.specs.declared.top.Status.{Status}
use Rattle.tcount_top.specs.declared.top.Status.TheVariants.{Found, Above, Refused, Usage, ReadFault, WriteFault, NoMemory}

-- a source or a sink before and after a run
pub record Device : Type 0 where
  -- what it tells of its bytes: a source of those to come, a sink of those that it holds
  pub bytes_before : Option (List ℕ)
  pub bytes_after : Option (List ℕ)
  -- how often a call of it has failed
  pub faults_before : ℕ
  pub faults_after : ℕ

-- a claim on a source's content: on the bytes that it tells, or on some bytes where it tells none
abbrev pub OnContent : Option (List ℕ) → (List ℕ → Type 0) → Type 0
OnContent None P = (text : List ℕ) × P text
OnContent (Some text) P = P text

-- the device's count of faults rose
abbrev pub Failed : Device → Type 0
Failed device = Rose device.faults_before device.faults_after

-- the device's count of faults stands where it stood
abbrev pub IsSound : Device → Type 0
IsSound device = device.faults_after ≡ device.faults_before

-- the device tells the same bytes
abbrev pub IsUntouched : Device → Type 0
IsUntouched device = device.bytes_after ≡ device.bytes_before

-- a text of at most 65,536 bytes was read to its end, and of a longer one exactly 65,537 bytes were taken
pub record TakesText (source : Device) (text : List ℕ) : Type 0 where
  pub whole : length text ≤ longest → ReadsAll longest source.bytes_before source.bytes_after text
  pub front : longest < length text → TakesFront 65537 source.bytes_before source.bytes_after

-- the bytes of the outcome with this status were written, whole
abbrev pub WritesOutcome : List (List ℕ) → List ℕ → Status → Device → Type 0
WritesOutcome words text status sink =
    (bytes : List ℕ) × Out words text status bytes × Appends sink.bytes_before sink.bytes_after bytes

-- a part of the bytes of an outcome was written, from their front
abbrev pub WritesPart : List (List ℕ) → List ℕ → Device → Type 0
WritesPart words text sink =
    (status : Status) × (bytes : List ℕ) × Out words text status bytes × AppendsPart sink.bytes_before sink.bytes_after bytes

-- neither want of memory nor a fault of a device
abbrev pub IsOutcome : Status → Type 0
IsOutcome Found = ⊤
IsOutcome Above = ⊤
IsOutcome Refused = ⊤
IsOutcome Usage = ⊤
IsOutcome ReadFault = ⊥
IsOutcome WriteFault = ⊥
IsOutcome NoMemory = ⊥

-- what a run answers to words, of what became of its source and its sink
pub record Answers (words : List (List ℕ)) (source sink : Device) (status : Status) : Type 0 where
  -- memory is wanted only where the words are a command, and nothing was written
  pub no_memory : status ≡ NoMemory → IsCommand words × IsUntouched sink
  -- a fault of reading comes only where the words ask for a text and the source failed, and nothing was written
  pub read_fault : status ≡ ReadFault → AskText words × Failed source × IsUntouched sink
  -- a fault of writing comes only where the sink failed, behind a part of an outcome's bytes
  pub write_fault : status ≡ WriteFault → Failed sink × OnContent source.bytes_before (λ text. WritesPart words text sink)
  -- each other status is that of the outcome, whose bytes were written whole, and no call of a device failed
  pub outcome : IsOutcome status
      → IsSound source × IsSound sink × OnContent source.bytes_before (λ text. WritesOutcome words text status sink)
  -- how much of the text was read: with these answers a text of at most 65,536 bytes to its end, and of a longer one 65,537
  pub taken : AskText words → status ≢ NoMemory → status ≢ ReadFault → OnContent source.bytes_before (TakesText source)
  -- and whatever the answer, at most 65,537 bytes
  pub at_most : TakesAtMost 65537 source.bytes_before source.bytes_after

-- bytes were written whole, and the status is the wanted one, or a part of them before a write failed
abbrev pub Responds : Device → List ℕ → Status → Status → Type 0
Responds sink bytes wanted status =
    ((status ≡ wanted) × IsSound sink × Appends sink.bytes_before sink.bytes_after bytes)
    ⊎ ((status ≡ WriteFault) × Failed sink × AppendsPart sink.bytes_before sink.bytes_after bytes)
