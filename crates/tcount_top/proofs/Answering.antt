-- What writing an outcome makes of a run.
use Rattle.std.proofs.Common.{◌≡◌, ◌⊎◌, ℕ, ◌<◌, List, [], ◌++◌, length, arith, sym, ap, ◌∙◌, subst, refl, inl, inr, None, Some}
use Rattle.std.specs.Prelude.{⊤}
use Rattle.std.specs.declared.option.Option.{Option}
use Rattle.std.proofs.lemmas.List.{length-append, append-nil}
use Rattle.std.specs.Io.KnownBytes.{Consumes}
use Rattle.tc_circuit.specs.Circuit.{Gates}
use Rattle.tc_io.specs.Stream.{ReadsAll, TakesFront, TakesAtMost}
use Rattle.tcount_top.specs.declared.command.TextCommand.{TextCommand}
use Rattle.tcount_top.specs.declared.command.TextCommand.TheVariants.{Synth, Check}
use Rattle.tcount_top.specs.declared.command.Command.TheVariants.{OverText, Levels, Bench}
use Rattle.tcount_top.specs.Words.{IsLevels, IsBench, SpellText, IsCommand, AskText}
use Rattle.tcount_top.specs.Lines.{usage_line, too_long_line, levels_line}
use Rattle.tcount_top.specs.Out.{Out, SynthOut, CircuitsOut, ProgramsOut, CheckOut, TextOut, longest, usage, command, too_long, refused, past_limit, found, above, many_h, are_same, differ, first_refused, second_refused, both_read, overlong, bad_byte, no_halves, halved}
use Rattle.tcount_top.specs.Bench.{BenchOut, found as bench_found, above as bench_above}
use Rattle.tcount_top.specs.Run.{Device, Answers, Responds, TakesText, OnContent, IsOutcome, IsSound, IsUntouched, Failed}
use Rattle.tcount_top.specs.declared.top.Status.{Status}
use Rattle.tcount_top.specs.declared.top.Status.TheVariants.{Found, Above, Refused, Usage, ReadFault, WriteFault, NoMemory}
use Rattle.tcount_top.proofs.Words.{one_command}

-- a weaker claim on the content
on_content : (left : Option (List ℕ)) (P Q : List ℕ → Type 0) → ((text : List ℕ) → P text → Q text) → OnContent left P → OnContent left Q
on_content None P Q f h = (h.0, f h.0 h.1)
on_content (Some text) P Q f h = f text h

-- a claim on each text
on_any : (left : Option (List ℕ)) (P : List ℕ → Type 0) → ((text : List ℕ) → P text) → OnContent left P
on_any None P f = ([], f [])
on_any (Some text) P f = f text

-- ---- what was read
-- nothing
pub takes_none : (old new : Option (List ℕ)) → new ≡ old → TakesAtMost 65537 old new
takes_none old new e = record { count = 0; short = omega arith; front = record { taken = []; exact = refl; gone = subst (λ (left : Option (List ℕ)). Consumes old left []) (sym e) (none old) } }
  where
    none : (left : Option (List ℕ)) → Consumes left left []
    none None = tt
    none (Some text) = refl

-- all
pub takes_all : (old new : Option (List ℕ)) (bytes : List ℕ) → ReadsAll longest old new bytes → TakesAtMost 65537 old new
takes_all old new bytes h = record { count = length bytes; short = omega (arith, h.short); front = record { taken = bytes; exact = refl; gone = h.gone } }

-- 65,537 bytes
pub takes_front : (old new : Option (List ℕ)) → TakesFront 65537 old new → TakesAtMost 65537 old new
takes_front old new h = record { count = 65537; short = omega arith; front = h }

-- the content, where it was read to its end as these bytes
content_read : (old new : Option (List ℕ)) (bytes : List ℕ) (Q : List ℕ → Type 0) → ReadsAll longest old new bytes → Q bytes → OnContent old Q
content_read None new bytes Q h q = (bytes, q)
content_read (Some text) None bytes Q h q = absurd h.gone
content_read (Some text) (Some rest) bytes Q h q =
    let same : bytes ≡ text = sym (h.gone ∙ ap (λ (l : List ℕ). bytes ++ l) h.ended ∙ append-nil bytes) in subst Q same q

-- the content, where 65,537 bytes of it were taken
content_past : (old new : Option (List ℕ)) (Q : List ℕ → Type 0) → TakesFront 65537 old new → ((text : List ℕ) → longest < length text → Q text) → OnContent old Q
content_past None new Q h q = (h.taken, q h.taken (omega (arith, h.exact)))
content_past (Some text) None Q h q = absurd h.gone
content_past (Some text) (Some rest) Q h q = q text (omega (arith, ap (λ (l : List ℕ). length l) h.gone, length-append h.taken rest, h.exact))

-- ---- want of memory and faults of reading
-- want of memory, before anything was written
pub no_memory : (words : List (List ℕ)) (source sink : Device) → IsCommand words → IsUntouched sink → TakesAtMost 65537 source.bytes_before source.bytes_after → Answers words source sink NoMemory
no_memory words source sink is same most = record {
  no_memory = λ _. (is, same);
  read_fault = λ e. cc;
  write_fault = λ e. cc;
  outcome = λ o. absurd o;
  taken = λ ask other _. absurd (other refl);
  at_most = most;
}

-- a fault of reading
pub read_fault : (words : List (List ℕ)) (source sink : Device) → AskText words → Failed source → IsUntouched sink → TakesAtMost 65537 source.bytes_before source.bytes_after → Answers words source sink ReadFault
read_fault words source sink ask failed same most = record {
  no_memory = λ e. cc;
  read_fault = λ _. (ask, failed, same);
  write_fault = λ e. cc;
  outcome = λ o. absurd o;
  taken = λ _ _ other. absurd (other refl);
  at_most = most;
}

-- ---- outcomes that were handed to the sink
-- what a run knows of its source where it answers with an outcome
record Took (words : List (List ℕ)) (source : Device) : Type 0 where
  pub sound : IsSound source
  pub text : AskText words → OnContent source.bytes_before (TakesText source)
  pub at_most : TakesAtMost 65537 source.bytes_before source.bytes_after

responded : (words : List (List ℕ)) (source sink : Device) (wanted status : Status) (bytes : List ℕ) → IsOutcome wanted → OnContent source.bytes_before (λ text. Out words text wanted bytes) → Took words source
    → Responds sink bytes wanted status → Answers words source sink status
responded words source sink wanted status bytes is out took (inl h) = record {
  no_memory = λ e. absurd (subst IsOutcome (sym h.0 ∙ e) is);
  read_fault = λ e. absurd (subst IsOutcome (sym h.0 ∙ e) is);
  write_fault = λ e. absurd (subst IsOutcome (sym h.0 ∙ e) is);
  outcome = λ _. (took.sound, h.1, on_content source.bytes_before (λ text. Out words text wanted bytes) _ (λ text o. (bytes, subst (λ (s : Status). Out words text s bytes) (sym h.0) o, h.2)) out);
  taken = λ ask a b. took.text ask;
  at_most = took.at_most;
}
responded words source sink wanted status bytes is out took (inr h) = record {
  no_memory = λ e. let f : WriteFault ≡ NoMemory = sym h.0 ∙ e in cc;
  read_fault = λ e. let f : WriteFault ≡ ReadFault = sym h.0 ∙ e in cc;
  write_fault = λ _. (h.1, on_content source.bytes_before (λ text. Out words text wanted bytes) _ (λ text o. (wanted, bytes, o, h.2)) out);
  outcome = λ o. absurd (subst IsOutcome h.0 o);
  taken = λ ask a b. took.text ask;
  at_most = took.at_most;
}

-- the outcome of a text, or of `bench`, is Found, Above or Refused
abbrev pub IsAnswer : Status → Type 0
IsAnswer Found = ⊤
IsAnswer Above = ⊤
IsAnswer Refused = ⊤
IsAnswer Usage = ⊥
IsAnswer ReadFault = ⊥
IsAnswer WriteFault = ⊥
IsAnswer NoMemory = ⊥

synth_answer : (bound : ℕ) (text : List ℕ) (status : Status) (bytes : List ℕ) → SynthOut bound text status bytes → IsAnswer status
synth_answer bound text status bytes (too_long l) = tt
synth_answer bound text status bytes (refused l number place r) = tt
synth_answer bound text status bytes (past_limit l c r o) = tt
synth_answer bound text status bytes (found c t k l w b s) = tt
synth_answer bound text status bytes (above c t k l o) = tt

circuits_answer : (c d : Gates) (status : Status) (bytes : List ℕ) → CircuitsOut c d status bytes → IsAnswer status
circuits_answer c d status bytes (many_h count m) = tt
circuits_answer c d status bytes (are_same few s) = tt
circuits_answer c d status bytes (differ few o) = tt

programs_answer : (cut : ℕ) (x y : List ℕ) (status : Status) (bytes : List ℕ) → ProgramsOut cut x y status bytes → IsAnswer status
programs_answer cut x y status bytes (first_refused number place r) = tt
programs_answer cut x y status bytes (second_refused c h number place r) = tt
programs_answer cut x y status bytes (both_read c d hc hd s b out) = circuits_answer c d s b out

check_answer : (text : List ℕ) (status : Status) (bytes : List ℕ) → CheckOut text status bytes → IsAnswer status
check_answer text status bytes (overlong l) = tt
check_answer text status bytes (bad_byte l place b) = tt
check_answer text status bytes (no_halves l h) = tt
check_answer text status bytes (halved l cut h s b out) = programs_answer cut _ _ s b out

pub text_answer : (asked : TextCommand) (text : List ℕ) (status : Status) (bytes : List ℕ) → TextOut asked text status bytes → IsAnswer status
text_answer (Synth bound workers) text status bytes out = synth_answer bound text status bytes out
text_answer Check text status bytes out = check_answer text status bytes out

pub bench_answer : (n t seed bound : ℕ) (status : Status) (bytes : List ℕ) → BenchOut n t seed bound status bytes → IsAnswer status
bench_answer n t seed bound status bytes (bench_found count least within word is) = tt
bench_answer n t seed bound status bytes (bench_above count least over) = tt

-- that is neither want of memory nor a fault
answer_is_outcome : (status : Status) → IsAnswer status → IsOutcome status
answer_is_outcome Found v = tt
answer_is_outcome Above v = tt
answer_is_outcome Refused v = tt
answer_is_outcome Usage v = tt
answer_is_outcome ReadFault v = absurd v
answer_is_outcome WriteFault v = absurd v
answer_is_outcome NoMemory v = absurd v

-- so where it was handed to the sink, a run answers no want of memory, no fault of reading and no usage
pub never_silent : (sink : Device) (bytes : List ℕ) (wanted status : Status) → IsAnswer wanted → Responds sink bytes wanted status → (status ≡ NoMemory) ⊎ (status ≡ ReadFault) → ⊥
never_silent sink bytes wanted status v (inl h) (inl e) = subst IsAnswer (sym h.0 ∙ e) v
never_silent sink bytes wanted status v (inl h) (inr e) = subst IsAnswer (sym h.0 ∙ e) v
never_silent sink bytes wanted status v (inr h) (inl e) = let f : WriteFault ≡ NoMemory = sym h.0 ∙ e in cc
never_silent sink bytes wanted status v (inr h) (inr e) = let f : WriteFault ≡ ReadFault = sym h.0 ∙ e in cc

pub never_usage : (sink : Device) (bytes : List ℕ) (wanted status : Status) → IsAnswer wanted → Responds sink bytes wanted status → status ≡ Usage → ⊥
never_usage sink bytes wanted status v (inl h) e = subst IsAnswer (sym h.0 ∙ e) v
never_usage sink bytes wanted status v (inr h) e = let f : WriteFault ≡ Usage = sym h.0 ∙ e in cc

-- what each command answers to a text that is too long
too_long_out : (asked : TextCommand) (text : List ℕ) → longest < length text → TextOut asked text Refused too_long_line
too_long_out (Synth bound workers) text long = too_long long
too_long_out Check text long = overlong long

-- the outcome for a text that was read to its end
pub read_answers : (words : List (List ℕ)) (source sink : Device) (asked : TextCommand) → SpellText words asked → (wanted status : Status) (text bytes : List ℕ) → IsSound source
    → ReadsAll longest source.bytes_before source.bytes_after text → TextOut asked text wanted bytes → Responds sink bytes wanted status → Answers words source sink status
read_answers words source sink asked is wanted status text bytes sound all due response =
    let ends = content_read source.bytes_before source.bytes_after text in
    responded words source sink wanted status bytes (answer_is_outcome wanted (text_answer asked text wanted bytes due)) (ends _ all (command (OverText asked) is due))
    record { sound = sound; text = λ _. ends (TakesText source) all (record { whole = λ _. all; front = λ long. absurd (omega (arith, all.short, long)) }); at_most = takes_all _ _ text all }
    response

-- the outcome for a text of which 65,537 bytes were taken
pub past_answers : (words : List (List ℕ)) (source sink : Device) (asked : TextCommand) → SpellText words asked → (status : Status) → IsSound source
    → TakesFront 65537 source.bytes_before source.bytes_after → Responds sink too_long_line Refused status → Answers words source sink status
past_answers words source sink asked is status sound front response =
    let past = content_past source.bytes_before source.bytes_after in
    responded words source sink Refused status too_long_line tt (past _ front (λ text long. command (OverText asked) is (too_long_out asked text long)))
    record { sound = sound; text = λ _. past (TakesText source) front (λ text long. record { whole = λ short. absurd (omega (arith, short, long)); front = λ _. front }); at_most = takes_front _ _ front }
    response

-- words that ask for no text
unread : (words : List (List ℕ)) (source : Device) → (AskText words → ⊥) → IsUntouched source → IsSound source → Took words source
unread words source unasked same sound = record { sound = sound; text = λ ask. absurd (unasked ask); at_most = takes_none _ _ same }

-- words that are no command
pub usage_answers : (words : List (List ℕ)) (source sink : Device) → (IsCommand words → ⊥) → (status : Status) → IsUntouched source → IsSound source → Responds sink usage_line Usage status → Answers words source sink status
usage_answers words source sink none status same sound response =
    responded words source sink Usage status usage_line tt (on_any source.bytes_before _ (λ text. usage none refl refl))
    (unread words source (λ ask. none (OverText ask.0, ask.1)) same sound) response

-- words that are `levels` ask for no text
pub levels_ask_none : (words : List (List ℕ)) (qubits top workers : ℕ) → IsLevels words qubits top workers → AskText words → ⊥
levels_ask_none words qubits top workers is ask = let same : Levels qubits top workers ≡ OverText ask.0 = one_command words (Levels qubits top workers) (OverText ask.0) is ask.1 in cc

-- nor do words that are `bench`
pub bench_asks_none : (words : List (List ℕ)) (n t seed bound workers : ℕ) → IsBench words n t seed bound workers → AskText words → ⊥
bench_asks_none words n t seed bound workers is ask = let same : Bench n t seed bound workers ≡ OverText ask.0 = one_command words (Bench n t seed bound workers) (OverText ask.0) is ask.1 in cc

-- and their answers
module _ (words : List (List ℕ)) (source sink : Device) (status : Status) (same : IsUntouched source) (sound : IsSound source) (untouched : status ≡ NoMemory → IsUntouched sink) where
  wanting : IsCommand words → status ≡ NoMemory → Answers words source sink status
  wanting is e = subst (Answers words source sink) (sym e) (no_memory words source sink is (untouched e) (takes_none _ _ same))

  pub levels_answers : (qubits top workers : ℕ) → IsLevels words qubits top workers → (status ≡ NoMemory) ⊎ Responds sink (levels_line qubits top) Found status → Answers words source sink status
  levels_answers qubits top workers is (inr response) =
      responded words source sink Found status (levels_line qubits top) tt (on_any source.bytes_before _ (λ text. command (Levels qubits top workers) is (refl, refl)))
      (unread words source (levels_ask_none words qubits top workers is) same sound) response
  levels_answers qubits top workers is (inl e) = wanting (Levels qubits top workers, is) e

  pub bench_answers : (n t seed bound workers : ℕ) → IsBench words n t seed bound workers
      → (status ≡ NoMemory) ⊎ ((wanted : Status) × (bytes : List ℕ) × BenchOut n t seed bound wanted bytes × Responds sink bytes wanted status) → Answers words source sink status
  bench_answers n t seed bound workers is (inr (wanted, bytes, out, response)) =
      responded words source sink wanted status bytes (answer_is_outcome wanted (bench_answer n t seed bound wanted bytes out)) (on_any source.bytes_before _ (λ text. command (Bench n t seed bound workers) is out))
      (unread words source (bench_asks_none words n t seed bound workers is) same sound) response
  bench_answers n t seed bound workers is (inl e) = wanting (Bench n t seed bound workers, is) e
