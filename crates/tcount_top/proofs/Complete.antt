-- Where a command accepts the source's content and no device fails, the answer is Found, Above or want of memory.
use Rattle.std.proofs.Common.{◌≡◌, ◌⊎◌, ℕ, List, take, drop, refl, ap, subst, inl, inr, arith}
use Rattle.qasm_lex.specs.Tokens.{Bad}
use Rattle.tc_circuit.specs.Circuit.{Gates}
use Rattle.qasm_reader.specs.Halves.{HasHalves, HasNoHalves}
use Rattle.qasm_reader.specs.Read.{Reads, Refused as IsRefused}
use Rattle.tcount_top.specs.declared.top.Status.{Status}
use Rattle.tcount_top.specs.declared.top.Status.TheVariants.{Found, Above, Refused, Usage, ReadFault, WriteFault, NoMemory}
use Rattle.tcount_top.specs.declared.command.TextCommand.TheVariants.{Synth, Check}
use Rattle.tcount_top.specs.declared.command.Command.{Command}
use Rattle.tcount_top.specs.declared.command.Command.TheVariants.{OverText, Levels, Bench}
use Rattle.tcount_top.specs.Words.{Spell}
use Rattle.tcount_top.specs.Laws.{Accepts, AreTaken, AnswersAreComplete}
use Rattle.tcount_top.specs.Out.{Out, SynthOut, IsTaken, CircuitsOut, ProgramsOut, CheckOut, CommandOut, AreFewH, most_bound, usage, command, too_long, refused, past_limit, found, above, many_h, are_same, differ, first_refused, second_refused, both_read, overlong, bad_byte, no_halves, halved}
use Rattle.tcount_top.specs.Bench.{BenchOut, found as bench_found, above as bench_above}
use Rattle.tcount_top.specs.Run.{OnContent, WritesOutcome}
use Rattle.tcount_top.proofs.OneCheck.{not_many}
use Rattle.tcount_top.proofs.Words.{one_command}

-- Found or Above
abbrev IsAnswered : Status → Type 0
IsAnswered status = (status ≡ Found) ⊎ (status ≡ Above)

-- the laws of the reader
pub record Reader : Type 0 where
  pub never_both : (text : List ℕ) (c : Gates) (n p : ℕ) → Reads text c → IsRefused text n p → ⊥
  pub circuit : (text : List ℕ) (c d : Gates) → Reads text c → Reads text d → c ≡ d
  pub place : (text : List ℕ) (p q : ℕ) → HasHalves text p → HasHalves text q → p ≡ q
  pub never_none : (text : List ℕ) (p : ℕ) → HasHalves text p → HasNoHalves text → ⊥
  pub never_bad : (text : List ℕ) (p q : ℕ) → HasHalves text p → Bad text q → ⊥

-- `bench` answers nothing else
bench_answered : (n t seed bound : ℕ) (s : Status) (b : List ℕ) → BenchOut n t seed bound s b → IsAnswered s
bench_answered n t seed bound s b (bench_found count least within word is) = inl refl
bench_answered n t seed bound s b (bench_above count least over) = inr refl

module _ (reader : Reader) where
  -- what is accepted isn't refused
  synth_answered : (bound : ℕ) (text : List ℕ) (c : Gates) → IsTaken text c bound → (s : Status) (b : List ℕ) → SynthOut bound text s b → IsAnswered s
  synth_answered bound text c is s b (too_long l) = absurd (omega (arith, l, is.short))
  synth_answered bound text c is s b (refused l n p r) = absurd (reader.never_both text c n p is.reads r)
  synth_answered bound text c is s b (past_limit l d h over) =
      let limit : most_bound c.qubits ≡ most_bound d.qubits = ap (λ (x : Gates). most_bound x.qubits) (reader.circuit text c d is.reads h) in absurd (omega (arith, is.low, over, limit))
  synth_answered bound text c is s b (found d k t least within bytes shows) = inl refl
  synth_answered bound text c is s b (above d k t least over) = inr refl

  circuits_answered : (c d : Gates) → AreFewH c d → (s : Status) (b : List ℕ) → CircuitsOut c d s b → IsAnswered s
  circuits_answered c d few s b (many_h count many) = not_many c d count many few
  circuits_answered c d few s b (are_same also is) = inl refl
  circuits_answered c d few s b (differ also other) = inr refl

  programs_answered : (cut : ℕ) (x y : List ℕ) (c d : Gates) → Reads x c → Reads y d → AreFewH c d → (s : Status) (b : List ℕ) → ProgramsOut cut x y s b → IsAnswered s
  programs_answered cut x y c d hc hd few s b (first_refused n p r) = absurd (reader.never_both x c n p hc r)
  programs_answered cut x y c d hc hd few s b (second_refused e h n p r) = absurd (reader.never_both y d n p hd r)
  programs_answered cut x y c d hc hd few s b (both_read e f he hf s' b' out) =
      let first : c ≡ e = reader.circuit x c e hc he in
      let second : d ≡ f = reader.circuit y d f hd hf in
      circuits_answered e f (subst (λ (k : Gates). AreFewH e k) second (subst (λ (k : Gates). AreFewH k d) first few)) s' b' out

  check_answered : (text : List ℕ) (c d : Gates) → AreTaken text c d → (s : Status) (b : List ℕ) → CheckOut text s b → IsAnswered s
  check_answered text c d is s b (overlong l) = absurd (omega (arith, l, is.short))
  check_answered text c d is s b (bad_byte l p bad) = absurd (reader.never_bad text is.cut p is.halves bad)
  check_answered text c d is s b (no_halves l none) = absurd (reader.never_none text is.cut is.halves none)
  check_answered text c d is s b (halved l cut h s' b' out) =
      let one : is.cut ≡ cut = reader.place text is.cut cut is.halves h in
      programs_answered cut (take cut text) (drop cut text) c d (subst (λ (k : ℕ). Reads (take k text) c) one is.first) (subst (λ (k : ℕ). Reads (drop k text) d) one is.second) is.few s' b' out

  command_answered : (asked : Command) (text : List ℕ) → Accepts asked text → (s : Status) (b : List ℕ) → CommandOut asked text s b → IsAnswered s
  command_answered (OverText (Synth bound workers)) text (c, is) s b out = synth_answered bound text c is s b out
  command_answered (OverText Check) text (c, d, is) s b out = check_answered text c d is s b out
  command_answered (Levels n k w) text is s b out = inl out.0
  command_answered (Bench n t seed bound w) text is s b out = bench_answered n t seed bound s b out

  -- so are outcomes
  outcome_answered : (words : List (List ℕ)) (text : List ℕ) (asked : Command) → Spell words asked → Accepts asked text → (s : Status) (b : List ℕ) → Out words text s b → IsAnswered s
  outcome_answered words text asked is takes s b (usage none e f) = absurd (none (asked, is))
  outcome_answered words text asked is takes s b (command other is' out) =
      command_answered asked text takes s b (subst (λ (x : Command). CommandOut x text s b) (one_command words other asked is' is) out)

  pub answers_complete : AnswersAreComplete
  answers_complete words source sink Found answers fine sound text told asked is takes = inl refl
  answers_complete words source sink Above answers fine sound text told asked is takes = inr (inl refl)
  answers_complete words source sink NoMemory answers fine sound text told asked is takes = inr (inr refl)
  answers_complete words source sink ReadFault answers fine sound text told asked is takes = absurd (fine (answers.read_fault refl).1)
  answers_complete words source sink WriteFault answers fine sound text told asked is takes = absurd (sound (answers.write_fault refl).0)
  answers_complete words source sink Refused answers fine sound text told asked is takes =
      let wrote = subst (λ o. OnContent o (λ x. WritesOutcome words x Refused sink)) told (answers.outcome tt).2 in
      let never = outcome_answered words text asked is takes Refused wrote.0 wrote.1 in
      absurd (elim never [ inl e ↦ cc | inr e ↦ cc ])
  answers_complete words source sink Usage answers fine sound text told asked is takes =
      let wrote = subst (λ o. OnContent o (λ x. WritesOutcome words x Usage sink)) told (answers.outcome tt).2 in
      let never = outcome_answered words text asked is takes Usage wrote.0 wrote.1 in
      absurd (elim never [ inl e ↦ cc | inr e ↦ cc ])
