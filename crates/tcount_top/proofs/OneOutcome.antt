-- Words and a text have one outcome.
use Rattle.std.proofs.Common.{◌≡◌, ℕ, ◌<◌, ◌≤◌, List, refl, ap, sym, ◌∙◌, subst, arith}
use Rattle.tc_circuit.specs.Circuit.{Gates}
use Rattle.tc_circuit.specs.Model.{IsLeastTCount}
use Rattle.qasm_reader.specs.Read.{Reads, Refused as IsRefused}
use Rattle.level_laws.specs.Laws.{LeastWordsAreUnique}
use Rattle.tcount_top.specs.declared.top.Status.{Status}
use Rattle.tcount_top.specs.declared.command.TextCommand.{TextCommand}
use Rattle.tcount_top.specs.declared.command.TextCommand.TheVariants.{Synth, Check}
use Rattle.tcount_top.specs.declared.command.Command.{Command}
use Rattle.tcount_top.specs.declared.command.Command.TheVariants.{OverText, Levels, Bench}
use Rattle.tcount_top.specs.Lines.{refusal_line, limit_line}
use Rattle.tcount_top.specs.Printed.{IsPrinted}
use Rattle.tcount_top.specs.Laws.{OneOutcome, PrintedOnce}
use Rattle.tcount_top.specs.Out.{TextOut, CommandOut, SynthOut, ShowsLike, most_bound, usage, command, too_long, refused, past_limit, found, above}
use Rattle.tcount_top.proofs.Words.{one_command}
use Rattle.tcount_top.proofs.Outcomes.{least_unique}
use Rattle.tcount_top.proofs.OneCheck.{Reading, Halving, one_check}
use Rattle.tcount_top.proofs.Made.{one_bench}

-- what shows a circuit is its print
pub printed_of : (c : Gates) (t : ℕ) (bytes : List ℕ) → ShowsLike c t bytes → IsPrinted c bytes
printed_of c t bytes h = record { word = h.word; gates = h.gates; is = h.rest; shows = h.shows }

module _ (reading : Reading) (once : PrintedOnce) (bound : ℕ) (text : List ℕ) where
  -- one circuit, found: one print
  one_found : (c d : Gates) → Reads text c → Reads text d → (t u : ℕ) (a b : List ℕ) → ShowsLike c t a → ShowsLike d u b → a ≡ b
  one_found c d hc hd t u a b x y =
      let same : c ≡ d = reading.circuit text c d hc hd in
      let small = reading.small text c hc in once c c small small refl (reading.itself c small) a b (printed_of c t a x) (subst (λ (e : Gates). IsPrinted e b) (sym same) (printed_of d u b y))

  -- one circuit: its least T-count is within the bound or past it
  one_side : {P : Type 0} → (c d : Gates) → Reads text c → Reads text d → (t u : ℕ) → IsLeastTCount c.qubits c.gates t → IsLeastTCount d.qubits d.gates u → t ≤ bound → bound < u → P
  one_side c d hc hd t u x y within over =
      let same : c ≡ d = reading.circuit text c d hc hd in
      let e : t ≡ u = least_unique c t u x (subst (λ (e : Gates). IsLeastTCount e.qubits e.gates u) (sym same) y) in absurd (omega (arith, e, within, over))

  -- one circuit: the bound is within its limit or past it
  one_limit : {P : Type 0} → (c d : Gates) → Reads text c → Reads text d → most_bound c.qubits < bound → bound ≤ most_bound d.qubits → P
  one_limit c d hc hd over low = let e : most_bound c.qubits ≡ most_bound d.qubits = ap (λ (x : Gates). most_bound x.qubits) (reading.circuit text c d hc hd) in absurd (omega (arith, e, over, low))

  never : {P : Type 0} → (c : Gates) (n p : ℕ) → Reads text c → IsRefused text n p → P
  never c n p hc hr = absurd (reading.never_both text c n p hc hr)

  -- `synth` has one outcome
  one_synth : (s t : Status) (a b : List ℕ) → SynthOut bound text s a → SynthOut bound text t b → (s ≡ t) × (a ≡ b)
  one_synth s t a b (too_long l) (too_long m) = (refl, refl)
  one_synth s t a b (too_long l) (refused m n p r) = absurd (omega (arith, l, m))
  one_synth s t a b (too_long l) (past_limit m c r o) = absurd (omega (arith, l, m))
  one_synth s t a b (too_long l) (found c k u h w y z) = absurd (omega (arith, l, k.short))
  one_synth s t a b (too_long l) (above c k u h o) = absurd (omega (arith, l, k.short))
  one_synth s t a b (refused l n p r) (too_long m) = absurd (omega (arith, l, m))
  one_synth s t a b (refused l n p r) (refused m n' p' r') = let e = reading.refusal text n p n' p' r r' in (refl, ap (λ (x : ℕ). refusal_line x p) e.0 ∙ ap (refusal_line n') e.1)
  one_synth s t a b (refused l n p r) (past_limit m c r' o) = never c n p r' r
  one_synth s t a b (refused l n p r) (found c k u h w y z) = never c n p k.reads r
  one_synth s t a b (refused l n p r) (above c k u h o) = never c n p k.reads r
  one_synth s t a b (past_limit l c r o) (too_long m) = absurd (omega (arith, l, m))
  one_synth s t a b (past_limit l c r o) (refused m n p r') = never c n p r r'
  one_synth s t a b (past_limit l c r o) (past_limit m d r' o') = (refl, ap (λ (x : Gates). limit_line bound (most_bound x.qubits)) (reading.circuit text c d r r'))
  one_synth s t a b (past_limit l c r o) (found d k u h w y z) = one_limit c d r k.reads o k.low
  one_synth s t a b (past_limit l c r o) (above d k u h o') = one_limit c d r k.reads o k.low
  one_synth s t a b (found c k u h w y z) (too_long m) = absurd (omega (arith, m, k.short))
  one_synth s t a b (found c k u h w y z) (refused m n p r) = never c n p k.reads r
  one_synth s t a b (found c k u h w y z) (past_limit m d r o) = one_limit d c r k.reads o k.low
  one_synth s t a b (found c k u h w y z) (found d k' u' h' w' y' z') = (refl, one_found c d k.reads k'.reads u u' y y' z z')
  one_synth s t a b (found c k u h w y z) (above d k' u' h' o) = one_side c d k.reads k'.reads u u' h h' w o
  one_synth s t a b (above c k u h o) (too_long m) = absurd (omega (arith, m, k.short))
  one_synth s t a b (above c k u h o) (refused m n p r) = never c n p k.reads r
  one_synth s t a b (above c k u h o) (past_limit m d r o') = one_limit d c r k.reads o' k.low
  one_synth s t a b (above c k u h o) (found d k' u' h' w y z) = one_side d c k'.reads k.reads u' u h' h w o
  one_synth s t a b (above c k u h o) (above d k' u' h' o') = (refl, refl)

-- each command has one
one_text_out : Reading → Halving → PrintedOnce → (c : TextCommand) (text : List ℕ) (s t : Status) (a b : List ℕ) → TextOut c text s a → TextOut c text t b → (s ≡ t) × (a ≡ b)
one_text_out reading halving once (Synth m w) text s t a b x y = one_synth reading once m text s t a b x y
one_text_out reading halving once Check text s t a b x y = one_check reading halving text s t a b x y

one_command_out : Reading → Halving → PrintedOnce → LeastWordsAreUnique → (c : Command) (text : List ℕ) (s t : Status) (a b : List ℕ) → CommandOut c text s a → CommandOut c text t b → (s ≡ t) × (a ≡ b)
one_command_out reading halving once unique (OverText c) text s t a b x y = one_text_out reading halving once c text s t a b x y
one_command_out reading halving once unique (Levels n k w) text s t a b x y = (x.0 ∙ sym y.0, x.1 ∙ sym y.1)
one_command_out reading halving once unique (Bench n k seed m w) text s t a b x y = one_bench unique n k seed m s t a b x y

pub one_outcome : Reading → Halving → PrintedOnce → LeastWordsAreUnique → OneOutcome
one_outcome reading halving once unique words text s t a b (usage none e f) (usage none' e' f') = (e ∙ sym e', f ∙ sym f')
one_outcome reading halving once unique words text s t a b (usage none e f) (command c is out) = absurd (none (c, is))
one_outcome reading halving once unique words text s t a b (command c is out) (usage none e f) = absurd (none (c, is))
one_outcome reading halving once unique words text s t a b (command c is out) (command d is' out') =
    one_command_out reading halving once unique c text s t a b out (subst (λ (x : Command). CommandOut x text t b) (sym (one_command words c d is is')) out')
