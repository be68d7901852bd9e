-- Texts of one matrix have one answer.
use Rattle.std.proofs.Common.{◌≡◌, ℕ, ◌<◌, ◌≤◌, List, length, refl, ap, sym, subst, arith}
use Rattle.tc_circuit.specs.Circuit.{Gates, IsSmallCircuit}
use Rattle.tc_circuit.specs.Model.{Same, IsLeastTCount}
use Rattle.channel_rep.specs.Tables.{ScaledTable, SameTable, built}
use Rattle.tc_bridge.specs.Laws.{CircuitsHaveChannels, OneChannelWhereSame}
use Rattle.tc_bridge.specs.Steps.{steps_of}
use Rattle.meet_laws.specs.Laws.{LeastCountsAreLengths}
use Rattle.qasm_reader.specs.Read.{Reads, Refused as IsRefused}
use Rattle.tcount_top.specs.declared.top.Status.{Status}
use Rattle.tcount_top.specs.declared.top.Status.TheVariants.{Found, Above, Refused}
use Rattle.tcount_top.specs.Lines.{limit_line, above_line}
use Rattle.tcount_top.specs.Printed.{IsPrinted}
use Rattle.tcount_top.specs.Laws.{PrintedOnce, OneAnswerForOneMatrix}
use Rattle.tcount_top.specs.Out.{SynthOut, longest, most_bound, too_long, refused, past_limit, found, above}
use Rattle.tcount_top.proofs.Outcomes.{least_unique}
use Rattle.tcount_top.proofs.OneOutcome.{printed_of}

-- the laws that it rests on
pub record Laws : Type 0 where
  pub never_both : (text : List ℕ) (c : Gates) (n p : ℕ) → Reads text c → IsRefused text n p → ⊥
  pub circuit : (text : List ℕ) (c d : Gates) → Reads text c → Reads text d → c ≡ d
  pub small : (text : List ℕ) (c : Gates) → Reads text c → IsSmallCircuit c
  pub have : CircuitsHaveChannels
  pub one : OneChannelWhereSame
  pub lengths : LeastCountsAreLengths
  pub once : PrintedOnce

-- the answers to a circuit
data Answer (bound : ℕ) (c : Gates) : Status → List ℕ → Type 0 where
  -- the bound is past its limit
  past : most_bound c.qubits < bound → Answer bound c Refused (limit_line bound (most_bound c.qubits))
  -- its least T-count is at most the bound
  least : bound ≤ most_bound c.qubits → (t : ℕ) → IsLeastTCount c.qubits c.gates t → t ≤ bound → (bytes : List ℕ) → IsPrinted c bytes → Answer bound c Found bytes
  -- it is greater
  greater : bound ≤ most_bound c.qubits → (t : ℕ) → IsLeastTCount c.qubits c.gates t → bound < t → Answer bound c Above (above_line bound)

-- an outcome for a text that reads as a circuit is an answer to the circuit
answer_of : Laws → (bound : ℕ) (x : List ℕ) (c : Gates) → length x ≤ longest → Reads x c → (s : Status) (a : List ℕ) → SynthOut bound x s a → Answer bound c s a
answer_of laws bound x c short reads s a (too_long l) = absurd (omega (arith, l, short))
answer_of laws bound x c short reads s a (refused l n p r) = absurd (laws.never_both x c n p reads r)
answer_of laws bound x c short reads s a (past_limit l d r over) =
    subst (λ (e : Gates). Answer bound e Refused (limit_line bound (most_bound d.qubits))) (laws.circuit x d c r reads) (past over)
answer_of laws bound x c short reads s a (found d taken t is within bytes shows) =
    subst (λ (e : Gates). Answer bound e Found bytes) (laws.circuit x d c taken.reads reads) (least taken.low t is within bytes (printed_of d t bytes shows))
answer_of laws bound x c short reads s a (above d taken t is over) =
    subst (λ (e : Gates). Answer bound e Above (above_line bound)) (laws.circuit x d c taken.reads reads) (greater taken.low t is over)

-- circuits of one channel have one least T-count
same_count : Laws → (c d : Gates) → IsSmallCircuit c → IsSmallCircuit d → c.qubits ≡ d.qubits → Same c.qubits c.gates d.gates → (t u : ℕ) → IsLeastTCount c.qubits c.gates t → IsLeastTCount d.qubits d.gates u → t ≡ u
same_count laws c d small_c small_d e same t u ht hu =
    let n = c.qubits in
    let fit = subst (λ (k : ℕ). IsSmallCircuit (record { qubits = k; gates = d.gates })) (sym e) small_d in
    let channel : ScaledTable = built n (steps_of c.gates) in
    let one : SameTable n channel (built n (steps_of d.gates)) =
    (laws.one n small_c.some small_c.few c.gates d.gates small_c.fit fit.fit channel (built n (steps_of d.gates)) (laws.have n small_c.some small_c.few c.gates small_c.fit) (laws.have n small_c.some small_c.few d.gates fit.fit)).1 same in
    let word = (laws.lengths n small_c.some small_c.few c.gates small_c.fit channel (λ row column low below. refl) t).0 ht in
    let of_d : IsLeastTCount n d.gates t = (laws.lengths n small_c.some small_c.few d.gates fit.fit channel one t).1 word in
    least_unique (record { qubits = n; gates = d.gates }) t u of_d (subst (λ (k : ℕ). IsLeastTCount k d.gates u) (sym e) hu)

module _ (bound : ℕ) (c d : Gates) (e : c.qubits ≡ d.qubits) (count : (t u : ℕ) → IsLeastTCount c.qubits c.gates t → IsLeastTCount d.qubits d.gates u → t ≡ u) (print : (a b : List ℕ) → IsPrinted c a → IsPrinted d b → a ≡ b) where
  -- they have one limit
  limit : most_bound c.qubits ≡ most_bound d.qubits
  limit = ap most_bound e

  -- so they have one answer
  one_answer : (s t : Status) (a b : List ℕ) → Answer bound c s a → Answer bound d t b → (s ≡ t) × (a ≡ b)
  one_answer s t a b (past l) (past m) = (refl, ap (limit_line bound) limit)
  one_answer s t a b (past l) (least low u h w bytes p) = absurd (omega (arith, l, low, limit))
  one_answer s t a b (past l) (greater low u h o) = absurd (omega (arith, l, low, limit))
  one_answer s t a b (least low u h w bytes p) (past m) = absurd (omega (arith, m, low, limit))
  one_answer s t a b (least low u h w bytes p) (least low' u' h' w' bytes' p') = (refl, print bytes bytes' p p')
  one_answer s t a b (least low u h w bytes p) (greater low' u' h' o) = absurd (omega (arith, w, o, count u u' h h'))
  one_answer s t a b (greater low u h o) (past m) = absurd (omega (arith, m, low, limit))
  one_answer s t a b (greater low u h o) (least low' u' h' w bytes p) = absurd (omega (arith, w, o, count u u' h h'))
  one_answer s t a b (greater low u h o) (greater low' u' h' o') = (refl, refl)

pub one_answer_for_one_matrix : Laws → OneAnswerForOneMatrix
one_answer_for_one_matrix laws bound x y short_x short_y c d hc hd e same s t a b out_x out_y =
    let small_c = laws.small x c hc in
    let small_d = laws.small y d hd in
    one_answer bound c d e (same_count laws c d small_c small_d e same) (laws.once c d small_c small_d e same) s t a b
    (answer_of laws bound x c short_x hc s a out_x) (answer_of laws bound y d short_y hd t b out_y)
