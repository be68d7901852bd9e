-- The outcome for a text's circuit, from what the search found out.
use Rattle.std.proofs.Common.{◌≡◌, ℕ, ◌+◌, ◌<◌, ◌≤◌, List, length, sym, subst, refl, arith}
use Rattle.tc_circuit.specs.Circuit.{Gates, IsSmallCircuit}
use Rattle.tc_circuit.specs.Model.{IsLeastTCount, t_count_of}
use Rattle.qasm_reader.specs.Read.{Reads, Refused as IsRefused}
use Rattle.channel_rep.specs.Tables.{ScaledTable, IsBuiltOf}
use Rattle.tc_bridge.specs.Steps.{steps_of}
use Rattle.level_laws.specs.Levels.{IsLeastWord, NoneBelow}
use Rattle.meet_laws.specs.Laws.{LeastCountsExist, LeastCountsAreLengths, CountsPassBounds}
use Rattle.tcount_top.specs.Lines.{refusal_line, limit_line, above_line}
use Rattle.tcount_top.specs.Out.{SynthOut, ShowsLike, longest, most_bound, refused, past_limit, found, above}
use Rattle.tcount_top.specs.declared.top.Status.TheVariants.{Found, Above, Refused}

-- a circuit has one least T-count
pub least_unique : (c : Gates) (t u : ℕ) → IsLeastTCount c.qubits c.gates t → IsLeastTCount c.qubits c.gates u → t ≡ u
least_unique c t u a b =
    let x = a.reached in
    let y = b.reached in omega (arith, a.least y.0 y.1 y.2, b.least x.0 x.1 x.2, x.3, y.3)

-- the channel's least word tells the least T-count
pub least_of_word : LeastCountsAreLengths → (c : Gates) → IsSmallCircuit c → (m : ScaledTable) → IsBuiltOf c.qubits (steps_of c.gates) m → (w : List ℕ) → IsLeastWord c.qubits m w
    → IsLeastTCount c.qubits c.gates (length w)
least_of_word lengths c small m is w least = (lengths c.qubits small.some small.few c.gates small.fit m is (length w)).1 (w, least, refl)

-- a circuit like the text's, with its least T-count
pub found_out : (bound : ℕ) (text : List ℕ) (c : Gates) → length text ≤ longest → Reads text c → bound ≤ most_bound c.qubits → (t : ℕ) → IsLeastTCount c.qubits c.gates t → t ≤ bound → (bytes : List ℕ) → ShowsLike c t bytes
    → SynthOut bound text Found bytes
found_out bound text c short reads low t least within bytes shows = found c record { short = short; reads = reads; low = low } t least within bytes shows

-- no word of the coset has as few letters as the bound
pub above_out : LeastCountsExist → CountsPassBounds → (bound : ℕ) (text : List ℕ) (c : Gates) → IsSmallCircuit c → length text ≤ longest → Reads text c → bound ≤ most_bound c.qubits
    → (m : ScaledTable) → IsBuiltOf c.qubits (steps_of c.gates) m → NoneBelow c.qubits m (bound + 1) → (bytes : List ℕ) → bytes ≡ above_line bound → SynthOut bound text Above bytes
above_out exist pass bound text c small short reads low m is none bytes e =
    let t = exist c.qubits small.some small.few c.gates small.fit in
    let d = t.1.reached in
    let over : bound < t_count_of d.0 = (pass c.qubits small.some small.few c.gates small.fit m is bound).0 none d.0 d.1 d.2 in
    subst (λ (b : List ℕ). SynthOut bound text Above b) (sym e) (above c record { short = short; reads = reads; low = low } t.0 t.1 (omega (arith, over, d.3)))

-- a bound above the limit
pub limit_out : (bound : ℕ) (text : List ℕ) (c : Gates) → length text ≤ longest → Reads text c → most_bound c.qubits < bound → (bytes : List ℕ) → bytes ≡ limit_line bound (most_bound c.qubits) → SynthOut bound text Refused bytes
limit_out bound text c short reads over bytes e = subst (λ (b : List ℕ). SynthOut bound text Refused b) (sym e) (past_limit short c reads over)

-- a text that is refused
pub refused_out : (bound : ℕ) (text bytes : List ℕ) (number place : ℕ) → length text ≤ longest → IsRefused text number place → bytes ≡ refusal_line number place → SynthOut bound text Refused bytes
refused_out bound text bytes number place short why e = subst (λ (b : List ℕ). SynthOut bound text Refused b) (sym e) (refused short number place why)
