-- A circuit that a text reads as is small: a statement that is taken keeps to the limits, and its gates fit the qubits.
use Rattle.std.proofs.Common.{◌≡◌, ℕ, ◌+◌, ◌<◌, ◌≤◌, true, false, List, [], ◌∷◌, ◌++◌, length, Option, Some, None, Ok, refl, sym, subst, arith, length-append}
use Rattle.std.specs.List.{AllByRecursion}
use Rattle.tc_circuit.specs.Circuit.{Gates}
use Rattle.tc_circuit.specs.Model.{IsCircuit, t_count_of}
use Rattle.tc_circuit.specs.declared.circuit.Gate.{Gate}
use Rattle.qasm_reader.specs.Limits.{most_qubits, most_t_gates, most_gates, most_statements}
use Rattle.qasm_reader.specs.Lexemes.{Lexeme}
use Rattle.qasm_reader.specs.Forms.{Form, Include, Qreg, Creg, Barrier, Apply, Turn, Define, HasForm}
use Rattle.qasm_reader.specs.State.{Register, State, start, value, after, gates_in, defined}
use Rattle.qasm_reader.specs.Rows.{Statement, has_bad_body, has_too_many_gates, row_of}
use Rattle.qasm_reader.specs.Run.{IsTakeable}
use Rattle.qasm_reader.specs.Read.{Reads, scan, refused_or, place_of}
use Rattle.tc_circuit.proofs.Counts.{t_count-append}
use Rattle.qasm_reader.proofs.Registers.{Inside}
use Rattle.qasm_reader.proofs.Takeable.{AreSound, table_sound, sound_more, body_fits, takeable, circuit_append, short_before}
use Rattle.qasm_reader.proofs.Order.{unmet}
use Rattle.qasm_reader.proofs.Places.{or_false}
use Rattle.qasm_reader.specs.declared.refusal.Refusal.TheVariants.{TooManyGates}
use Rattle.std.proofs.lemmas.Bool.{ltb-false}

-- what holds of the state behind each statement
record IsSmall (s : State) : Type 0 where
  inside : Inside s.qubits s.registers
  sound : AreSound s.known
  few : s.qubits ≤ most_qubits
  none : s.began ≡ false → s.gates ≡ []
  fit : IsCircuit s.qubits s.gates
  low : t_count_of s.gates ≤ most_t_gates
  short : length s.gates ≤ most_gates
  counted : s.count ≤ most_statements

small_start : IsSmall start
small_start = record { inside = tt; sound = table_sound; few = omega arith; none = λ e. refl; fit = tt; low = omega arith; short = omega arith; counted = omega arith }

-- one register more, on more qubits
inside_more : (n m : ℕ) (rs : List Register) (r : Register) → Inside n rs → 0 < r.size → r.first + r.size ≤ n + m → Inside (n + m) (rs ++ r ∷ [])
inside_more n m [] r i some le = ((some, le), tt)
inside_more n m (x ∷ xs) r i some le = ((i.0.0, omega (arith, i.0.1)), inside_more n m xs r i.1 some le)

-- with a form's gates there are few, and its statement isn't one too many
record IsShort (s : State) (f : Option Form) : Type 0 where
  few : length s.gates + length (gates_in s f) ≤ most_gates
  counted : s.count < most_statements

-- a statement that adds nothing keeps a state small
small_counted : (s : State) → IsSmall s → s.count < most_statements → IsSmall (record s { count = s.count + 1 })
small_counted s h k =
    record { inside = h.inside; sound = h.sound; few = h.few; none = h.none; fit = h.fit; low = h.low; short = h.short; counted = omega (arith, k) }

-- nor does one that adds gates make it large
small_gates : (s : State) (added : List Gate) → IsSmall s → IsCircuit s.qubits added → t_count_of s.gates + t_count_of added ≤ most_t_gates → length s.gates + length added ≤ most_gates → s.count < most_statements
    → IsSmall (record s { began = true; gates = s.gates ++ added; count = s.count + 1 })
small_gates s added h fit low few counted =
    record {
      inside = h.inside;
      sound = h.sound;
      few = h.few;
      none = λ e. absurd (cc);
      fit = circuit_append s.qubits s.gates added h.fit fit;
      low = subst (λ (n : ℕ). n ≤ most_t_gates) (sym (t_count-append s.gates added)) low;
      short = omega (arith, few, length-append s.gates added);
      counted = omega (arith, counted);
    }

-- a statement that can be taken keeps a state small
small_after : (s : State) (f : Option Form) → IsSmall s → IsTakeable s f → IsShort s f → IsSmall (after s f)
small_after s None h t k = small_counted s h k.counted
small_after s (Some (Include text)) h t k = small_counted s h k.counted
small_after s (Some (Qreg name size)) h t k =
    let empty : s.gates ≡ [] = h.none t.0 in
    record {
      inside = inside_more s.qubits (value size) s.registers _ h.inside t.1 (omega arith);
      sound = h.sound;
      few = t.2;
      none = h.none;
      fit = subst (IsCircuit (s.qubits + value size)) (sym empty) tt;
      low = h.low;
      short = h.short;
      counted = omega (arith, k.counted);
    }
small_after s (Some (Creg name size)) h t k =
    record { inside = h.inside; sound = h.sound; few = h.few; none = h.none; fit = h.fit; low = h.low; short = h.short; counted = omega (arith, k.counted) }
small_after s (Some (Barrier args)) h t k = small_counted s h k.counted
small_after s (Some (Apply name args)) h t k = small_gates s (gates_in s (Some (Apply name args))) h t.2 t.3 k.few k.counted
small_after s (Some (Turn r a)) h t k = small_gates s (gates_in s (Some (Turn r a))) h t.2 t.3 k.few k.counted
small_after s (Some (Define name list body)) h t k =
    let good : has_bad_body s (Some (Define name list body)) ≡ false = t.1 in
    record {
      inside = h.inside;
      sound = sound_more name (defined s.known list body) s.known (t.0, body_fits s.known list body h.sound (or_false _ _ good).1) h.sound;
      few = h.few;
      none = h.none;
      fit = h.fit;
      low = h.low;
      short = h.short;
      counted = omega (arith, k.counted);
    }

-- with the gates of a form to which no row applies there are few
few_gates : (s : State) (ws : List Lexeme) (f : Option Form) → length s.gates ≤ most_gates → row_of s (record { lexemes = ws; form = f }) ≡ None → length s.gates + length (gates_in s f) ≤ most_gates
few_gates s ws None h row = omega (arith, h)
few_gates s ws (Some (Include text)) h row = omega (arith, h)
few_gates s ws (Some (Qreg name size)) h row = omega (arith, h)
few_gates s ws (Some (Creg name size)) h row = omega (arith, h)
few_gates s ws (Some (Barrier args)) h row = omega (arith, h)
few_gates s ws (Some (Define name list body)) h row = omega (arith, h)
few_gates s ws (Some (Apply name args)) h row =
    let p : Statement = record { lexemes = ws; form = Some (Apply name args) } in
    let many : has_too_many_gates s p.form ≡ false = unmet s p TooManyGates row refl in
    ltb-false _ _ many
few_gates s ws (Some (Turn r a)) h row =
    let p : Statement = record { lexemes = ws; form = Some (Turn r a) } in
    let many : has_too_many_gates s p.form ≡ false = unmet s p TooManyGates row refl in
    ltb-false _ _ many

-- a statement to which no row applies keeps a state small
small_next : (s : State) (p : Statement) → HasForm p.lexemes p.form → IsSmall s → row_of s p ≡ None → IsSmall (after s p.form)
small_next s p f h row =
    small_after s p.form h (takeable s p.lexemes p.form f h.inside h.few h.sound row)
    (record { few = few_gates s p.lexemes p.form h.short row; counted = short_before s p row })

-- the state behind all statements is small
small_scanned : (ps : List Statement) (s t : State) → AllByRecursion (λ (p : Statement). HasForm p.lexemes p.form) ps → IsSmall s → scan s ps ≡ Ok t → IsSmall t
small_scanned [] s t f h e = let same : s ≡ t = cc in subst IsSmall same h
small_scanned (p ∷ ps) s t f h e =
    elim (row_of s p) as (λ o. row_of s p ≡ o → refused_or o (place_of 0 p.lexemes) (scan (after s p.form) ps) ≡ Ok t → IsSmall t) [
      | None ↦ λ r g. small_scanned ps (after s p.form) t f.1 (small_next s p f.0 h r) g
      | Some why ↦ λ r g. absurd (cc)
    ] refl e

small : (text : List ℕ) (c : Gates) (r : Reads text c) → IsSmall r.state
small text c r = small_scanned r.list start r.state r.are.statements.forms small_start r.unrefused

pub few_qubits : (text : List ℕ) (c : Gates) → Reads text c → c.qubits ≤ most_qubits
few_qubits text c r = subst (λ (n : ℕ). n ≤ most_qubits) (sym r.qubits) (small text c r).few

pub gates_fit_qubits : (text : List ℕ) (c : Gates) → Reads text c → IsCircuit c.qubits c.gates
gates_fit_qubits text c r =
    subst (λ (n : ℕ). IsCircuit n c.gates) (sym r.qubits) (subst (IsCircuit r.state.qubits) (sym r.gates) (small text c r).fit)

pub few_t_gates : (text : List ℕ) (c : Gates) → Reads text c → t_count_of c.gates ≤ most_t_gates
few_t_gates text c r = subst (λ (gates : List Gate). t_count_of gates ≤ most_t_gates) (sym r.gates) (small text c r).low

pub few_gates_read : (text : List ℕ) (c : Gates) → Reads text c → length c.gates ≤ most_gates
few_gates_read text c r =
    subst (λ (gates : List Gate). length gates ≤ most_gates) (sym r.gates) (small text c r).short
