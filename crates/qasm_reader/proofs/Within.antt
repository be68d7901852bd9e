-- No row applies to a statement within the limits.
use Rattle.std.proofs.Common.{◌≡◌, ℕ, ◌+◌, ◌<◌, Bool, true, false, not, ◌&&◌, ◌||◌, ◌==◌, List, [], ◌∷◌, ◌++◌, length, map, Option, Some, None, arith, ap, ◌∙◌, sym, refl, subst, length-append}
use Rattle.std.specs.Prelude.{codes, is_none, nat_lt, option_map}
use Rattle.std.specs.List.{AllByRecursion, list_any, flat_map}
use Rattle.std.specs.Str.{bytes_eq}
use Rattle.std.proofs.lemmas.Bool.{eq-eqb, ne_eqb, le-ltb, lt-leb}
use Rattle.tc_circuit.specs.Model.{t_count_of}
use Rattle.qasm_lex.specs.declared.token.Kind.{Kind}
use Rattle.qasm_lex.specs.declared.token.Kind.TheVariants.{Semi, Comma, LeftParen}
use Rattle.qasm_reader.specs.declared.refusal.Refusal.{Refusal}
use Rattle.qasm_reader.specs.declared.refusal.Refusal.TheVariants.{Header, BadByte, Statement as NoStatement, UnknownGate, UnknownRegister, Index, SameQubit, Qubits, TooManyT, TooLong, NotInProfile, TwoNames, Body, TooManyGates, Angle}
use Rattle.qasm_reader.specs.Lexemes.{Lexeme, code_of, is_kind, is_ident, is_name, is_free, closer}
use Rattle.qasm_reader.specs.Forms.{Argument, Form, Include, Qreg, Apply, HasParts, Shape, shape, ident, quoted, mark, in_brackets, index_in, arguments, IsForm}
use Rattle.qasm_reader.specs.Known.{Known}
use Rattle.qasm_reader.specs.Limits.{most_qubits, most_t_gates, most_gates, most_statements}
use Rattle.qasm_reader.specs.State.{Register, value, find_register, qubits_of, gates_at}
use Rattle.qasm_reader.specs.Rows.{Statement, ends, foreign, is_beyond_bodies, is_outside_profile, has_other_arity, arity_in, has_bare, includes_other, is_outside, is_no_statement, is_not_in_profile, applies}
use Rattle.qasm_reader.specs.Within.{IsIndexed, IncludesAreTaken, RegistersAreTaken, GatesAreTaken}
use Rattle.qasm_reader.proofs.Shapes.{not_ident, not_kind, from_mark}
use Rattle.qasm_reader.proofs.Arguments.{parts, free_is}
use Rattle.qasm_reader.proofs.Grammar.{front_of, end_of, whole_is, closer_is}
use Rattle.qasm_reader.proofs.Lookups.{ends_push}
use Rattle.qasm_reader.proofs.Places.{or_false}
use Rattle.qasm_reader.proofs.Order.{all_unmet}

-- a spelled form has its end
form_ends : (ws : List Lexeme) (f : Form) → IsForm ws f → ends ws ≡ true
form_ends [] f h = absurd (none f (h.0 ∙ whole_is f))
  where
    none : (g : Form) → [] ≡ front_of g ++ mark (end_of g) ∷ [] → ⊥
    none g e = omega (arith, ap (λ (l : List Shape). length l) e, length-append (front_of g) (mark (end_of g) ∷ []))
form_ends (v ∷ vs) f h =
    let p = parts shape (v ∷ vs) (front_of f) (mark (end_of f) ∷ []) (h.0 ∙ whole_is f) in
    go p.rest p.front p.whole p.second
  where
    go : (rest front : List Lexeme) → v ∷ vs ≡ front ++ rest → map shape rest ≡ mark (end_of f) ∷ [] → ends (v ∷ vs) ≡ true
    go [] front whole second = absurd (cc)
    go (w ∷ []) front whole second =
        ends_push v vs front w whole ∙ ap (λ (k : Kind). is_kind k w) (closer_is f v vs (mark (end_of f) ∷ []) (h.0 ∙ whole_is f) h.1) ∙ from_mark w (end_of f) (cc)
    go (w ∷ u ∷ us) front whole second = absurd (cc)

-- a word that is none of a list is no lexeme's of them
none_of : (w : Lexeme) (b : List ℕ) (words : List (List ℕ)) → shape w ≡ ident b → list_any (λ text. bytes_eq b text) words ≡ false → list_any (λ text. is_ident text w) words ≡ false
none_of w b [] s e = refl
none_of w b (t ∷ ts) s e =
    let o = or_false (bytes_eq b t) _ e in
    ap (λ (x : Bool). x || list_any (λ text. is_ident text w) ts) (not_ident w b t s o.0) ∙ none_of w b ts s o.1

-- a name is no foreign word
free_at_home : (name : List ℕ) → is_free name ≡ true → list_any (λ text. bytes_eq name text) foreign ≡ false
free_at_home name e = let n = free_is name e in rw (n.1.1.1.1.1.0, n.1.1.1.1.1.1.0, n.1.1.1.1.1.1.1.0, n.1.1.1.1.1.1.1.1.0, n.1.1.1.1.1.1.1.1.1.1.0, n.1.1.1.1.1.1.1.1.1.1.1.0) refl

-- nor is it the word of a definition
no_definition : (name : List ℕ) → is_free name ≡ true → bytes_eq name (codes "gate") ≡ false
no_definition name e = let n = free_is name e in n.1.1.1.1.1.1.1.1.1.0

-- a conjunction fails by its right part
and_none : (x y : Bool) → y ≡ false → (x && y) ≡ false
and_none true y e = e
and_none false y e = refl

-- or by its left part
none_and : (x y : Bool) → x ≡ false → (x && y) ≡ false
none_and true y e = absurd (cc)
none_and false y e = refl

-- a disjunction of failing parts fails
or_none : (x y : Bool) → x ≡ false → y ≡ false → (x || y) ≡ false
or_none x y e f = rw (e, f) refl

-- a word that isn't foreign nor that of a definition, and a shape that is no parenthesis, begin a statement of the profile
at_home : (ws : List Lexeme) (f : Option Form) (b : List ℕ) (s : Shape) (more : List Shape) → map shape ws ≡ ident b ∷ s ∷ more → list_any (λ text. bytes_eq b text) foreign ≡ false → bytes_eq b (codes "gate") ≡ false
    → (code_of s.kind == code_of LeftParen) ≡ false → is_outside_profile (record { lexemes = ws; form = f }) ≡ false
at_home [] form b s more e f d k = absurd (cc)
at_home (w ∷ []) form b s more e f d k = absurd (cc)
at_home (w ∷ v ∷ vs) form b s more e f d k =
    or_none _ _ (none_of w b foreign (cc) f)
    (or_none _ _ (none_and _ _ (and_none (is_name w) _ (not_kind v s.kind LeftParen s.bytes (cc) k)))
    (none_and _ _ (ap (λ (t : Bool). t && list_any is_beyond_bodies (w ∷ v ∷ vs)) (not_ident w b (codes "gate") (cc) d))))

-- a form with its end is a statement, but for the number of its arguments
is_statement : (gate : Option ℕ) (ws : List Lexeme) (f : Form) → IsForm ws f → has_other_arity gate (Some f) ≡ false → is_no_statement gate (record { lexemes = ws; form = Some f }) ≡ false
unfolding is_no_statement
is_statement gate ws f form arity = or_none _ _ (ap not (form_ends ws f form)) (or_none _ _ refl arity)

-- a form that begins at home is in the profile, but for its text and its arguments
is_in_profile : (gate : Option ℕ) (ws : List Lexeme) (f : Form) → is_outside_profile (record { lexemes = ws; form = Some f }) ≡ false → includes_other (Some f) ≡ false → has_bare gate (Some f) ≡ false
    → is_not_in_profile gate (record { lexemes = ws; form = Some f }) ≡ false
unfolding is_not_in_profile
is_in_profile gate ws f home text bare = or_none _ _ (and_none (ends ws) _ home) (or_none _ _ text bare)

-- an include of the library
pub includes_are_taken : IncludesAreTaken
includes_are_taken s ws form short = all_unmet s p row
  where
    p : Statement
    p = record { lexemes = ws; form = Some (Include (codes "\"qelib1.inc\"")) }

    row : (why : Refusal) → applies s p why ≡ false
    row Header = refl
    row BadByte = refl
    row NoStatement = is_statement None ws (Include (codes "\"qelib1.inc\"")) form refl
    row NotInProfile = is_in_profile None ws (Include (codes "\"qelib1.inc\"")) (at_home ws (Some (Include (codes "\"qelib1.inc\""))) (codes "include") (quoted (codes "\"qelib1.inc\"")) (mark Semi ∷ []) form.0 refl refl refl) refl refl
    row TwoNames = refl
    row Body = refl
    row UnknownGate = refl
    row Angle = refl
    row UnknownRegister = refl
    row Index = refl
    row SameQubit = refl
    row Qubits = refl
    row TooManyT = refl
    row TooManyGates = refl
    row TooLong = lt-leb most_statements s.count short

-- a register of qubits
pub registers_are_taken : RegistersAreTaken
registers_are_taken s ws name size form new = all_unmet s p row
  where
    p : Statement
    p = record { lexemes = ws; form = Some (Qreg name size) }

    row : (why : Refusal) → applies s p why ≡ false
    row Header = refl
    row BadByte = refl
    row NoStatement = is_statement None ws (Qreg name size) form refl
    row NotInProfile = is_in_profile None ws (Qreg name size) (at_home ws (Some (Qreg name size)) (codes "qreg") (ident name) (in_brackets size ++ mark Semi ∷ []) form.0 refl refl refl) refl refl
    row TwoNames = or_none _ _ new.named new.began
    row Body = refl
    row UnknownGate = refl
    row Angle = refl
    row UnknownRegister = refl
    row Index = or_none _ _ (ne_eqb (value size) 0 (λ e. omega (arith, e, new.some))) refl
    row SameQubit = refl
    row Qubits = le-ltb most_qubits _ new.few
    row TooManyT = refl
    row TooManyGates = refl
    row TooLong = lt-leb most_statements s.count new.short

-- arguments begin with a name
arguments_begin : (args : List Argument) → 0 < length args → (name : List ℕ) × (more : List Shape) × (arguments args ≡ ident name ∷ more)
unfolding arguments
arguments_begin [] h = absurd (omega arith)
arguments_begin (a ∷ []) h = (a.name, index_in a.index, refl)
arguments_begin (a ∷ b ∷ args) h = (a.name, index_in a.index ++ mark Comma ∷ arguments (b ∷ args), refl)

-- a gate's statement begins at home
gate_at_home : (ws : List Lexeme) (name : List ℕ) (args : List Argument) → IsForm ws (Apply name args) → is_outside_profile (record { lexemes = ws; form = Some (Apply name args) }) ≡ false
gate_at_home ws name args form =
    let first = arguments_begin args form.1.1.0 in
    at_home ws (Some (Apply name args)) name (ident first.0) (first.1 ++ mark Semi ∷ []) (form.0 ∙ ap (λ (l : List Shape). (ident name ∷ l) ++ mark Semi ∷ []) first.2) (free_at_home name form.1.0) (no_definition name form.1.0) refl

-- arguments with an index have no bare one
none_bare : (rs : List Register) (args : List Argument) → AllByRecursion (IsIndexed rs) args → list_any (λ a. is_none a.index) args ≡ false
none_bare rs [] i = refl
none_bare rs (a ∷ args) i = or_none _ _ (ap is_none i.0.index) (none_bare rs args i.1)

-- their registers are found
none_unfound : (rs : List Register) (args : List Argument) → AllByRecursion (IsIndexed rs) args → list_any (λ a. is_none (find_register rs a.name)) args ≡ false
none_unfound rs [] i = refl
none_unfound rs (a ∷ args) i = or_none _ _ (ap is_none i.0.found) (none_unfound rs args i.1)

-- and they are inside
none_outside : (rs : List Register) (args : List Argument) → AllByRecursion (IsIndexed rs) args → list_any (λ a. is_outside (find_register rs a.name) a.index) args ≡ false
none_outside rs [] i = refl
none_outside rs (a ∷ args) i =
    let inside : is_outside (find_register rs a.name) a.index ≡ false =
    ap (λ (o : Option Register). is_outside o a.index) i.0.found ∙ ap (is_outside (Some i.0.register)) i.0.index ∙ lt-leb i.0.register.size (value i.0.digits) i.0.below in
    or_none _ _ inside (none_outside rs args i.1)

-- a known gate
pub gates_are_taken : GatesAreTaken
gates_are_taken s ws name args g form known new = all_unmet s p row
  where
    p : Statement
    p = record { lexemes = ws; form = Some (Apply name args) }

    takes : arity_in s.known (Some (Apply name args)) ≡ Some g.arity
    takes = ap (option_map (λ (x : Known). x.arity)) known

    arity : has_other_arity (Some g.arity) (Some (Apply name args)) ≡ false
    arity = ap not (eq-eqb g.arity (length args) new.arity)

    bare : has_bare (Some g.arity) (Some (Apply name args)) ≡ false
    bare = and_none _ _ (and_none _ _ (none_bare s.registers args new.indexed))

    row : (why : Refusal) → applies s p why ≡ false
    row Header = refl
    row BadByte = refl
    row NoStatement = subst (λ (o : Option ℕ). is_no_statement o p ≡ false) (sym takes) (is_statement (Some g.arity) ws (Apply name args) form arity)
    row NotInProfile = subst (λ (o : Option ℕ). is_not_in_profile o p ≡ false) (sym takes) (is_in_profile (Some g.arity) ws (Apply name args) (gate_at_home ws name args form) refl bare)
    row TwoNames = refl
    row Body = refl
    row UnknownGate = ap is_none takes
    row Angle = refl
    row UnknownRegister = none_unfound s.registers args new.indexed
    row Index = none_outside s.registers args new.indexed
    row SameQubit = new.apart
    row Qubits = refl
    row TooManyT =
        ap (λ (o : Option Known). nat_lt most_t_gates (t_count_of s.gates + t_count_of (gates_at o (flat_map (qubits_of s.registers) args)))) known
        ∙ le-ltb most_t_gates _ new.low
    row TooManyGates =
        ap (λ (o : Option Known). nat_lt most_gates (length s.gates + length (gates_at o (flat_map (qubits_of s.registers) args)))) known
        ∙ le-ltb most_gates _ new.few
    row TooLong = lt-leb most_statements s.count new.short
