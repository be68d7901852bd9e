-- Each text is read, or refused, in one way.
use Rattle.std.proofs.Common.{◌≡◌, ℕ, Bool, cond, ◌&&◌, List, [], ◌∷◌, length, map, drop, Option, Some, None, Result, Ok, Err, arith, ap, ◌∙◌, sym, refl, subst, ⊎_elim, ◌⊎◌, inl, inr}
use Rattle.std.specs.Prelude.{codes, All}
use Rattle.std.specs.List.{AllByRecursion}
use Rattle.std.specs.Str.{bytes_eq}
use Rattle.std.proofs.lemmas.Bool.{cases_eq, and_parts, and_from}
use Rattle.qasm_lex.specs.declared.token.Kind.TheVariants.{Number, Semi}
use Rattle.qasm_lex.specs.Tokens.{Bad, IsFault as IsLexFault}
use Rattle.qasm_lex.specs.declared.token.Token.{Token}
use Rattle.qasm_lex.specs.declared.fault.LexFault.{LexFault}
use Rattle.qasm_lex.specs.declared.fault.LexFault.TheVariants.{BadByte as BadByteAt, Memory as NoMemory}
use Rattle.qasm_lex.proofs.Cutting.{tokens_unique, bad_unique, never_both, tokens_or_bad}
use Rattle.tc_circuit.specs.Circuit.{Gates}
use Rattle.qasm_reader.specs.declared.fault.ReadFault.{ReadFault}
use Rattle.qasm_reader.specs.declared.fault.ReadFault.TheVariants.{Refused as Refusing, Memory}
use Rattle.qasm_reader.specs.declared.refusal.Refusal.{Refusal}
use Rattle.qasm_reader.specs.declared.refusal.Refusal.TheVariants.{Header, BadByte, Qubits}
use Rattle.qasm_reader.specs.Lexemes.{Lexeme, lexeme_of, statements, is_ident, is_kind}
use Rattle.qasm_reader.specs.Forms.{HasForm}
use Rattle.qasm_reader.specs.Parse.{form_of, headed_at}
use Rattle.qasm_reader.specs.State.{State, start}
use Rattle.qasm_reader.specs.Refusals.{number_of, fault_of}
use Rattle.qasm_reader.specs.Rows.{Statement}
use Rattle.qasm_reader.specs.Read.{IsHeaded, place_of, Refuser, scan, HasLexemes, HasStatements, Reads, RefusedFor, Refused, IsBad, IsHeadless, IsRefused, IsEmpty, IsFault}
use Rattle.qasm_reader.specs.Run.{stated, IsScanFault}
use Rattle.qasm_reader.proofs.Arguments.{chosen}
use Rattle.qasm_reader.proofs.Grammar.{has_form, same_form}
use Rattle.qasm_reader.proofs.Shapes.{to_ident, from_ident, to_mark, from_mark, to_number, from_number}

-- statements with the forms that are computed have their forms
stated_are : (wss : List (List Lexeme)) → (map (λ (p : Statement). p.lexemes) (stated wss) ≡ wss) × AllByRecursion (λ (p : Statement). HasForm p.lexemes p.form) (stated wss)
stated_are [] = (refl, tt)
stated_are (ws ∷ wss) = let more = stated_are wss in (ap (λ (l : List (List Lexeme)). ws ∷ l) more.0, (has_form ws, more.1))

-- statements that have their forms are those with the forms that are computed
stated_is : (wss : List (List Lexeme)) (ps : List Statement) → map (λ (p : Statement). p.lexemes) ps ≡ wss → AllByRecursion (λ (p : Statement). HasForm p.lexemes p.form) ps → ps ≡ stated wss
stated_is [] [] e f = refl
stated_is [] (p ∷ ps) e f = absurd (cc)
stated_is (ws ∷ wss) [] e f = absurd (cc)
stated_is (ws ∷ wss) (p ∷ ps) e f =
    let more = stated_is wss ps (cc) f.1 in
    let same : p.lexemes ≡ ws = cc in
    let form : p.form ≡ form_of ws = same_form p.lexemes p.form f.0 ∙ ap form_of same in
    let one : p ≡ record { lexemes = ws; form = form_of ws } = λ i. record { lexemes = same i; form = form i } in
    cc (one, more)

-- a text has one list of lexemes
pub lexemes_same : (text : List ℕ) (ws vs : List Lexeme) → HasLexemes text ws → HasLexemes text vs → ws ≡ vs
lexemes_same text ws vs a b = a.2 ∙ ap (map (lexeme_of text)) (tokens_unique text a.0 b.0 a.1 b.1) ∙ sym b.2

-- a text with a bad byte has no lexemes
pub no_lexemes : (text : List ℕ) (p : ℕ) (ws : List Lexeme) → Bad text p → HasLexemes text ws → ⊥
no_lexemes text p ws b w = never_both text w.0 p w.1 b

-- a header is three lexemes
headed_same : (ws rest : List Lexeme) → IsHeaded ws rest → rest ≡ drop 3 ws
headed_same ws rest ([], e, h) = absurd (cc)
headed_same ws rest (a ∷ [], e, h) = absurd (cc)
headed_same ws rest (a ∷ b ∷ [], e, h) = absurd (cc)
headed_same ws rest (a ∷ b ∷ c ∷ [], e, h) = sym (ap (λ (l : List Lexeme). drop 3 l) e)
headed_same ws rest (a ∷ b ∷ c ∷ d ∷ ds, e, h) = absurd (cc)

-- a text has one list of statements
statements_same : (text : List ℕ) (ps qs : List Statement) → HasStatements text ps → HasStatements text qs → ps ≡ qs
statements_same text ps qs a b =
    let lexemes = lexemes_same text a.lexemes b.lexemes a.has b.has in
    let rest : a.rest ≡ b.rest = headed_same a.lexemes a.rest a.headed ∙ ap (λ (l : List Lexeme). drop 3 l) lexemes ∙ sym (headed_same b.lexemes b.rest b.headed) in
    stated_is _ ps a.statements.cut a.statements.forms ∙ ap (λ (l : List Lexeme). stated (statements l)) rest ∙ sym (stated_is _ qs b.statements.cut b.statements.forms)

-- the header
pub headed_is : (ws rest : List Lexeme) → headed_at ws ≡ Some rest → IsHeaded ws rest
unfolding headed_at
headed_is [] rest e = absurd (cc)
headed_is (a ∷ []) rest e = absurd (cc)
headed_is (a ∷ b ∷ []) rest e = absurd (cc)
headed_is (a ∷ b ∷ c ∷ ws) rest e =
    let t = chosen _ _ _ e in
    let p = and_parts (is_ident (codes "OPENQASM") a) _ t.0 in
    let q = and_parts (is_kind Number b && bytes_eq b.bytes (codes "2.0")) (is_kind Semi c) p.1 in
    let x = to_ident a (codes "OPENQASM") p.0 in
    let y = to_number b (codes "2.0") q.0 in
    let z = to_mark c Semi refl q.1 in
    (a ∷ b ∷ c ∷ [], ap (λ (l : List Lexeme). a ∷ b ∷ c ∷ l) t.1, cc (x, y, z))

-- a header that is there is found
pub is_headed : (ws rest : List Lexeme) → IsHeaded ws rest → headed_at ws ≡ Some rest
unfolding headed_at
is_headed ws rest ([], e, h) = absurd (cc)
is_headed ws rest (a ∷ [], e, h) = absurd (cc)
is_headed ws rest (a ∷ b ∷ [], e, h) = absurd (cc)
is_headed ws rest (a ∷ b ∷ c ∷ [], e, h) =
    let x = from_ident a (codes "OPENQASM") (cc) in
    let y = from_number b (codes "2.0") (cc) in
    let z = from_mark c Semi (cc) in
    ap headed_at e ∙ ap (λ (t : Bool). cond t (Some rest) None) (and_from _ _ x (and_from _ _ y z))
is_headed ws rest (a ∷ b ∷ c ∷ d ∷ ds, e, h) = absurd (cc)

-- a refusal
abbrev refusal : Refusal → ℕ → Result Gates Refuser
refusal why place = Err (record { refusal = why; place = place })

-- one reason at one place is one refusal
same_refusal : (why how : Refusal) (p q : ℕ) → why ≡ how → p ≡ q → refusal why p ≡ refusal how q
same_refusal why how p q a b = λ i. Err (record { refusal = a i; place = b i })

-- what the outcome says of the text
abbrev pub Holds : List ℕ → Result Gates Refuser → Type 0
Holds text (Ok c) = Reads text c
Holds text (Err x) = RefusedFor text x.refusal x.place

-- what the text reads as, and that it reads as nothing else
pub record Decided (text : List ℕ) : Type 0 where
  pub outcome : Result Gates Refuser
  pub holds : Holds text outcome
  pub reads : (c : Gates) → Reads text c → outcome ≡ Ok c
  pub refused : (why : Refusal) (p : ℕ) → RefusedFor text why p → outcome ≡ refusal why p

-- a bad byte
decide_bad : (text : List ℕ) (b : ℕ) → Bad text b → Decided text
decide_bad text b bad = record {
  outcome = refusal BadByte b;
  holds = IsBad bad refl;
  reads = λ c r. absurd (no_lexemes text b r.are.lexemes bad r.are.has);
  refused = go;
}
  where
    go : (why : Refusal) (p : ℕ) → RefusedFor text why p → refusal BadByte b ≡ refusal why p
    go why p (IsBad other e) = same_refusal BadByte why b p (sym e) (bad_unique text b p bad other)
    go why p (IsHeadless ws w none e f) = absurd (no_lexemes text b ws bad w)
    go why p (IsRefused ps h e) = absurd (no_lexemes text b h.lexemes bad h.has)
    go why p (IsEmpty ps h s e z f g) = absurd (no_lexemes text b h.lexemes bad h.has)

-- no header
decide_headless : (text : List ℕ) (ws : List Lexeme) → HasLexemes text ws → headed_at ws ≡ None → Decided text
decide_headless text ws w none = record {
  outcome = refusal Header (place_of (length text) ws);
  holds = IsHeadless ws w no_header refl refl;
  reads = λ c r. absurd (not_headed r.list r.are);
  refused = go;
}
  where
    no_header : (rest : List Lexeme) → IsHeaded ws rest → ⊥
    no_header rest h = let e = is_headed ws rest h in absurd (cc)

    not_headed : (ps : List Statement) → HasStatements text ps → ⊥
    not_headed ps h = no_header h.rest (subst (λ (l : List Lexeme). IsHeaded l h.rest) (lexemes_same text h.lexemes ws h.has w) h.headed)

    go : (why : Refusal) (p : ℕ) → RefusedFor text why p → refusal Header (place_of (length text) ws) ≡ refusal why p
    go why p (IsBad bad e) = absurd (no_lexemes text p ws bad w)
    go why p (IsHeadless vs v other e f) = same_refusal Header why _ p (sym e) (ap (place_of (length text)) (lexemes_same text ws vs w v) ∙ sym f)
    go why p (IsRefused ps h e) = absurd (not_headed ps h)
    go why p (IsEmpty ps h s e z f g) = absurd (not_headed ps h)

-- statements
decide_scanned : (text : List ℕ) (ps : List Statement) → HasStatements text ps → (r : Result State Refuser) → scan start ps ≡ r → Decided text
decide_scanned text ps h (Err x) e = record {
  outcome = Err x;
  holds = IsRefused ps h e;
  reads = λ c r. absurd (cc (e, r.unrefused, ap (scan start) (statements_same text ps r.list h r.are)));
  refused = go;
}
  where
    go : (why : Refusal) (p : ℕ) → RefusedFor text why p → refusal x.refusal x.place ≡ refusal why p
    go why p (IsBad bad f) = absurd (no_lexemes text p h.lexemes bad h.has)
    go why p (IsHeadless vs v none f g) = absurd (none h.rest (subst (λ (l : List Lexeme). IsHeaded l h.rest) (lexemes_same text h.lexemes vs h.has v) h.headed))
    go why p (IsRefused qs k f) = let same = ap (scan start) (statements_same text ps qs h k) in cc
    go why p (IsEmpty qs k s f z a b) = let same = ap (scan start) (statements_same text ps qs h k) in absurd (cc)
decide_scanned text ps h (Ok s) e =
    ⊎_elim
    (λ (z : s.qubits ≡ 0). record {
      outcome = refusal Qubits (length text);
      holds = IsEmpty ps h s e z refl refl;
      reads = λ c r. absurd (let same = state_same r.list r.state r.are r.unrefused in omega (arith, r.some, r.qubits, ap (λ (t : State). t.qubits) same, z));
      refused = empty;
    })
    (λ (z : s.qubits ≡ 0 → ⊥). record {
      outcome = Ok (record { qubits = s.qubits; gates = s.gates });
      holds = record { list = ps; are = h; state = s; unrefused = e; some = omega (arith, z); qubits = refl; gates = refl };
      reads = λ c r.
          let same = state_same r.list r.state r.are r.unrefused in
          let one : record { qubits = s.qubits; gates = s.gates } ≡ c =
          λ i. record { qubits = (ap (λ (t : State). t.qubits) same ∙ sym r.qubits) i; gates = (ap (λ (t : State). t.gates) same ∙ sym r.gates) i } in
          ap (λ (x : Gates). Ok x) one;
      refused = λ why p r. absurd (full z why p r);
    })
    (cases_eq s.qubits 0)
  where
    state_same : (qs : List Statement) (t : State) → HasStatements text qs → scan start qs ≡ Ok t → s ≡ t
    state_same qs t k f = let same = ap (scan start) (statements_same text ps qs h k) in cc

    headed : (vs : List Lexeme) → HasLexemes text vs → IsHeaded vs h.rest
    headed vs v = subst (λ (l : List Lexeme). IsHeaded l h.rest) (lexemes_same text h.lexemes vs h.has v) h.headed

    empty : (why : Refusal) (p : ℕ) → RefusedFor text why p → refusal Qubits (length text) ≡ refusal why p
    empty why p (IsBad bad f) = absurd (no_lexemes text p h.lexemes bad h.has)
    empty why p (IsHeadless vs v none f g) = absurd (none h.rest (headed vs v))
    empty why p (IsRefused qs k f) = let same = ap (scan start) (statements_same text ps qs h k) in absurd (cc)
    empty why p (IsEmpty qs k t f y a b) = same_refusal Qubits why (length text) p (sym a) (sym b)

    full : (s.qubits ≡ 0 → ⊥) → (why : Refusal) (p : ℕ) → RefusedFor text why p → ⊥
    full z why p (IsBad bad f) = no_lexemes text p h.lexemes bad h.has
    full z why p (IsHeadless vs v none f g) = none h.rest (headed vs v)
    full z why p (IsRefused qs k f) = let same = ap (scan start) (statements_same text ps qs h k) in absurd (cc)
    full z why p (IsEmpty qs k t f y a b) = z (ap (λ (u : State). u.qubits) (state_same qs t k f) ∙ y)

-- the statements behind a header
pub stated_behind : (text : List ℕ) (ws rest : List Lexeme) → HasLexemes text ws → headed_at ws ≡ Some rest → HasStatements text (stated (statements rest))
stated_behind text ws rest w e = record {
  lexemes = ws;
  has = w;
  rest = rest;
  headed = headed_is ws rest e;
  statements = let are = stated_are (statements rest) in record { cut = are.0; forms = are.1 };
}

-- lexemes
decide_lexemes : (text : List ℕ) (ws : List Lexeme) → HasLexemes text ws → Decided text
decide_lexemes text ws w = go (headed_at ws) refl
  where
    go : (o : Option (List Lexeme)) → headed_at ws ≡ o → Decided text
    go None e = decide_headless text ws w e
    go (Some rest) e = decide_scanned text (stated (statements rest)) (stated_behind text ws rest w e) (scan start (stated (statements rest))) refl

-- every text has an outcome
pub decided : (text : List ℕ) → Decided text
decided text =
    ⊎_elim
    (λ (ts, t). decide_lexemes text (map (lexeme_of text) ts) (ts, t, refl))
    (λ (p, b). decide_bad text p b)
    (tokens_or_bad text)

-- every text reads as a circuit or is refused
pub some_outcome : (text : List ℕ) → ((c : Gates) × Reads text c) ⊎ ((n : ℕ) × (p : ℕ) × Refused text n p)
some_outcome text = let d = decided text in go d.outcome d.holds
  where
    go : (o : Result Gates Refuser) → Holds text o → ((c : Gates) × Reads text c) ⊎ ((n : ℕ) × (p : ℕ) × Refused text n p)
    go (Ok c) h = inl (c, h)
    go (Err x) h = inr (number_of x.refusal, x.place, (x.refusal, h, refl))

-- a text reads as one circuit
pub one_circuit : (text : List ℕ) (c d : Gates) → Reads text c → Reads text d → c ≡ d
one_circuit text c d a b = let o = decided text in let x = o.reads c a in let y = o.reads d b in cc

-- one refusal has one reason and one place
same_refuser : (x y : Refuser) → refusal x.refusal x.place ≡ refusal y.refusal y.place → x ≡ y
same_refuser x y e = cc

-- a text is refused with one number at one place
pub one_refusal : (text : List ℕ) (n p m q : ℕ) → Refused text n p → Refused text m q → (n ≡ m) × (p ≡ q)
one_refusal text n p m q (why, a, e) (how, b, f) =
    let o = decided text in
    let same = same_refuser (record { refusal = why; place = p }) (record { refusal = how; place = q }) (sym (o.refused why p a) ∙ o.refused how q b) in
    (e ∙ ap (λ (x : Refuser). number_of x.refusal) same ∙ sym f, ap (λ (x : Refuser). x.place) same)

-- a text that reads as a circuit isn't refused
pub not_both : (text : List ℕ) (c : Gates) (n p : ℕ) → Reads text c → Refused text n p → ⊥
not_both text c n p a (why, b, e) = let o = decided text in let x = o.reads c a in let y = o.refused why p b in absurd (cc)

-- the fault of a text without tokens
pub lex_fault : (text : List ℕ) (f : LexFault) → IsLexFault text f → IsFault text (fault_of f)
lex_fault text (BadByteAt p) h = (BadByte, IsBad h refl, refl)
lex_fault text NoMemory h = tt

-- the fault of a text with a statement to which a row applies
pub scan_fault : (text : List ℕ) (ws : List Lexeme) (e : ReadFault) → HasStatements text (stated (statements ws)) → IsScanFault ws e → IsFault text e
scan_fault text ws (Refusing n p) h (why, scanned, number) = (why, IsRefused (stated (statements ws)) h scanned, number)
scan_fault text ws Memory h e = tt
