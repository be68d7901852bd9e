-- The statement of a gate of a print: its lexemes, its form, and the gate that it adds.
use Rattle.std.proofs.Common.{◌≡◌, ◌≢◌, ℕ, zero, suc, ◌+◌, ◌<◌, ◌≤◌, Bool, true, false, cond, List, [], ◌∷◌, ◌++◌, Option, Some, arith, ap, ◌∙◌, sym, refl, subst}
use Rattle.std.specs.Prelude.{codes, nat_lt, length}
use Rattle.std.specs.Str.{bytes_eq}
use Rattle.std.specs.List.{flat_map}
use Rattle.std.proofs.lemmas.Bool.{lt-ltb, ne_eqb}
use Rattle.tc_circuit.specs.Model.{t_count_of}
use Rattle.tc_circuit.specs.declared.circuit.Gate.{Gate}
use Rattle.tc_circuit.specs.declared.circuit.Gate.TheVariants.{Cx}
use Rattle.qasm_lex.specs.declared.token.Kind.TheVariants.{Ident, Number, Semi, Comma, LeftBracket, RightBracket}
use Rattle.qasm_reader.specs.Lexemes.{Lexeme, is_free, is_whole, is_reserved, cut_behind, statements}
use Rattle.qasm_reader.specs.Forms.{Argument, Apply, arguments, IsForm}
use Rattle.qasm_reader.specs.Known.{Known, known, on_one, on_two}
use Rattle.qasm_reader.specs.Limits.{most_t_gates, most_gates, most_statements}
use Rattle.qasm_reader.specs.State.{Register, State, with_name, value, qubits_of, placed, expanded, gates_at, gates_in}
use Rattle.qasm_reader.specs.Rows.{has_twins}
use Rattle.qasm_reader.specs.Within.{IsIndexed, GatesAreTaken}
use Rattle.printed_texts.proofs.Lexed.{lexeme, Lexed, weaker}
use Rattle.printed_texts.proofs.Scanned.{Reaches, one_more}

-- the places of the tokens of `q[0]`
pub record Places : Type 0 where
  pub name : ℕ
  pub left : ℕ
  pub index : ℕ
  pub right : ℕ

-- a qubit of the register q, before other lexemes
abbrev pub qubit : ℕ → Places → List Lexeme → List Lexeme
qubit q p ws = lexeme Ident (codes "q") p.name ∷ lexeme LeftBracket (codes "[") p.left ∷ lexeme Number ((48 + q) ∷ []) p.index ∷ lexeme RightBracket (codes "]") p.right ∷ ws

-- the end of a statement
abbrev pub end : ℕ → List Lexeme
end place = lexeme Semi (codes ";") place ∷ []

-- a name and a qubit
abbrev pub single : List ℕ → ℕ → ℕ → Places → ℕ → List Lexeme
single name q at p last = lexeme Ident name at ∷ qubit q p (end last)

-- a name and two qubits
abbrev pub double : List ℕ → ℕ → ℕ → ℕ → Places → ℕ → Places → ℕ → List Lexeme
double name q r at p comma o last = lexeme Ident name at ∷ qubit q p (lexeme Comma (codes ",") comma ∷ qubit r o (end last))

-- a name and a qubit are a statement
pub single_first : (name : List ℕ) (q at : ℕ) (p : Places) (last : ℕ) (ws : List Lexeme) → bytes_eq name (codes "gate") ≡ false → statements (single name q at p last ++ ws) ≡ single name q at p last ∷ statements ws
unfolding cut_behind
single_first name q at p last ws other = rw other refl

-- a name and two qubits are a statement
pub double_first : (name : List ℕ) (q r at : ℕ) (p : Places) (comma : ℕ) (o : Places) (last : ℕ) (ws : List Lexeme)
    → bytes_eq name (codes "gate") ≡ false → statements (double name q r at p comma o last ++ ws) ≡ double name q r at p comma o last ∷ statements ws
unfolding cut_behind
double_first name q r at p comma o last ws other = rw other refl

-- the register q of n qubits
abbrev pub register : ℕ → Register
register n = record { name = codes "q"; first = 0; size = n }

-- what a scan holds behind the register q of n qubits: whether a gate was applied, the gates, and how many statements there were
abbrev pub holding : ℕ → Bool → List Gate → ℕ → State
holding n began gates count = record {
  registers = register n ∷ [];
  named = with_name (codes "q") (λ (name : List ℕ). false);
  known = known;
  qubits = n;
  began = began;
  gates = gates;
  count = count;
}

-- the argument `q[0]`
abbrev pub named : ℕ → Argument
named q = record { name = codes "q"; index = Some ((48 + q) ∷ []) }

-- a digit is whole, and writes its number
pub digit_is : (q : ℕ) → q < 4 → (is_whole ((48 + q) ∷ []) ≡ true) × (value ((48 + q) ∷ []) ≡ q)
digit_is zero h = (refl, refl)
digit_is (suc zero) h = (refl, refl)
digit_is (suc (suc zero)) h = (refl, refl)
digit_is (suc (suc (suc zero))) h = (refl, refl)
digit_is (suc (suc (suc (suc q)))) h = absurd (omega arith)

-- it has an index in the register
indexed : (n q : ℕ) → q < n → q < 4 → IsIndexed (register n ∷ []) (named q)
indexed n q h small = record {
  register = register n;
  digits = (48 + q) ∷ [];
  found = refl;
  index = refl;
  below = subst (λ (v : ℕ). v < n) (sym (digit_is q small).1) h;
}

-- it names its qubit
qubit_is_named : (n q : ℕ) → q < n → q < 4 → qubits_of (register n ∷ []) (named q) ≡ q ∷ []
qubit_is_named n q h small =
    let same : 0 + q ≡ q = omega arith in
    ap (λ (v : ℕ). cond (nat_lt v n) ((0 + v) ∷ []) []) (digit_is q small).1 ∙ ap (λ (b : Bool). cond b ((0 + q) ∷ []) []) (lt-ltb q n h) ∙ ap (λ (v : ℕ). v ∷ []) same

-- the word is that of a known gate of one argument, which stands for this one gate
pub record IsSingle (name : List ℕ) (gate : ℕ → Gate) : Type 0 where
  pub is_name : is_free name ≡ true
  pub is_applied : bytes_eq name (codes "gate") ≡ false
  pub is_known : known name ≡ Some (on_one (gate 0 ∷ []))
  pub is_placed : (q : ℕ) → placed (q ∷ []) (gate 0) ≡ gate q

-- a name and a qubit are a gate on an argument
single_form : (name : List ℕ) (q at : ℕ) (p : Places) (last : ℕ) → is_free name ≡ true → q < 4 → IsForm (single name q at p last) (Apply name (named q ∷ []))
unfolding is_reserved arguments
single_form name q at p last free small = (refl, (free, (omega arith, ((refl, (digit_is q small).0), tt))))

-- a name and two qubits are a gate on two arguments
double_form : (name : List ℕ) (q r at : ℕ) (p : Places) (comma : ℕ) (o : Places) (last : ℕ) → is_free name ≡ true → q < 4 → r < 4
    → IsForm (double name q r at p comma o last) (Apply name (named q ∷ named r ∷ []))
unfolding is_reserved arguments
double_form name q r at p comma o last free small low = (refl, (free, (omega arith, ((refl, (digit_is q small).0), ((refl, (digit_is r low).0), tt)))))

-- the statement adds the gate
abbrev Adds : ℕ → Bool → List Gate → ℕ → List ℕ → List Argument → Gate → Type 0
Adds n began gates count name args g = gates_in (holding n began gates count) (Some (Apply name args)) ≡ g ∷ []

-- from the register's state on the lexemes reach the gates
abbrev pub ReachesFrom : ℕ → List Gate → Bool → List Gate → ℕ → List Lexeme → Type 0
ReachesFrom n all began gates count ws = Reaches n all (holding n began gates count) ws

-- a gate on one qubit, and the statements behind it
pub single_more : GatesAreTaken → (n : ℕ) (all : List Gate) (name : List ℕ) (gate : ℕ → Gate) (q at : ℕ) (p : Places) (last : ℕ) (began : Bool) (gates : List Gate) (count : ℕ) → IsSingle name gate → q < n → q < 4
    → t_count_of gates + t_count_of (gate q ∷ []) ≤ most_t_gates → length gates < most_gates → count < most_statements
    → {rest : List ℕ} → Lexed rest (ReachesFrom n all true (gates ++ gate q ∷ []) (count + 1)) → Lexed rest (λ ws. ReachesFrom n all began gates count (single name q at p last ++ ws))
single_more law n all name gate q at p last began gates count is h small t many short more =
    let s : State = holding n began gates count in
    let qs : flat_map (qubits_of (register n ∷ [])) (named q ∷ []) ≡ q ∷ [] = ap (λ (l : List ℕ). l ++ []) (qubit_is_named n q h small) in
    let g : Known = on_one (gate 0 ∷ []) in
    let added : expanded g (flat_map (qubits_of (register n ∷ [])) (named q ∷ [])) ≡ gate q ∷ [] = ap (expanded g) qs ∙ ap (λ (x : Gate). x ∷ []) (is.is_placed q) in
    let adds : Adds n began gates count name (named q ∷ []) (gate q) = ap (λ (o : Option Known). gates_at o (flat_map (qubits_of (register n ∷ [])) (named q ∷ []))) is.is_known ∙ added in
    let form = single_form name q at p last is.is_name small in
    let taken = law s (single name q at p last) name (named q ∷ []) g form is.is_known record {
      arity = refl;
      indexed = (indexed n q h small, tt);
      apart = ap has_twins qs;
      low = subst (λ (gs : List Gate). t_count_of gates + t_count_of gs ≤ most_t_gates) (sym added) t;
      few = subst (λ (gs : List Gate). length gates + length gs ≤ most_gates) (sym added) (omega (arith, many));
      short = short;
    } in
    weaker (λ ws r. one_more n all s (holding n true (gates ++ gate q ∷ []) (count + 1)) (single name q at p last) ws (Apply name (named q ∷ [])) (single_first name q at p last ws is.is_applied) form taken
    (ap (λ (gs : List Gate). holding n true (gates ++ gs) (count + 1)) adds) r) more

-- a cx, and the statements behind it
pub cx_more : GatesAreTaken → (n : ℕ) (all : List Gate) (q r at : ℕ) (p : Places) (comma : ℕ) (o : Places) (last : ℕ) (began : Bool) (gates : List Gate) (count : ℕ) → q < n → q < 4 → r < n → r < 4 → q ≢ r
    → t_count_of gates + t_count_of (Cx q r ∷ []) ≤ most_t_gates → length gates < most_gates → count < most_statements
    → {rest : List ℕ} → Lexed rest (ReachesFrom n all true (gates ++ Cx q r ∷ []) (count + 1)) → Lexed rest (λ ws. ReachesFrom n all began gates count (double (codes "cx") q r at p comma o last ++ ws))
unfolding is_reserved known
cx_more law n all q r at p comma o last began gates count h small k low apart t many short more =
    let s : State = holding n began gates count in
    let qs : flat_map (qubits_of (register n ∷ [])) (named q ∷ named r ∷ []) ≡ q ∷ r ∷ [] =
    ap (λ (l : List ℕ). l ++ (qubits_of (register n ∷ []) (named r) ++ [])) (qubit_is_named n q h small) ∙ ap (λ (l : List ℕ). q ∷ (l ++ [])) (qubit_is_named n r k low) in
    let g : Known = on_two (Cx 0 1 ∷ []) in
    let added : expanded g (flat_map (qubits_of (register n ∷ [])) (named q ∷ named r ∷ [])) ≡ Cx q r ∷ [] = ap (expanded g) qs in
    let differ : has_twins (q ∷ r ∷ []) ≡ false = rw (ne_eqb r q (λ e. apart (sym e))) refl in
    let form = double_form (codes "cx") q r at p comma o last refl small low in
    let taken = law s (double (codes "cx") q r at p comma o last) (codes "cx") (named q ∷ named r ∷ []) g form refl record {
      arity = refl;
      indexed = (indexed n q h small, (indexed n r k low, tt));
      apart = ap has_twins qs ∙ differ;
      low = subst (λ (gs : List Gate). t_count_of gates + t_count_of gs ≤ most_t_gates) (sym added) t;
      few = subst (λ (gs : List Gate). length gates + length gs ≤ most_gates) (sym added) (omega (arith, many));
      short = short;
    } in
    weaker (λ ws r'. one_more n all s (holding n true (gates ++ Cx q r ∷ []) (count + 1)) (double (codes "cx") q r at p comma o last) ws (Apply (codes "cx") (named q ∷ named r ∷ []))
    (double_first (codes "cx") q r at p comma o last ws refl) form taken (ap (λ (gs : List Gate). holding n true (gates ++ gs) (count + 1)) added) r') more
