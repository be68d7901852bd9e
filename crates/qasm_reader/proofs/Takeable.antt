-- A statement to which no row applies can be taken: its gates fit the qubits, and they have few T gates.
use Rattle.std.proofs.Common.{◌≡◌, ◌≢◌, ℕ, zero, suc, ◌+◌, ◌<◌, ◌≤◌, Bool, true, false, cond, not, ◌||◌, ◌&&◌, ◌==◌, List, [], ◌∷◌, ◌++◌, length, map, get_or, Option, Some, None, arith, ap, ◌∙◌, sym, refl, subst, ⊎_elim, length-append}
use Rattle.std.specs.Prelude.{nat_lt, is_none, option_map, IfSome}
use Rattle.std.specs.List.{AllByRecursion, list_all, list_any, flat_map, range_with_len}
use Rattle.std.specs.Str.{bytes_eq}
use Rattle.std.proofs.lemmas.Bool.{cases_Bool, and_parts, eqb-true, eqb-false, ltb-true, ltb-false, leb-false, lt-ltb, eq-eqb, not-true, not-false}
use Rattle.std.proofs.lemmas.List.{length-map}
use Rattle.tc_circuit.specs.declared.circuit.Gate.{Gate}
use Rattle.tc_circuit.specs.declared.circuit.Gate.TheVariants.{H, S, Sdg, T, Tdg, Cx}
use Rattle.tc_circuit.specs.Gate.{Fits}
use Rattle.tc_circuit.specs.Model.{IsCircuit}
use Rattle.qasm_reader.specs.declared.refusal.Refusal.TheVariants.{Statement as NoStatement, NotInProfile, TwoNames, Body, UnknownRegister, Index, SameQubit, Qubits, TooManyT, TooManyGates, TooLong}
use Rattle.qasm_reader.specs.Limits.{most_qubits, most_statements, most_gates_defined}
use Rattle.qasm_reader.specs.Lexemes.{Lexeme}
use Rattle.qasm_angle.specs.declared.angles.AngleValue.{AngleValue}
use Rattle.qasm_angle.specs.declared.angles.AngleValue.TheVariants.{Eighths, Inexact, NotAngle}
use Rattle.qasm_reader.specs.Forms.{Argument, bare, Entry, Bar, Call, Spin, Form, Include, Qreg, Creg, Barrier, Apply, Turn, Define, HasForm}
use Rattle.qasm_reader.specs.Known.{Known, look_up, table, known, turn, turned}
use Rattle.qasm_reader.specs.State.{Register, State, value, find_register, qubits_in, qubits_at, qubits_of, placed, expanded, gates_at, place_among, called, entry_gates, with_gate}
use Rattle.qasm_reader.specs.Rows.{Statement, row_of, takes_other, takes_bare, has_other_arity, has_bare, is_outside, is_no_statement, is_not_in_profile, is_taken, has_stranger, is_bad_call, is_bad_entry, has_bad_body, has_no_register, has_bad_index, names_twice, has_twins, has_too_many_qubits, has_too_many_t, has_too_many_gates, arity_in}
use Rattle.qasm_reader.specs.Run.{IsTakeable}
use Rattle.qasm_reader.proofs.Registers.{Inside}
use Rattle.qasm_reader.proofs.Order.{unmet}
use Rattle.qasm_reader.proofs.Places.{or_false, place_below, places_below, places_apart}

-- a test that decides whether a gate fits
fits : ℕ → Gate → Bool
fits k (H a) = nat_lt a k
fits k (S a) = nat_lt a k
fits k (Sdg a) = nat_lt a k
fits k (T a) = nat_lt a k
fits k (Tdg a) = nat_lt a k
fits k (Cx a b) = nat_lt a k && (nat_lt b k && not (a == b))

-- a gate that passes the test fits
fits_is : (k : ℕ) (g : Gate) → fits k g ≡ true → Fits k g
unfolding fits
fits_is k (H a) e = ltb-true _ _ e
fits_is k (S a) e = ltb-true _ _ e
fits_is k (Sdg a) e = ltb-true _ _ e
fits_is k (T a) e = ltb-true _ _ e
fits_is k (Tdg a) e = ltb-true _ _ e
fits_is k (Cx a b) e =
    let p = and_parts (nat_lt a k) _ e in
    let q = and_parts (nat_lt b k) _ p.1 in
    (ltb-true _ _ p.0, ltb-true _ _ q.0, eqb-false _ _ (not-true _ q.1))

-- gates that pass the test are a circuit
all_fit : (k : ℕ) (gs : List Gate) → list_all (fits k) gs ≡ true → IsCircuit k gs
all_fit k [] e = tt
all_fit k (g ∷ gs) e = let p = and_parts (fits k g) _ e in (fits_is k g p.0, all_fit k gs p.1)

-- whether a gate of the table takes an argument, and its gates fit its arguments
is_sound : Known → Bool
is_sound g = nat_lt 0 g.arity && list_all (fits g.arity) g.gates

-- what is found in a table passes the test that all in it pass
pub look_up_is : (test : Known → Bool) (es : List (List ℕ × Known)) (name : List ℕ) (g : Known) → list_all (λ e. test e.1) es ≡ true → look_up es name ≡ Some g → test g ≡ true
look_up_is test [] name g e f = absurd (cc)
look_up_is test (x ∷ xs) name g e f =
    let p = and_parts (test x.1) _ e in
    ⊎_elim
    (λ (t : bytes_eq name x.0 ≡ true). let same : Some x.1 ≡ Some g = sym (ap (λ (b : Bool). cond b (Some x.1) (look_up xs name)) t) ∙ f in let one : x.1 ≡ g = cc in subst (λ (y : Known). test y ≡ true) one p.0)
    (λ (t : bytes_eq name x.0 ≡ false). look_up_is test xs name g p.1 (sym (ap (λ (b : Bool). cond b (Some x.1) (look_up xs name)) t) ∙ f))
    (cases_Bool (bytes_eq name x.0))

-- each known gate takes an argument, and its gates fit its arguments
abbrev pub AreSound : (List ℕ → Option Known) → Type 0
AreSound gates = (name : List ℕ) (g : Known) → gates name ≡ Some g → (0 < g.arity) × IsCircuit g.arity g.gates

-- those of the table do
pub table_sound : AreSound known
unfolding known is_sound fits
table_sound name g e =
    let s = look_up_is is_sound table name g refl e in
    let p = and_parts (nat_lt 0 g.arity) _ s in
    (ltb-true _ _ p.0, all_fit g.arity g.gates p.1)

-- the known gates, and one more
pub sound_more : (name : List ℕ) (g : Known) (gates : List ℕ → Option Known) → (0 < g.arity) × IsCircuit g.arity g.gates → AreSound gates → AreSound (with_gate name g gates)
sound_more name g gates h sound other k e = go (bytes_eq other name) refl e
  where
    go : (t : Bool) → bytes_eq other name ≡ t → cond t (Some g) (gates other) ≡ Some k → (0 < k.arity) × IsCircuit k.arity k.gates
    go true f same = let one : g ≡ k = cc in subst (λ (x : Known). (0 < x.arity) × IsCircuit x.arity x.gates) one h
    go false f same = sound other k same

-- the qubits are below n
abbrev Below : ℕ → List ℕ → Type 0
Below n qs = AllByRecursion (λ q. q < n) qs

-- each of them is
below_at : (n : ℕ) (qs : List ℕ) (i : ℕ) → Below n qs → i < length qs → get_or qs i 0 < n
below_at n [] i b h = absurd (omega arith)
below_at n (q ∷ qs) zero b h = b.0
below_at n (q ∷ qs) (suc i) b h = below_at n qs i b.1 (omega arith)

-- a qubit without a twin is none of the others
no_twin : (q : ℕ) (qs : List ℕ) (j : ℕ) → list_any (λ r. r == q) qs ≡ false → j < length qs → get_or qs j 0 ≢ q
no_twin q [] j e h = absurd (omega arith)
no_twin q (r ∷ rs) zero e h = eqb-false _ _ (or_false (r == q) _ e).0
no_twin q (r ∷ rs) (suc j) e h = no_twin q rs j (or_false (r == q) _ e).1 (omega arith)

-- qubits without twins differ
apart : (qs : List ℕ) (i j : ℕ) → has_twins qs ≡ false → i < length qs → j < length qs → i ≢ j → get_or qs i 0 ≢ get_or qs j 0
apart [] i j e h k n = absurd (omega arith)
apart (q ∷ qs) zero zero e h k n = absurd (n refl)
apart (q ∷ qs) zero (suc j) e h k n = λ same. no_twin q qs j (or_false _ _ e).0 (omega arith) (sym same)
apart (q ∷ qs) (suc i) zero e h k n = no_twin q qs i (or_false _ _ e).0 (omega arith)
apart (q ∷ qs) (suc i) (suc j) e h k n = apart qs i j (or_false _ _ e).1 (omega arith) (omega arith) (λ s. n (ap (λ (x : ℕ). suc x) s))

-- a gate of the arguments fits the qubits in their place
placed_fits : (n : ℕ) (qs : List ℕ) (g : Gate) → Below n qs → has_twins qs ≡ false → Fits (length qs) g → Fits n (placed qs g)
placed_fits n qs (H a) b t f = below_at n qs a b f
placed_fits n qs (S a) b t f = below_at n qs a b f
placed_fits n qs (Sdg a) b t f = below_at n qs a b f
placed_fits n qs (T a) b t f = below_at n qs a b f
placed_fits n qs (Tdg a) b t f = below_at n qs a b f
placed_fits n qs (Cx a c) b t f = (below_at n qs a b f.0, below_at n qs c b f.1, apart qs a c t f.0 f.1 f.2)

-- gates of the arguments fit the qubits in their place
circuit_placed : (n : ℕ) (qs : List ℕ) (gs : List Gate) → Below n qs → has_twins qs ≡ false → IsCircuit (length qs) gs → IsCircuit n (map (placed qs) gs)
circuit_placed n qs [] b t f = tt
circuit_placed n qs (g ∷ gs) b t f = (placed_fits n qs g b t f.0, circuit_placed n qs gs b t f.1)

-- gates of two circuits are a circuit
pub circuit_append : (n : ℕ) (xs ys : List Gate) → IsCircuit n xs → IsCircuit n ys → IsCircuit n (xs ++ ys)
circuit_append n [] ys a b = b
circuit_append n (x ∷ xs) ys a b = (a.0, circuit_append n xs ys a.1 b)

-- gates of one argument fit each qubit
circuit_each : (n : ℕ) (qs : List ℕ) (gs : List Gate) → Below n qs → IsCircuit 1 gs → IsCircuit n (flat_map (λ q. map (placed (q ∷ [])) gs) qs)
circuit_each n [] gs b f = tt
circuit_each n (q ∷ qs) gs b f = circuit_append n (map (placed (q ∷ [])) gs) _ (circuit_placed n (q ∷ []) gs (b.0, tt) refl f) (circuit_each n qs gs b.1 f)

-- the qubits of two lists are below n
below_append : (n : ℕ) (xs ys : List ℕ) → Below n xs → Below n ys → Below n (xs ++ ys)
below_append n [] ys a b = b
below_append n (x ∷ xs) ys a b = (a.0, below_append n xs ys a.1 b)

-- the qubits of a register are below n
range_below : (n size first : ℕ) → first + size ≤ n → Below n (range_with_len first size)
range_below n zero first h = tt
range_below n (suc size) first h = (omega arith, range_below n size (first + 1) (omega arith))

-- a register that is found lies below n
pub found_inside : (n : ℕ) (rs : List Register) (name : List ℕ) (r : Register) → Inside n rs → find_register rs name ≡ Some r → (0 < r.size) × (r.first + r.size ≤ n)
found_inside n [] name r i e = absurd (cc)
found_inside n (x ∷ xs) name r i e =
    ⊎_elim
    (λ (t : bytes_eq x.name name ≡ true). let same : Some x ≡ Some r = sym (ap (λ (b : Bool). cond b (Some x) (find_register xs name)) t) ∙ e in let one : x ≡ r = cc in subst (λ (y : Register). (0 < y.size) × (y.first + y.size ≤ n)) one i.0)
    (λ (t : bytes_eq x.name name ≡ false). found_inside n xs name r i.1 (sym (ap (λ (b : Bool). cond b (Some x) (find_register xs name)) t) ∙ e))
    (cases_Bool (bytes_eq x.name name))

-- the qubits that an argument names in a register are below n
in_below : (n : ℕ) (r : Register) (o : Option (List ℕ)) → r.first + r.size ≤ n → Below n (qubits_in r o)
in_below n r None h = range_below n r.size r.first h
in_below n r (Some d) h = go (nat_lt (value d) r.size) refl
  where
    go : (t : Bool) → nat_lt (value d) r.size ≡ t → Below n (cond t ((r.first + value d) ∷ []) [])
    go true e = let l = ltb-true _ _ e in (omega arith, tt)
    go false e = tt

-- the qubits that arguments name are below n
of_below : (n : ℕ) (rs : List Register) (args : List Argument) → Inside n rs → Below n (flat_map (qubits_of rs) args)
of_below n rs [] i = tt
of_below n rs (a ∷ args) i = below_append n (qubits_of rs a) _ (go (find_register rs a.name) refl) (of_below n rs args i)
  where
    go : (o : Option Register) → find_register rs a.name ≡ o → Below n (qubits_at o a.index)
    go None e = tt
    go (Some r) e = in_below n r a.index (found_inside n rs a.name r i e).1

-- with an index each, arguments name as many qubits as they are
one_each : (rs : List Register) (args : List Argument) → list_any (λ a. is_none (find_register rs a.name)) args ≡ false
    → list_any (λ a. is_outside (find_register rs a.name) a.index) args ≡ false → list_any (λ a. is_none a.index) args ≡ false
    → length (flat_map (qubits_of rs) args) ≡ length args
one_each rs [] a b c = refl
one_each rs (x ∷ xs) a b c =
    let p = or_false _ _ a in
    let q = or_false _ _ b in
    let r = or_false _ _ c in
    let more = one_each rs xs p.1 q.1 r.1 in
    let one = go (find_register rs x.name) x.index p.0 q.0 r.0 in
    omega (arith, length-append (qubits_of rs x) (flat_map (qubits_of rs) xs), one, more)
  where
    go : (o : Option Register) (i : Option (List ℕ)) → is_none o ≡ false → is_outside o i ≡ false → is_none i ≡ false → length (qubits_at o i) ≡ 1
    go None i p q r = absurd (cc)
    go (Some y) None p q r = absurd (cc)
    go (Some y) (Some d) p q r = ap (λ (t : Bool). length (cond t ((y.first + value d) ∷ []) [])) (lt-ltb _ _ (leb-false _ _ q))

-- where three tests fail together and two hold the third fails
third : (a b c : Bool) → a ≡ true → b ≡ true → (a && (b && c)) ≡ false → c ≡ false
third true true c p q r = r
third true false c p q r = absurd (cc)
third false b c p q r = absurd (cc)

-- the gates of a statement to which no row applies
expanded_fits : (n : ℕ) (rs : List Register) (args : List Argument) (g : Known) → Inside n rs → (0 < g.arity) × IsCircuit g.arity g.gates
    → takes_other (Some g.arity) (length args) ≡ false → takes_bare (Some g.arity) args ≡ false
    → list_any (λ a. is_none (find_register rs a.name)) args ≡ false → list_any (λ a. is_outside (find_register rs a.name) a.index) args ≡ false
    → has_twins (flat_map (qubits_of rs) args) ≡ false → IsCircuit n (expanded g (flat_map (qubits_of rs) args))
expanded_fits n rs args g i k other bare reg out twins = go (g.arity == 1) refl
  where
    qs : List ℕ
    qs = flat_map (qubits_of rs) args

    count : g.arity ≡ length args
    count = eqb-true _ _ (not-false _ other)

    no_bare : 1 < g.arity → list_any (λ a. is_none a.index) args ≡ false
    no_bare h = third (nat_lt 1 g.arity) (g.arity == length args) _ (lt-ltb _ _ h) (eq-eqb _ _ count) bare

    go : (t : Bool) → (g.arity == 1) ≡ t → IsCircuit n (cond t (flat_map (λ q. map (placed (q ∷ [])) g.gates) qs) (map (placed qs) g.gates))
    go true e = circuit_each n qs g.gates (of_below n rs args i) (subst (λ (k : ℕ). IsCircuit k g.gates) (eqb-true _ _ e) k.1)
    go false e =
        let not_one = eqb-false g.arity 1 e in
        let many : 1 < g.arity = omega (arith, k.0, not_one) in
        let size : g.arity ≡ length qs = count ∙ sym (one_each rs args reg out (no_bare many)) in
        circuit_placed n qs g.gates (of_below n rs args i) twins (subst (λ (k : ℕ). IsCircuit k g.gates) size k.1)

-- different numbers below 3 are at most 3
few_apart : (qs : List ℕ) → Below 3 qs → has_twins qs ≡ false → length qs ≤ 3
few_apart [] b t = omega arith
few_apart (p ∷ []) b t = omega arith
few_apart (p ∷ q ∷ []) b t = omega arith
few_apart (p ∷ q ∷ r ∷ []) b t = omega arith
few_apart (p ∷ q ∷ r ∷ s ∷ rest) b t =
    let qs = p ∷ q ∷ r ∷ s ∷ rest in
    absurd (none p q r s b.0 b.1.0 b.1.1.0 b.1.1.1.0
    (apart qs 0 1 t (omega arith) (omega arith) (omega arith)) (apart qs 0 2 t (omega arith) (omega arith) (omega arith)) (apart qs 0 3 t (omega arith) (omega arith) (omega arith))
    (apart qs 1 2 t (omega arith) (omega arith) (omega arith)) (apart qs 1 3 t (omega arith) (omega arith) (omega arith)) (apart qs 2 3 t (omega arith) (omega arith) (omega arith)))
  where
    none : (p q r s : ℕ) → p < 3 → q < 3 → r < 3 → s < 3 → p ≢ q → p ≢ r → p ≢ s → q ≢ r → q ≢ s → r ≢ s → ⊥
    none p q r s a b c d e f g h i j = omega (arith, a, b, c, d, e, f, g, h, i, j)

-- numbers below a small number are below 3
below_three : (n : ℕ) (qs : List ℕ) → n ≤ 3 → Below n qs → Below 3 qs
below_three n [] h b = tt
below_three n (q ∷ qs) h b = (omega (arith, b.0), below_three n qs h b.1)

-- different numbers below a small number are at most 3
pub few_below : (n : ℕ) (qs : List ℕ) → n ≤ 3 → Below n qs → has_twins qs ≡ false → length qs ≤ 3
few_below n qs h b t = few_apart qs (below_three n qs h b) t

-- one of two circuits is one
one_of : (t : Bool) (xs ys : List Gate) → IsCircuit 1 xs → IsCircuit 1 ys → IsCircuit 1 (cond t xs ys)
one_of true xs ys a b = a
one_of false xs ys a b = b

-- the gates of a turn fit one qubit
pub turn_fits : (j : ℕ) → IsCircuit 1 (turn j)
turn_fits j =
    one_of (j == 1) _ _ (omega arith, tt)
    (one_of (j == 2) _ _ (omega arith, tt)
    (one_of (j == 3) _ _ (omega arith, (omega arith, tt))
    (one_of (j == 4) _ _ (omega arith, (omega arith, tt))
    (one_of (j == 5) _ _ (omega arith, (omega arith, (omega arith, tt)))
    (one_of (j == 6) _ _ (omega arith, tt) (one_of (j == 7) _ _ (omega arith, tt) tt))))))

-- one of two short lists is short
short_of : (t : Bool) (xs ys : List Gate) → length xs ≤ 3 → length ys ≤ 3 → length (cond t xs ys) ≤ 3
short_of true xs ys a b = a
short_of false xs ys a b = b

-- a turn has few gates
turn_short : (j : ℕ) → length (turn j) ≤ 3
turn_short j =
    short_of (j == 1) _ _ (omega arith) (short_of (j == 2) _ _ (omega arith) (short_of (j == 3) _ _ (omega arith) (short_of (j == 4) _ _ (omega arith)
    (short_of (j == 5) _ _ (omega arith) (short_of (j == 6) _ _ (omega arith) (short_of (j == 7) _ _ (omega arith) (omega arith)))))))

-- the gate of an angle has few
pub turned_few : (v : AngleValue) (g : Known) → turned v ≡ Some g → length g.gates ≤ most_gates_defined
turned_few (Eighths j) g e = let gates : turn j ≡ g.gates = cc in omega (arith, turn_short j, ap (λ (l : List Gate). length l) gates)
turned_few Inexact g e = absurd (cc)
turned_few NotAngle g e = absurd (cc)

-- it takes one argument
pub turned_narrow : (v : AngleValue) → IfSome (turned v) (λ g. g.arity ≤ most_qubits)
turned_narrow (Eighths j) = omega arith
turned_narrow Inexact = tt
turned_narrow NotAngle = tt

-- the gates of a good entry fit the names
entry_fits : (gates : List ℕ → Option Known) (names : List (List ℕ)) (x : Entry) → AreSound gates → is_bad_entry gates names x ≡ false → IsCircuit (length names) (entry_gates gates names x)
entry_fits gates names (Bar args) sound e = tt
entry_fits gates names (Spin r name) sound e = go r.value
  where
    place : ℕ
    place = place_among names name

    go : (v : AngleValue) → IsCircuit (length names) (called (turned v) (place ∷ []))
    go (Eighths j) = circuit_placed (length names) (place ∷ []) (turn j) (place_below names name (not-false _ e), tt) refl (turn_fits j)
    go Inexact = tt
    go NotAngle = tt
entry_fits gates names (Call name args) sound e =
    let p = or_false (has_stranger names args) _ e in
    go (gates name) refl p.0 p.1
  where
    go : (o : Option Known) → gates name ≡ o → has_stranger names args ≡ false → is_bad_call (option_map (λ g. g.arity) o) args ≡ false → IsCircuit (length names) (called o (map (place_among names) args))
    go None f s b = absurd (cc)
    go (Some g) f s b =
        let q = or_false (not (g.arity == length args)) _ b in
        let count : g.arity ≡ length (map (place_among names) args) = eqb-true _ _ (not-false _ q.0) ∙ sym (length-map args (place_among names)) in
        circuit_placed (length names) (map (place_among names) args) g.gates (places_below names args s) (places_apart names args s q.1) (subst (λ (k : ℕ). IsCircuit k g.gates) count (sound name g f).1)

-- and so do those of a good body
pub body_fits : (gates : List ℕ → Option Known) (names : List (List ℕ)) (body : List Entry) → AreSound gates → list_any (is_bad_entry gates names) body ≡ false → IsCircuit (length names) (flat_map (entry_gates gates names) body)
body_fits gates names [] sound e = tt
body_fits gates names (x ∷ body) sound e =
    let p = or_false (is_bad_entry gates names x) _ e in
    circuit_append (length names) (entry_gates gates names x) _ (entry_fits gates names x sound p.0) (body_fits gates names body sound p.1)

-- a good entry of few names has a gate of few arguments
pub entry_narrow : (gates : List ℕ → Option Known) (names : List (List ℕ)) (name : List ℕ) (args : List (List ℕ)) → length names ≤ most_qubits → is_bad_entry gates names (Call name args) ≡ false
    → IfSome (gates name) (λ g. g.arity ≤ most_qubits)
entry_narrow gates names name args few e = let p = or_false (has_stranger names args) _ e in go (gates name) p.0 p.1
  where
    go : (o : Option Known) → has_stranger names args ≡ false → is_bad_call (option_map (λ g. g.arity) o) args ≡ false → IfSome o (λ g. g.arity ≤ most_qubits)
    go None s b = tt
    go (Some g) s b =
        let q = or_false (not (g.arity == length args)) _ b in
        let count : g.arity ≡ length args = eqb-true _ _ (not-false _ q.0) in
        let low = few_below (length names) (map (place_among names) args) few (places_below names args s) (places_apart names args s q.1) in
        omega (arith, count, low, length-map args (place_among names))

-- a gate of a statement to which no row applies takes few arguments
gate_narrow : (n : ℕ) (rs : List Register) (args : List Argument) (g : Known) → Inside n rs → n ≤ most_qubits
    → takes_other (Some g.arity) (length args) ≡ false → takes_bare (Some g.arity) args ≡ false
    → list_any (λ a. is_none (find_register rs a.name)) args ≡ false → list_any (λ a. is_outside (find_register rs a.name) a.index) args ≡ false
    → has_twins (flat_map (qubits_of rs) args) ≡ false → g.arity ≤ most_qubits
gate_narrow n rs args g i few other bare reg out twins =
    ⊎_elim
    (λ (one : nat_lt 1 g.arity ≡ true).
    let all = one_each rs args reg out (third (nat_lt 1 g.arity) (g.arity == length args) _ one (eq-eqb _ _ count) bare) in
    omega (arith, count, all, few_below n (flat_map (qubits_of rs) args) few (of_below n rs args i) twins))
    (λ (one : nat_lt 1 g.arity ≡ false). omega (arith, ltb-false _ _ one))
    (cases_Bool (nat_lt 1 g.arity))
  where
    count : g.arity ≡ length args
    count = eqb-true _ _ (not-false _ other)

-- nor does one that may be known
gates_narrow : (o : Option Known) (n : ℕ) (rs : List Register) (args : List Argument) → Inside n rs → n ≤ most_qubits
    → takes_other (option_map (λ g. g.arity) o) (length args) ≡ false → takes_bare (option_map (λ g. g.arity) o) args ≡ false
    → list_any (λ a. is_none (find_register rs a.name)) args ≡ false → list_any (λ a. is_outside (find_register rs a.name) a.index) args ≡ false
    → has_twins (flat_map (qubits_of rs) args) ≡ false → IfSome o (λ g. g.arity ≤ most_qubits)
gates_narrow None n rs args i few other bare reg out twins = tt
gates_narrow (Some g) n rs args i few other bare reg out twins = gate_narrow n rs args g i few other bare reg out twins

-- the gates of a gate that may be known fit
gates_fit : (gates : List ℕ → Option Known) → AreSound gates → (n : ℕ) (rs : List Register) (args : List Argument) (name : List ℕ) (o : Option Known) → gates name ≡ o → Inside n rs
    → takes_other (option_map (λ g. g.arity) o) (length args) ≡ false → takes_bare (option_map (λ g. g.arity) o) args ≡ false
    → list_any (λ a. is_none (find_register rs a.name)) args ≡ false → list_any (λ a. is_outside (find_register rs a.name) a.index) args ≡ false
    → has_twins (flat_map (qubits_of rs) args) ≡ false → IsCircuit n (gates_at o (flat_map (qubits_of rs) args))
gates_fit gates sound n rs args name None e i other bare reg out twins = tt
gates_fit gates sound n rs args name (Some g) e i other bare reg out twins = expanded_fits n rs args g i (sound name g e) other bare reg out twins

-- the gates of an angle on each qubit of an argument fit
turns_fit : (n : ℕ) (rs : List Register) (args : List Argument) (v : AngleValue) → Inside n rs → IsCircuit n (gates_at (turned v) (flat_map (qubits_of rs) args))
turns_fit n rs args (Eighths j) i = circuit_each n (flat_map (qubits_of rs) args) (turn j) (of_below n rs args i) (turn_fits j)
turns_fit n rs args Inexact i = tt
turns_fit n rs args NotAngle i = tt

-- the first argument's register has a qubit
some_qubit : (n : ℕ) (rs : List Register) (args : List Argument) → Inside n rs → 0 < length args → list_any (λ a. is_none (find_register rs a.name)) args ≡ false → 0 < n
some_qubit n rs [] i h e = absurd (omega arith)
some_qubit n rs (a ∷ args) i h e = go (find_register rs a.name) refl (or_false _ _ e).0
  where
    go : (o : Option Register) → find_register rs a.name ≡ o → is_none o ≡ false → 0 < n
    go None f g = absurd (cc)
    go (Some r) f g = let p = found_inside n rs a.name r i f in omega (arith, p.0, p.1)

-- a statement takes no other number of arguments
pub other_arity : (s : State) (p : Statement) → row_of s p ≡ None → has_other_arity (arity_in s.known p.form) p.form ≡ false
unfolding is_no_statement
other_arity s p row =
    let e : is_no_statement (arity_in s.known p.form) p ≡ false = unmet s p NoStatement row refl in
    (or_false _ _ (or_false _ _ e).1).1

-- a statement in the profile has no bare argument
no_bare_argument : (s : State) (p : Statement) → row_of s p ≡ None → has_bare (arity_in s.known p.form) p.form ≡ false
unfolding is_not_in_profile
no_bare_argument s p row =
    let e : is_not_in_profile (arity_in s.known p.form) p ≡ false = unmet s p NotInProfile row refl in
    (or_false _ _ (or_false _ _ e).1).1

-- fewer statements than there may be stand before a statement to which no row applies
pub short_before : (s : State) (p : Statement) → row_of s p ≡ None → s.count < most_statements
short_before s p row = leb-false _ _ (unmet s p TooLong row refl)

-- what the code relies on holds of a statement to which no row applies
pub takeable : (s : State) (ws : List Lexeme) (o : Option Form) → HasForm ws o → Inside s.qubits s.registers → s.qubits ≤ most_qubits → AreSound s.known → row_of s (record { lexemes = ws; form = o }) ≡ None → IsTakeable s o
takeable s ws None h i few sound row = tt
takeable s ws (Some (Include text)) h i few sound row = tt
takeable s ws (Some (Qreg name size)) h i few sound row =
    let p : Statement = record { lexemes = ws; form = Some (Qreg name size) } in
    let taken : is_taken s p.form ≡ false = unmet s p TwoNames row refl in
    let index : has_bad_index s p.form ≡ false = unmet s p Index row refl in
    let qubits : has_too_many_qubits s p.form ≡ false = unmet s p Qubits row refl in
    let some = eqb-false (value size) 0 (or_false _ _ index).0 in
    ((or_false _ _ taken).1, omega (arith, some), ltb-false _ _ qubits)
takeable s ws (Some (Creg name size)) h i few sound row = tt
takeable s ws (Some (Barrier args)) h i few sound row = tt
takeable s ws (Some (Apply name args)) h i few sound row =
    let p : Statement = record { lexemes = ws; form = Some (Apply name args) } in
    let registers : has_no_register s p.form ≡ false = unmet s p UnknownRegister row refl in
    let index : has_bad_index s p.form ≡ false = unmet s p Index row refl in
    let twins : names_twice s p.form ≡ false = unmet s p SameQubit row refl in
    let t : has_too_many_t s p.form ≡ false = unmet s p TooManyT row refl in (
      some_qubit s.qubits s.registers args i h.1.1.0 registers,
      gates_narrow (s.known name) s.qubits s.registers args i few (other_arity s p row) (no_bare_argument s p row) registers index twins,
      gates_fit s.known sound s.qubits s.registers args name (s.known name) refl i (other_arity s p row) (no_bare_argument s p row) registers index twins,
      ltb-false _ _ t,
    )
takeable s ws (Some (Turn r a)) h i few sound row =
    let p : Statement = record { lexemes = ws; form = Some (Turn r a) } in
    let registers : has_no_register s p.form ≡ false = unmet s p UnknownRegister row refl in
    let t : has_too_many_t s p.form ≡ false = unmet s p TooManyT row refl in (
      some_qubit s.qubits s.registers (a ∷ []) i (omega arith) registers,
      turned_narrow r.value,
      turns_fit s.qubits s.registers (a ∷ []) r.value i,
      ltb-false _ _ t,
    )
takeable s ws (Some (Define name list body)) h i few sound row =
    let p : Statement = record { lexemes = ws; form = Some (Define name list body) } in
    let bad : has_bad_body s p.form ≡ false = unmet s p Body row refl in
    let many : has_too_many_gates s p.form ≡ false = unmet s p TooManyGates row refl in
    (omega (arith, h.1.1.0, length-map list bare), bad, ltb-false _ _ many)
