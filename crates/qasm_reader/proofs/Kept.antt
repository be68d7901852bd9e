-- What is kept of definitions, one after another.
use Rattle.std.proofs.Common.{◌≡◌, ℕ, zero, suc, ◌+◌, ◌-◌, ◌<◌, ◌≤◌, Bool, true, false, cond, ◌||◌, List, [], ◌∷◌, ◌++◌, Bor, length, map, take, get_or, min, Option, Some, None, arith, ap, ◌∙◌, sym, refl, subst, length-append}
use Rattle.std.specs.Str.{bytes_eq}
use Rattle.std.specs.List.{list_any}
use Rattle.std.specs.Prelude.{option_map, nat_lt, nat_le, IfSome}
use Rattle.std.specs.Option.{ForSome, ForNone}
use Rattle.std.proofs.lemmas.List.{get_or_push, map-append, map_more, length-map}
use Rattle.std.proofs.Math.ListN.{get_or-append}
use Rattle.std.proofs.lemmas.Bool.{leb-true, ltb-true, ltb-false}
use Rattle.tc_circuit.specs.declared.circuit.Gate.{Gate}
use Rattle.tc_circuit.specs.Circuit.{Gates as Made}
use Rattle.tc_circuit.specs.Model.{IsCircuit, t_count_of}
use Rattle.qasm_reader.specs.declared.gates.Size.{Size}
use Rattle.qasm_reader.specs.declared.scan.Defined.{Defined}
use Rattle.qasm_reader.specs.declared.scan.Definitions.{Definitions}
use Rattle.std.specs.BTreeMap.{BTreeMap, get_by}
use Rattle.std.specs.Map.{lookup}
use Rattle.std.specs.Ordering.{nat_cmp, is_eq}
use Rattle.std.specs.Cmp.Lexicographic.{slice_cmp}
use Rattle.std.proofs.lemmas.Map.Text.{is_eq-slice_cmp}
use Rattle.std.proofs.lemmas.Slice.Eq.{bytes_eq-Decides}
use Rattle.qasm_reader.specs.declared.statements.Statement.{Statement as CodeStatement}
use Rattle.qasm_reader.specs.Limits.{most_qubits, most_t_gates, most_gates_defined}
use Rattle.qasm_reader.specs.Rows.{is_bad_entry}
use Rattle.qasm_reader.specs.Known.{Known, table, known}
use Rattle.qasm_reader.specs.State.{State, gates_at, gate_in, gate_qubits, gates_in, place_among, with_gate}
use Rattle.qasm_reader.specs.Pieces.{meaning, gates_of_pieces, gates_of, AreSound as AreSoundPieces, IsMade, source_gates, IsSource}
use Rattle.qasm_reader.specs.declared.pieces.Source.{Source}
use Rattle.qasm_reader.specs.View.{place_of, IsPlaced, form, name_list, entries, counted_size, gates_made, size_of, size_or_nothing, count_at, gate_of, gates_with, known_behind, meanings_behind, IsKept, AreKeptBehind, AreKept, IsDefinedAs, IsBehind}
use Rattle.qasm_reader.specs.Run.{AreTakeable, AreAddable}
use Rattle.qasm_reader.proofs.Written.{source_is, source_narrow, made_before, made_last}
use Rattle.qasm_reader.proofs.Placing.{t_count-at, length-at, t_count-few}
use Rattle.qasm_reader.proofs.Places.{or_false, or_right}
use Rattle.qasm_reader.proofs.Takeable.{AreSound, table_sound, look_up_is, sound_more, body_fits}

-- the gates that are known, as a function of names
abbrev Gates : Type 0
Gates = List ℕ → Option Known

-- places by names
abbrev Places : Type 0
Places = BTreeMap (Bor (List ℕ)) ℕ

-- one definition more is known
abbrev with_definition : Gates → Defined → Gates
with_definition gates d = with_gate d.definition.name.now (gate_of gates d) gates

-- one definition more at the end
pub known-push : (gates : Gates) (ds : List Defined) (d : Defined) → known_behind gates (ds ++ d ∷ []) ≡ with_definition (known_behind gates ds) d
known-push gates [] d = refl
known-push gates (x ∷ ds) d = known-push (with_definition gates x) ds d

pub kept-push : (gates : Gates) (ds : List Defined) (d : Defined) → AreKeptBehind gates ds → IsKept (gate_of (known_behind gates ds) d) d → AreKeptBehind gates (ds ++ d ∷ [])
kept-push gates [] d a h = (h, tt)
kept-push gates (x ∷ ds) d a h = (a.0, kept-push (with_definition gates x) ds d a.1 h)

-- and one gate more
pub meanings-push : (gates : Gates) (ds : List Defined) (d : Defined) → meanings_behind gates (ds ++ d ∷ []) ≡ meanings_behind gates ds ++ gate_of (known_behind gates ds) d ∷ []
meanings-push gates [] d = refl
meanings-push gates (x ∷ ds) d = ap (λ (l : List Known). gate_of gates x ∷ l) (meanings-push (with_definition gates x) ds d)

pub meanings-length : (gates : Gates) (ds : List Defined) → length (meanings_behind gates ds) ≡ length ds
meanings-length gates [] = refl
meanings-length gates (d ∷ ds) = omega (arith, meanings-length (with_definition gates d) ds)

-- the gates of the last definition, and of one before
meaning_last : (ds : List Defined) (d : Defined) → meaning (meanings_behind known (ds ++ d ∷ [])) (length ds) ≡ gate_of (known_behind known ds) d
meaning_last ds d =
    ap (λ (l : List Known). meaning l (length ds)) (meanings-push known ds d)
    ∙ get_or_push (meanings_behind known ds) (gate_of (known_behind known ds) d) _ (length ds) (meanings-length known ds)

meaning_before : (ds : List Defined) (d : Defined) (place : ℕ) → place < length ds → meaning (meanings_behind known (ds ++ d ∷ [])) place ≡ meaning (meanings_behind known ds) place
meaning_before ds d place h =
    ap (λ (l : List Known). meaning l place) (meanings-push known ds d)
    ∙ get_or-append (meanings_behind known ds) (gate_of (known_behind known ds) d ∷ []) _ place (omega (arith, h, meanings-length known ds))

-- equal bytes, either way round
bytes_swap : (a b : List ℕ) → bytes_eq a b ≡ bytes_eq b a
bytes_swap a b = go (bytes_eq a b) (bytes_eq b a) refl refl
  where
    go : (s t : Bool) → bytes_eq a b ≡ s → bytes_eq b a ≡ t → bytes_eq a b ≡ bytes_eq b a
    go true t e f = e ∙ sym ((bytes_eq-Decides b a).1 (sym ((bytes_eq-Decides a b).0 e)))
    go false true e f = (bytes_eq-Decides a b).1 (sym ((bytes_eq-Decides b a).0 f)) ∙ sym f
    go false false e f = e ∙ sym f

-- the places of names with one place more
abbrev PlacesMore : Places → Places → List ℕ → ℕ → Type 0
PlacesMore old new name place = (other : List ℕ) → place_of new other ≡ cond (bytes_eq other name) (Some place) (place_of old other)

-- what is known of another name stays
other_placed : (ds : List Defined) (d : Defined) (name : List ℕ) (o : Option ℕ) → bytes_eq name d.definition.name.now ≡ false → IsPlaced ds name o → IsPlaced (ds ++ d ∷ []) name o
other_placed ds d name o e h = go o h
  where
    stays : known_behind known (ds ++ d ∷ []) name ≡ known_behind known ds name
    stays = ap (λ (f : Gates). f name) (known-push known ds d) ∙ ap (λ (t : Bool). cond t (Some (gate_of (known_behind known ds) d)) (known_behind known ds name)) e

    go : (p : Option ℕ) → IsPlaced ds name p → IsPlaced (ds ++ d ∷ []) name p
    go None h = stays ∙ h
    go (Some place) h = (
      omega (arith, h.0, length-append ds (d ∷ [])),
      λ x. subst (λ (o : Option Known). IsDefinedAs o (get_or (ds ++ d ∷ []) place x)) (sym stays)
          (subst (IsDefinedAs (known_behind known ds name)) (sym (get_or-append ds (d ∷ []) x place h.0)) (h.1 x)),
      stays ∙ h.2 ∙ ap (λ (g : Known). Some g) (sym (meaning_before ds d place h.0)),
    )

-- and the new one is that of the last definition
new_placed : (ds : List Defined) (d : Defined) (name : List ℕ) → bytes_eq name d.definition.name.now ≡ true → IsKept (gate_of (known_behind known ds) d) d → IsPlaced (ds ++ d ∷ []) name (Some (length ds))
new_placed ds d name e kept =
    let is = ap (λ (f : Gates). f name) (known-push known ds d) ∙ ap (λ (t : Bool). cond t (Some (gate_of (known_behind known ds) d)) (known_behind known ds name)) e in
    let defined : IsDefinedAs (known_behind known (ds ++ d ∷ []) name) d = record { gate = gate_of (known_behind known ds) d; is = is; kept = kept } in (
      omega (arith, length-append ds (d ∷ [])),
      λ x. subst (IsDefinedAs (known_behind known (ds ++ d ∷ []) name)) (sym (get_or_push ds d x (length ds) refl)) defined,
      is ∙ ap (λ (g : Known). Some g) (sym (meaning_last ds d)),
    )

-- pieces that stand for the gates of a definition
abbrev pub Stand : List Defined → Defined → Type 0
Stand ds d = (gate_of (known_behind known ds) d).arity ≤ most_qubits → gates_of_pieces (meanings_behind known ds) d.pieces.items ≡ (gate_of (known_behind known ds) d).gates

-- one definition more, and all are made of their pieces
made_more : (ds : List Defined) (d : Defined) → ((place : ℕ) → place < length ds → (e : Defined) → IsMade (meanings_behind known ds) ds place (get_or ds place e))
    → AreSoundPieces (meanings_behind known ds) ds d.pieces.items → Stand ds d
    → (place : ℕ) → place < length (ds ++ d ∷ []) → (e : Defined) → IsMade (meanings_behind known (ds ++ d ∷ [])) (ds ++ d ∷ []) place (get_or (ds ++ d ∷ []) place e)
made_more ds d made sound stand place h e =
    subst (λ (gs : List Known). IsMade gs (ds ++ d ∷ []) place (get_or (ds ++ d ∷ []) place e)) (sym (meanings-push known ds d)) (go (nat_lt place (length ds)) refl)
  where
    gs : List Known
    gs = meanings_behind known ds

    g : Known
    g = gate_of (known_behind known ds) d

    before : place < length ds → IsMade (gs ++ g ∷ []) (ds ++ d ∷ []) place (get_or (ds ++ d ∷ []) place e)
    before low = subst (IsMade (gs ++ g ∷ []) (ds ++ d ∷ []) place) (sym (get_or-append ds (d ∷ []) e place low)) (made_before gs ds g d (get_or ds place e) place (meanings-length known ds) low (made place low e))

    last : place ≡ length ds → IsMade (gs ++ g ∷ []) (ds ++ d ∷ []) place (get_or (ds ++ d ∷ []) place e)
    last at = subst (IsMade (gs ++ g ∷ []) (ds ++ d ∷ []) place) (sym (get_or_push ds d e place (sym at)))
        (made_last gs ds g d place (meanings-length known ds) (get_or_push gs g _ place (meanings-length known ds ∙ sym at)) sound stand)

    go : (t : Bool) → nat_lt place (length ds) ≡ t → IsMade (gs ++ g ∷ []) (ds ++ d ∷ []) place (get_or (ds ++ d ∷ []) place e)
    go true t = before (ltb-true _ _ t)
    go false t = last (omega (arith, ltb-false _ _ t, h, length-append ds (d ∷ [])))

-- one definition more, and its place
pub kept_more : (old new : Definitions) (d : Defined) → AreKept old → IsKept (gate_of (known_behind known old.list.items) d) d
    → AreSoundPieces (meanings_behind known old.list.items) old.list.items d.pieces.items → Stand old.list.items d → new.list.items ≡ old.list.items ++ d ∷ []
    → PlacesMore old.places new.places d.definition.name.now (length old.list.items) → AreKept new
kept_more old new d kept is sound stand items places =
    let ds = old.list.items in
    record {
      list = subst (AreKeptBehind known) (sym items) (kept-push known ds d kept.list is);
      made = subst (λ (l : List Defined). (place : ℕ) → place < length l → (e : Defined) → IsMade (meanings_behind known l) l place (get_or l place e)) (sym items) (made_more ds d kept.made sound stand);
      places = λ name. subst (λ (l : List Defined). IsPlaced l name (place_of new.places name)) (sym items)
          (subst (IsPlaced (ds ++ d ∷ []) name) (sym (places name)) (go name (bytes_eq name d.definition.name.now) refl));
    }
  where
    go : (name : List ℕ) (t : Bool) → bytes_eq name d.definition.name.now ≡ t → IsPlaced (old.list.items ++ d ∷ []) name (cond t (Some (length old.list.items)) (place_of old.places name))
    go name true e = new_placed old.list.items d name e is
    go name false e = other_placed old.list.items d name (place_of old.places name) e (kept.places name)

-- no definitions
pub kept_none : (new : Definitions) → new.list.items ≡ [] → new.places.entries ≡ [] → AreKept new
kept_none new items entries = record {
  list = subst (AreKeptBehind known) (sym items) tt;
  made = λ place h e. absurd (omega (arith, h, ap (λ (l : List Defined). length l) items));
  places = λ name. subst (λ (l : List Defined). IsPlaced l name (place_of new.places name)) (sym items) (subst (IsPlaced [] name) (sym (none name)) refl);
}
  where
    none : (name : List ℕ) → place_of new.places name ≡ None
    none name = ap (lookup (λ k. is_eq (slice_cmp nat_cmp name k.now))) entries

-- a place that was inserted
pub inserted : (old new : Places) (key : Bor (List ℕ)) (place : ℕ) (other : List ℕ)
    → ((q : Bor (List ℕ)) → get_by (λ k. slice_cmp nat_cmp q.now k.now) new ≡ cond (is_eq (slice_cmp nat_cmp key.now q.now)) (Some place) (get_by (λ k. slice_cmp nat_cmp q.now k.now) old))
    → place_of new other ≡ cond (bytes_eq other key.now) (Some place) (place_of old other)
inserted old new key place other h =
    h (record key { now = other }) ∙ ap (λ (t : Bool). cond t (Some place) (place_of old other)) (is_eq-slice_cmp key.now other ∙ bytes_swap key.now other)

-- a definition of what is known has its size
pub defined_size : (o : Option Known) (d : Defined) → IsDefinedAs o d → Some d.size ≡ option_map size_of o
defined_size o d h = ap (λ (z : Size). Some z) h.kept.size ∙ sym (ap (option_map size_of) h.is)

-- the gates that are known behind definitions are sound
pub sound_behind : (gates : Gates) (ds : List Defined) → AreSound gates → AreKeptBehind gates ds → AreSound (known_behind gates ds)
sound_behind gates [] s k = s
sound_behind gates (d ∷ ds) s k = sound_behind (with_definition gates d) ds (sound_more d.definition.name.now (gate_of gates d) gates (k.0.some, k.0.fit) s) k.1

-- each known gate stands for few gates
abbrev pub AreFew : Gates → Type 0
AreFew gates = (name : List ℕ) (g : Known) → gates name ≡ Some g → length g.gates ≤ most_gates_defined

is_few : Known → Bool
is_few g = nat_le (length g.gates) most_gates_defined

table_few : AreFew known
unfolding known is_few
table_few name g e = leb-true _ _ (look_up_is is_few table name g refl e)

few_more : (name : List ℕ) (g : Known) (gates : Gates) → length g.gates ≤ most_gates_defined → AreFew gates → AreFew (with_gate name g gates)
few_more name g gates h few other k e = go (bytes_eq other name) refl e
  where
    go : (t : Bool) → bytes_eq other name ≡ t → cond t (Some g) (gates other) ≡ Some k → length k.gates ≤ most_gates_defined
    go true f same = let one : g ≡ k = cc in subst (λ (x : Known). length x.gates ≤ most_gates_defined) one h
    go false f same = few other k same

few_behind : (gates : Gates) (ds : List Defined) → AreFew gates → AreKeptBehind gates ds → AreFew (known_behind gates ds)
few_behind gates [] s k = s
few_behind gates (d ∷ ds) s k = few_behind (with_definition gates d) ds (few_more d.definition.name.now (gate_of gates d) gates k.0.few s) k.1

pub kept_few : (ds : List Defined) → AreKeptBehind known ds → AreFew (known_behind known ds)
kept_few ds k = few_behind known ds table_few k

pub kept_sound : (ds : List Defined) → AreKeptBehind known ds → AreSound (known_behind known ds)
kept_sound ds k = sound_behind known ds table_sound k

-- a gate by its size and its gates
pub gates_with-is : (o : Option Known) (qs : List ℕ) → gates_with (option_map size_of o) (gates_of o) qs ≡ gates_at o qs
gates_with-is None qs = refl
gates_with-is (Some g) qs = refl

-- the T gates of a statement's gate, by what the statement says
pub t_count-behind : (s : State) (p : CodeStatement) → IsBehind s p → t_count_of (gates_in s (option_map form p.form)) ≡ count_at (λ z. z.t_count) p.size (length p.qubits.items)
t_count-behind s p h =
    t_count-at (gate_in s.known (option_map form p.form)) (gate_qubits s (option_map form p.form))
    ∙ ap (λ (z : Option Size). count_at (λ z. z.t_count) z (length (gate_qubits s (option_map form p.form)))) (sym h.size)
    ∙ ap (λ (qs : List ℕ). count_at (λ z. z.t_count) p.size (length qs)) (sym h.qubits)

-- and all its gates
pub length-behind : (s : State) (p : CodeStatement) → IsBehind s p → length (gates_in s (option_map form p.form)) ≡ count_at (λ z. z.length) p.size (length p.qubits.items)
length-behind s p h =
    length-at (gate_in s.known (option_map form p.form)) (gate_qubits s (option_map form p.form))
    ∙ ap (λ (z : Option Size). count_at (λ z. z.length) z (length (gate_qubits s (option_map form p.form)))) (sym h.size)
    ∙ ap (λ (qs : List ℕ). count_at (λ z. z.length) p.size (length qs)) (sym h.qubits)

-- the T gates that a scan has counted are those of its circuit
pub t_count-made : (o : Option Made) (t : ℕ) → ForSome o (λ c. t ≡ t_count_of c.gates) → ForNone o (t ≡ 0) → t ≡ t_count_of (gates_made o)
t_count-made None t some none = none refl
t_count-made (Some c) t some none = some c refl

-- the size of a gate that may be known is small
pub size_small : (o : Option Known) → ((g : Known) → o ≡ Some g → length g.gates ≤ most_gates_defined)
    → ((size_or_nothing (option_map size_of o)).length ≤ most_gates_defined) × ((size_or_nothing (option_map size_of o)).t_count ≤ most_gates_defined)
size_small None h = (omega arith, omega arith)
size_small (Some g) h = let few = h g refl in (few, omega (arith, few, t_count-few g.gates))

-- where no element passes, one at a place doesn't
pub none_at : {A B : Type 0} (p : B → Bool) (f : A → B) (xs : List A) (i : ℕ) (d : A) → list_any p (map f xs) ≡ false → i < length xs → p (f (get_or xs i d)) ≡ false
none_at p f [] i d e h = absurd (omega arith)
none_at p f (x ∷ xs) zero d e h = (or_false (p (f x)) _ e).0
none_at p f (x ∷ xs) (suc i) d e h = none_at p f xs i d (or_false (p (f x)) _ e).1 (omega arith)

-- where one at a place passes, an element does
pub some_at : {A B : Type 0} (p : B → Bool) (f : A → B) (xs : List A) (i : ℕ) (d : A) → p (f (get_or xs i d)) ≡ true → i < length xs → list_any p (map f xs) ≡ true
some_at p f [] i d e h = absurd (omega arith)
some_at p f (x ∷ xs) zero d e h = ap (λ (t : Bool). t || list_any p (map f xs)) e
some_at p f (x ∷ xs) (suc i) d e h = or_right (p (f x)) _ (some_at p f xs i d e (omega arith))

-- the places of names with one name more
pub places_more : (names : List (List ℕ)) (args : List (Bor (List ℕ))) (i : ℕ) (d : Bor (List ℕ)) → i < length args
    → map (place_among names) (name_list (take (i + 1) args)) ≡ map (place_among names) (name_list (take i args)) ++ place_among names (get_or args i d).now ∷ []
places_more names args i d h =
    ap (map (place_among names)) (map_more (λ (b : Bor (List ℕ)). b.now) args i d h) ∙ map-append (place_among names) (name_list (take i args)) ((get_or args i d).now ∷ [])

-- a size that is small is counted exactly
counted_exact : (g : Known) → length g.gates ≤ most_gates_defined → counted_size g ≡ size_of g
counted_exact g few =
    let low = t_count-few g.gates in
    let a : min (length g.gates) (most_gates_defined + 1) ≡ length g.gates = omega (arith, few) in
    let b : min (t_count_of g.gates) (most_gates_defined + 1) ≡ t_count_of g.gates = omega (arith, few, low) in
    λ i. record { arity = g.arity; length = a i; t_count = b i }

-- a definition that can be taken is kept
pub kept_new : (ds : List Defined) (d : Defined) → AreKeptBehind known ds → 0 < length d.definition.names.items → length (gate_of (known_behind known ds) d).gates ≤ most_gates_defined
    → list_any (is_bad_entry (known_behind known ds) (name_list d.definition.names.items)) (entries d.definition.body.items) ≡ false
    → d.size ≡ counted_size (gate_of (known_behind known ds) d) → IsKept (gate_of (known_behind known ds) d) d
kept_new ds d kept some few good size =
    let names : length (name_list d.definition.names.items) ≡ length d.definition.names.items = length-map d.definition.names.items (λ (b : Bor (List ℕ)). b.now) in
    record {
      size = size ∙ counted_exact (gate_of (known_behind known ds) d) few;
      some = omega (arith, some, names);
      fit = body_fits (known_behind known ds) (name_list d.definition.names.items) (entries d.definition.body.items) (kept_sound ds kept) good;
      few = few;
    }

-- the gates of a source, by the size
pub sourced_gates : (gs : List Known) (ds : List Defined) (o : Option Known) (s : Source) (size : Option Size) (qs : List ℕ) → IsSource gs ds o s → size ≡ option_map size_of o
    → gates_with size (source_gates gs s) qs ≡ gates_at o qs
sourced_gates gs ds o s size qs h is =
    ap (λ (z : Option Size). gates_with z (source_gates gs s) qs) is ∙ ap (λ (l : List Gate). gates_with (option_map size_of o) l qs) (source_is gs ds o s h) ∙ gates_with-is o qs

-- the gates that a statement adds are those that its form stands for
pub added_gates : (s : State) (gs : List Known) (ds : List Defined) (p : CodeStatement) → IsBehind s p → IsSource gs ds (gate_in s.known (option_map form p.form)) p.source
    → gates_with p.size (source_gates gs p.source) p.qubits.items ≡ gates_in s (option_map form p.form)
added_gates s gs ds p behind source =
    let f = option_map form p.form in
    sourced_gates gs ds (gate_in s.known f) p.source p.size p.qubits.items source behind.size ∙ ap (gates_at (gate_in s.known f)) behind.qubits

-- the gates of a statement that can be taken can be added
pub addable : (s : State) (gs : List Known) (ds : List Defined) (p : CodeStatement) → AreTakeable s (option_map form p.form) → IsBehind s p → IsSource gs ds (gate_in s.known (option_map form p.form)) p.source
    → AreAddable s gs ds p.source p.size p.qubits.items
addable s gs ds p t behind source =
    let f = option_map form p.form in
    let same = added_gates s gs ds p behind source in
    record {
      narrow = source_narrow gs ds (gate_in s.known f) p.source source t.1;
      some = t.0;
      fit = subst (IsCircuit s.qubits) (sym same) t.2;
      few = subst (λ (l : List Gate). t_count_of s.gates + t_count_of l ≤ most_t_gates) (sym same) t.3;
      counted = ap t_count_of same ∙ t_count-behind s p behind;
    }
