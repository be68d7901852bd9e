-- The pieces of definitions: on places, as they are added, and as they are written one after another.
use Rattle.std.proofs.Common.{◌≡◌, ℕ, zero, suc, ◌+◌, ◌-◌, ◌*◌, ◌<◌, ◌≤◌, ◌==◌, Bool, true, false, cond, not, ◌||◌, List, [], ◌∷◌, ◌++◌, Bor, length, map, take, get_or, Option, Some, None, arith, ap, ◌∙◌, sym, refl, subst, length-append, append_assoc}
use Rattle.std.specs.Prelude.{IfSome, reverse, option_map, slice_index}
use Rattle.std.specs.List.{AllByRecursion, flat_map, list_any}
use Rattle.std.proofs.lemmas.Bool.{not-false, eqb-true}
use Rattle.std.proofs.lemmas.List.{append-nil, length-map, map-append, map_more, reverse-append, reverse-reverse, get_or_default}
use Rattle.std.proofs.lemmas.Grind.{flat_map-append}
use Rattle.std.proofs.Math.ListN.{get_or-append}
use Rattle.tc_circuit.specs.declared.circuit.Gate.{Gate}
use Rattle.tc_circuit.specs.declared.circuit.Gate.TheVariants.{H, S, Sdg, T, Tdg, Cx}
use Rattle.tc_circuit.specs.Gate.{Fits}
use Rattle.tc_circuit.specs.Model.{IsCircuit}
use Rattle.qasm_angle.specs.declared.angles.AngleValue.{AngleValue}
use Rattle.qasm_angle.specs.declared.angles.AngleValue.TheVariants.{Eighths, Inexact, NotAngle}
use Rattle.qasm_reader.specs.declared.pieces.Places.{Places}
use Rattle.qasm_reader.specs.declared.pieces.Piece.{Piece}
use Rattle.qasm_reader.specs.declared.pieces.Piece.TheVariants.{One, Call}
use Rattle.qasm_reader.specs.declared.pieces.Source.{Source}
use Rattle.qasm_reader.specs.declared.pieces.Source.TheVariants.{Listed, Defined as DefinedAt}
use Rattle.qasm_reader.specs.declared.scan.Defined.{Defined}
use Rattle.qasm_reader.specs.Limits.{most_qubits}
use Rattle.qasm_reader.specs.Forms.{Entry, Call as Calling, Spin}
use Rattle.qasm_reader.specs.declared.forms.Entry.{Entry as CodeEntry}
use Rattle.qasm_reader.specs.View.{name_list, entry, entries}
use Rattle.qasm_reader.specs.Known.{Known, turn, turned}
use Rattle.qasm_reader.specs.State.{placed, place_among, called, entry_gates}
use Rattle.qasm_reader.specs.Rows.{has_stranger, is_bad_call, is_bad_entry}
use Rattle.qasm_reader.specs.Pieces.{place_at, image, composite, piece_image, places_of, nothing, meaning, piece_gates, gates_of_pieces, gates_of, IsCallable, IsSound, AreSound, IsMade, Adds, weight, IsStep, source_gates, IsNarrow, IsSource}
use Rattle.qasm_reader.proofs.Places.{or_false}
use Rattle.qasm_reader.proofs.Takeable.{AreSound as AreSoundGates, entry_narrow, turn_fits}

-- places behind places
place_twice : (outer inner : Places) (a : ℕ) → place_at outer (place_at inner a) ≡ place_at (composite outer inner) a
place_twice outer inner a = go (a == 0) (a == 1)
  where
    go : (s t : Bool) → place_at outer (cond s inner.first (cond t inner.second inner.third)) ≡ cond s (place_at outer inner.first) (cond t (place_at outer inner.second) (place_at outer inner.third))
    go true t = refl
    go false true = refl
    go false false = refl

image_twice : (outer inner : Places) (g : Gate) → image outer (image inner g) ≡ image (composite outer inner) g
image_twice outer inner (H a) = λ i. H (place_twice outer inner a i)
image_twice outer inner (S a) = λ i. S (place_twice outer inner a i)
image_twice outer inner (Sdg a) = λ i. Sdg (place_twice outer inner a i)
image_twice outer inner (T a) = λ i. T (place_twice outer inner a i)
image_twice outer inner (Tdg a) = λ i. Tdg (place_twice outer inner a i)
image_twice outer inner (Cx a b) = λ i. Cx (place_twice outer inner a i) (place_twice outer inner b i)

images_twice : (outer inner : Places) (gs : List Gate) → map (image outer) (map (image inner) gs) ≡ map (image (composite outer inner)) gs
images_twice outer inner [] = refl
images_twice outer inner (g ∷ gs) = λ i. image_twice outer inner g i ∷ images_twice outer inner gs i

-- the gates of pieces on places
image_piece : (gs : List Known) (ps : Places) (p : Piece) → piece_gates gs (piece_image ps p) ≡ map (image ps) (piece_gates gs p)
image_piece gs ps (One g) = refl
image_piece gs ps (Call place inner) = sym (images_twice ps inner (meaning gs place).gates)

image_pieces : (gs : List Known) (ps : Places) (pieces : List Piece) → gates_of_pieces gs (map (piece_image ps) pieces) ≡ map (image ps) (gates_of_pieces gs pieces)
image_pieces gs ps [] = refl
image_pieces gs ps (p ∷ pieces) = (λ i. image_piece gs ps p i ++ image_pieces gs ps pieces i) ∙ sym (map-append (image ps) (piece_gates gs p) (gates_of_pieces gs pieces))

-- pieces on places are sound
sound_image : (gs : List Known) (ds : List Defined) (ps : Places) (p : Piece) → IsSound gs ds p → IsSound gs ds (piece_image ps p)
sound_image gs ds ps (One g) h = tt
sound_image gs ds ps (Call place inner) h = h

sound_images : (gs : List Known) (ds : List Defined) (ps : Places) (pieces : List Piece) → AreSound gs ds pieces → AreSound gs ds (map (piece_image ps) pieces)
sound_images gs ds ps [] h = tt
sound_images gs ds ps (p ∷ pieces) h = (sound_image gs ds ps p h.0, sound_images gs ds ps pieces h.1)

sound_append : (gs : List Known) (ds : List Defined) (xs ys : List Piece) → AreSound gs ds xs → AreSound gs ds ys → AreSound gs ds (xs ++ ys)
sound_append gs ds [] ys a b = b
sound_append gs ds (x ∷ xs) ys a b = (a.0, sound_append gs ds xs ys a.1 b)

-- a sound piece has a gate
piece_some : (gs : List Known) (ds : List Defined) (p : Piece) → IsSound gs ds p → 0 < length (piece_gates gs p)
piece_some gs ds (One g) h = omega arith
piece_some gs ds (Call place ps) h = omega (arith, h.some, length-map (meaning gs place).gates (image ps))

-- sound pieces take fewer than two steps for each gate
weight_is : (gs : List Known) (ds : List Defined) (pieces : List Piece) → AreSound gs ds pieces → weight gs pieces + length pieces ≡ 2 * length (gates_of_pieces gs pieces)
weight_is gs ds [] h = omega arith
weight_is gs ds (p ∷ pieces) h = omega (arith, piece_some gs ds p h.0, weight_is gs ds pieces h.1, length-append (piece_gates gs p) (gates_of_pieces gs pieces))

weight_append : (gs : List Known) (xs ys : List Piece) → weight gs (xs ++ ys) ≡ weight gs xs + weight gs ys
weight_append gs [] ys = omega arith
weight_append gs (x ∷ xs) ys = omega (arith, weight_append gs xs ys)

-- they are no more than their gates
pieces_few : (gs : List Known) (ds : List Defined) (pieces : List Piece) → AreSound gs ds pieces → length pieces ≤ length (gates_of_pieces gs pieces)
pieces_few gs ds [] h = omega arith
pieces_few gs ds (p ∷ pieces) h = omega (arith, piece_some gs ds p h.0, pieces_few gs ds pieces h.1, length-append (piece_gates gs p) (gates_of_pieces gs pieces))

-- a gate is written
pub step_one : (gs : List Known) (ds : List Defined) (g : Gate) (gates new : List Gate) (todo : List Piece) → new ≡ gates ++ g ∷ [] → IsStep gs ds (One g) gates todo new todo
step_one gs ds g gates new todo e = record { more = []; waiting = refl; written = append-nil new ∙ e; sound = tt; less = omega arith }

-- or a definition's pieces are to be
pub step_call : (gs : List Known) (ds : List Defined) (place : ℕ) (ps : Places) (d : Defined) (gates : List Gate) (todo new : List Piece) → d ≡ get_or ds place d → IsCallable gs ds place → IsMade gs ds place d
    → new ≡ todo ++ reverse (map (piece_image ps) d.pieces.items) → IsStep gs ds (Call place ps) gates todo gates new
step_call gs ds place ps d gates todo new is call made e =
    let more = map (piece_image ps) d.pieces.items in
    let all : gates_of_pieces gs more ≡ map (image ps) (meaning gs place).gates = image_pieces gs ps d.pieces.items ∙ ap (map (image ps)) (made.gates call.narrow) in
    let sound = sound_images gs ds ps d.pieces.items made.sound in
    let many : 2 ≤ length d.pieces.items = subst (λ (x : Defined). 2 ≤ length x.pieces.items) (sym is) (call.pieces d) in
    record {
      more = more;
      waiting = ap (λ (l : List Piece). reverse l) e ∙ reverse-append todo (reverse more) ∙ ap (λ (l : List Piece). l ++ reverse todo) (reverse-reverse more);
      written = ap (λ (l : List Gate). gates ++ l) all;
      sound = sound;
      less = omega (arith, weight_is gs ds more sound, many, length-map d.pieces.items (piece_image ps), ap (λ (l : List Gate). length l) all);
    }

-- what is written and what is to be written stay the same gates
pub step_keeps : (gs : List Known) (ds : List Defined) (p : Piece) (gates new_gates all : List Gate) (todo new : List Piece) → IsStep gs ds p gates todo new_gates new
    → gates ++ gates_of_pieces gs (p ∷ reverse todo) ≡ all → new_gates ++ gates_of_pieces gs (reverse new) ≡ all
step_keeps gs ds p gates new_gates all todo new s e =
    ap (λ (l : List Piece). new_gates ++ gates_of_pieces gs l) s.waiting ∙ ap (λ (l : List Gate). new_gates ++ l) (flat_map-append (piece_gates gs) s.more (reverse todo))
    ∙ sym (append_assoc new_gates (gates_of_pieces gs s.more) (gates_of_pieces gs (reverse todo))) ∙ ap (λ (l : List Gate). l ++ gates_of_pieces gs (reverse todo)) s.written
    ∙ append_assoc gates (piece_gates gs p) (gates_of_pieces gs (reverse todo)) ∙ e

pub step_sound : (gs : List Known) (ds : List Defined) (p : Piece) (gates new_gates : List Gate) (todo new : List Piece) → IsStep gs ds p gates todo new_gates new → AreSound gs ds (p ∷ reverse todo) → AreSound gs ds (reverse new)
step_sound gs ds p gates new_gates todo new s h = subst (AreSound gs ds) (sym s.waiting) (sound_append gs ds s.more (reverse todo) s.sound h.1)

pub step_less : (gs : List Known) (ds : List Defined) (p : Piece) (gates new_gates : List Gate) (todo new : List Piece) → IsStep gs ds p gates todo new_gates new → weight gs (reverse new) < weight gs (p ∷ reverse todo)
step_less gs ds p gates new_gates todo new s = omega (arith, s.less, weight_append gs s.more (reverse todo), ap (weight gs) s.waiting)

-- one more at the end is the first
pub reverse_push : {A : Type 0} (xs : List A) (x : A) → reverse (xs ++ x ∷ []) ≡ x ∷ reverse xs
reverse_push xs x = reverse-append xs (x ∷ [])

pub waiting_is : {A : Type 0} (xs ys : List A) → xs ≡ reverse ys → reverse xs ≡ ys
waiting_is xs ys e = ap (λ (l : List _). reverse l) e ∙ reverse-reverse ys

-- what is added
pub adds_nothing : (gs : List Known) (ds : List Defined) (old : List Piece) → Adds gs ds old [] old
adds_nothing gs ds old = record { more = []; items = sym (append-nil old); gates = refl; sound = tt }

pub adds_gates : (gs : List Known) (ds : List Defined) (old new : List Piece) (ps : Places) (gates : List Gate) → new ≡ old ++ map (λ g. One (image ps g)) gates → Adds gs ds old (map (image ps) gates) new
adds_gates gs ds old new ps gates e = record { more = map (λ g. One (image ps g)) gates; items = e; gates = all gates; sound = sound gates }
  where
    all : (l : List Gate) → gates_of_pieces gs (map (λ g. One (image ps g)) l) ≡ map (image ps) l
    all [] = refl
    all (g ∷ l) = ap (λ (m : List Gate). image ps g ∷ m) (all l)

    sound : (l : List Gate) → AreSound gs ds (map (λ g. One (image ps g)) l)
    sound [] = tt
    sound (g ∷ l) = (tt, sound l)

pub adds_none : (gs : List Known) (ds : List Defined) (place : ℕ) (ps : Places) (d : Defined) (old : List Piece) → IsMade gs ds place d → (meaning gs place).arity ≤ most_qubits → d.pieces.items ≡ []
    → Adds gs ds old (map (image ps) (meaning gs place).gates) old
adds_none gs ds place ps d old made narrow e =
    let none : [] ≡ (meaning gs place).gates = sym (ap (gates_of_pieces gs) e) ∙ made.gates narrow in
    subst (λ (l : List Gate). Adds gs ds old (map (image ps) l) old) none (adds_nothing gs ds old)

pub adds_one : (gs : List Known) (ds : List Defined) (place : ℕ) (ps : Places) (d : Defined) (pieces : List Piece) (p : Piece) (old new : List Piece) → IsMade gs ds place d → (meaning gs place).arity ≤ most_qubits
    → pieces ≡ d.pieces.items → length pieces ≡ 1 → new ≡ old ++ piece_image ps (get_or pieces 0 p) ∷ [] → Adds gs ds old (map (image ps) (meaning gs place).gates) new
adds_one gs ds place ps d [] p old new made narrow e one more = absurd (omega (arith, one))
adds_one gs ds place ps d (x ∷ y ∷ l) p old new made narrow e one more = absurd (omega (arith, one))
adds_one gs ds place ps d (x ∷ []) p old new made narrow e one more =
    record {
      more = piece_image ps x ∷ [];
      items = more;
      gates = image_pieces gs ps (x ∷ []) ∙ ap (λ (l : List Piece). map (image ps) (gates_of_pieces gs l)) e ∙ ap (map (image ps)) (made.gates narrow);
      sound = sound_images gs ds ps (x ∷ []) (subst (AreSound gs ds) (sym e) made.sound);
    }

pub adds_call : (gs : List Known) (ds : List Defined) (place : ℕ) (ps : Places) (d : Defined) (old new : List Piece) → place < length ds → d ≡ get_or ds place d → IsMade gs ds place d
    → (meaning gs place).arity ≤ most_qubits → 2 ≤ length d.pieces.items → new ≡ old ++ Call place ps ∷ [] → Adds gs ds old (map (image ps) (meaning gs place).gates) new
adds_call gs ds place ps d old new within is made narrow many more =
    let few = pieces_few gs ds d.pieces.items made.sound in
    let call : IsCallable gs ds place = record {
      within = within;
      narrow = narrow;
      pieces = λ e. subst (λ (x : Defined). 2 ≤ length x.pieces.items) (is ∙ get_or_default ds place d e within) many;
      some = omega (arith, few, many, ap (λ (l : List Gate). length l) (made.gates narrow));
    } in
    record { more = Call place ps ∷ []; items = more; gates = append-nil (map (image ps) (meaning gs place).gates); sound = (call, tt) }

pub adds_more : (gs : List Known) (ds : List Defined) (old mid new : List Piece) (xs ys : List Gate) → Adds gs ds old xs mid → Adds gs ds mid ys new → Adds gs ds old (xs ++ ys) new
adds_more gs ds old mid new xs ys a b =
    record {
      more = a.more ++ b.more;
      items = b.items ∙ ap (λ (l : List Piece). l ++ b.more) a.items ∙ append_assoc old a.more b.more;
      gates = flat_map-append (piece_gates gs) a.more b.more ∙ (λ i. a.gates i ++ b.gates i);
      sound = sound_append gs ds a.more b.more a.sound b.sound;
    }

-- the gates of one entry more
pub entries_more : (f : Entry → List Gate) (xs : List CodeEntry) (i : ℕ) (d : CodeEntry) → i < length xs → flat_map f (entries (take (i + 1) xs)) ≡ flat_map f (entries (take i xs)) ++ f (entry (get_or xs i d))
entries_more f xs i d h =
    ap (flat_map f) (map_more entry xs i d h) ∙ flat_map-append f (entries (take i xs)) (entry (get_or xs i d) ∷ []) ∙ ap (λ (l : List Gate). flat_map f (entries (take i xs)) ++ l) (append-nil (f (entry (get_or xs i d))))

-- the place of an argument by its number
pub argument_at : (f : List ℕ → ℕ) (args : List (Bor (List ℕ))) (n : ℕ) (d : Bor (List ℕ)) → n < length args → f (get_or args n d).now ≡ slice_index (map f (name_list args)) n
argument_at f [] n d h = absurd (omega arith)
argument_at f (a ∷ args) zero d h = refl
argument_at f (a ∷ args) (suc n) d h = argument_at f args n d (omega arith)

-- the places of few numbers are these
place_is : (qs : List ℕ) (a : ℕ) → a < length qs → length qs ≤ most_qubits → place_at (places_of qs) a ≡ slice_index qs a
place_is qs zero h few = refl
place_is qs (suc zero) h few = refl
place_is qs (suc (suc zero)) h few = refl
place_is qs (suc (suc (suc a))) h few = absurd (omega arith)

image_is : (qs : List ℕ) (g : Gate) → Fits (length qs) g → length qs ≤ most_qubits → image (places_of qs) g ≡ placed qs g
image_is qs (H a) h few = λ i. H (place_is qs a h few i)
image_is qs (S a) h few = λ i. S (place_is qs a h few i)
image_is qs (Sdg a) h few = λ i. Sdg (place_is qs a h few i)
image_is qs (T a) h few = λ i. T (place_is qs a h few i)
image_is qs (Tdg a) h few = λ i. Tdg (place_is qs a h few i)
image_is qs (Cx a b) h few = λ i. Cx (place_is qs a h.0 few i) (place_is qs b h.1 few i)

images_are : (qs : List ℕ) (gs : List Gate) → IsCircuit (length qs) gs → length qs ≤ most_qubits → map (image (places_of qs)) gs ≡ map (placed qs) gs
images_are qs [] h few = refl
images_are qs (g ∷ gs) h few = λ i. image_is qs g h.0 few i ∷ images_are qs gs h.1 few i

-- the gates of a good entry of few names, by its gate
pub call_images : (gates : List ℕ → Option Known) (names : List (List ℕ)) (name : List ℕ) (args : List (List ℕ)) → AreSoundGates gates → length names ≤ most_qubits → is_bad_entry gates names (Calling name args) ≡ false
    → map (image (places_of (map (place_among names) args))) (gates_of (gates name)) ≡ entry_gates gates names (Calling name args)
call_images gates names name args sound few e = go (gates name) refl (or_false (has_stranger names args) _ e).1 (entry_narrow gates names name args few e)
  where
    qs : List ℕ
    qs = map (place_among names) args

    go : (o : Option Known) → gates name ≡ o → is_bad_call (option_map (λ g. g.arity) o) args ≡ false → IfSome o (λ g. g.arity ≤ most_qubits) → map (image (places_of qs)) (gates_of o) ≡ called o qs
    go None f b narrow = refl
    go (Some g) f b narrow =
        let q = or_false (not (g.arity == length args)) _ b in
        let count : g.arity ≡ length qs = eqb-true _ _ (not-false _ q.0) ∙ sym (length-map args (place_among names)) in
        images_are qs g.gates (subst (λ (k : ℕ). IsCircuit k g.gates) count (sound name g f).1) (omega (arith, count, narrow))

pub spin_images : (v : AngleValue) (place : ℕ) → map (image (places_of (place ∷ []))) (gates_of (turned v)) ≡ called (turned v) (place ∷ [])
spin_images (Eighths j) place = images_are (place ∷ []) (turn j) (turn_fits j) (omega arith)
spin_images Inexact place = refl
spin_images NotAngle place = refl

-- the gates of a source are those of its gate
pub source_is : (gs : List Known) (ds : List Defined) (o : Option Known) (s : Source) → IsSource gs ds o s → source_gates gs s ≡ gates_of o
source_is gs ds o (Listed gates) h = h
source_is gs ds o (DefinedAt place) h = sym (ap gates_of h.1)

-- it takes few arguments where its gate does
pub source_narrow : (gs : List Known) (ds : List Defined) (o : Option Known) (s : Source) → IsSource gs ds o s → IfSome o (λ g. g.arity ≤ most_qubits) → IsNarrow gs ds s
source_narrow gs ds o (Listed gates) h few = tt
source_narrow gs ds o (DefinedAt place) h few = (h.0, subst (λ (x : Option Known). IfSome x (λ g. g.arity ≤ most_qubits)) h.1 few)

-- what one definition more leaves as it was
meaning_more : (gs : List Known) (g : Known) (place : ℕ) → place < length gs → meaning (gs ++ g ∷ []) place ≡ meaning gs place
meaning_more gs g place h = get_or-append gs (g ∷ []) nothing place h

callable_more : (gs : List Known) (ds : List Defined) (g : Known) (d : Defined) (place : ℕ) → length gs ≡ length ds → IsCallable gs ds place → IsCallable (gs ++ g ∷ []) (ds ++ d ∷ []) place
callable_more gs ds g d place same c =
    let stays = meaning_more gs g place (omega (arith, same, c.within)) in
    record {
      within = omega (arith, c.within, length-append ds (d ∷ []));
      narrow = subst (λ (k : Known). k.arity ≤ most_qubits) (sym stays) c.narrow;
      pieces = λ e. subst (λ (x : Defined). 2 ≤ length x.pieces.items) (sym (get_or-append ds (d ∷ []) e place c.within)) (c.pieces e);
      some = subst (λ (k : Known). 0 < length k.gates) (sym stays) c.some;
    }

sound_more_piece : (gs : List Known) (ds : List Defined) (g : Known) (d : Defined) (p : Piece) → length gs ≡ length ds → IsSound gs ds p → IsSound (gs ++ g ∷ []) (ds ++ d ∷ []) p
sound_more_piece gs ds g d (One x) same h = tt
sound_more_piece gs ds g d (Call place ps) same h = callable_more gs ds g d place same h

pub sound_more_pieces : (gs : List Known) (ds : List Defined) (g : Known) (d : Defined) (pieces : List Piece) → length gs ≡ length ds → AreSound gs ds pieces → AreSound (gs ++ g ∷ []) (ds ++ d ∷ []) pieces
sound_more_pieces gs ds g d [] same h = tt
sound_more_pieces gs ds g d (p ∷ pieces) same h = (sound_more_piece gs ds g d p same h.0, sound_more_pieces gs ds g d pieces same h.1)

piece_more : (gs : List Known) (ds : List Defined) (g : Known) (p : Piece) → length gs ≡ length ds → IsSound gs ds p → piece_gates (gs ++ g ∷ []) p ≡ piece_gates gs p
piece_more gs ds g (One x) same h = refl
piece_more gs ds g (Call place ps) same h = ap (λ (k : Known). map (image ps) k.gates) (meaning_more gs g place (omega (arith, same, h.within)))

pieces_more : (gs : List Known) (ds : List Defined) (g : Known) (pieces : List Piece) → length gs ≡ length ds → AreSound gs ds pieces → gates_of_pieces (gs ++ g ∷ []) pieces ≡ gates_of_pieces gs pieces
pieces_more gs ds g [] same h = refl
pieces_more gs ds g (p ∷ pieces) same h = λ i. piece_more gs ds g p same h.0 i ++ pieces_more gs ds g pieces same h.1 i

-- the definitions before are made as they were
pub made_before : (gs : List Known) (ds : List Defined) (g : Known) (d e : Defined) (place : ℕ) → length gs ≡ length ds → place < length ds → IsMade gs ds place e → IsMade (gs ++ g ∷ []) (ds ++ d ∷ []) place e
made_before gs ds g d e place same h made =
    let stays = meaning_more gs g place (omega (arith, same, h)) in
    record {
      sound = sound_more_pieces gs ds g d e.pieces.items same made.sound;
      gates = λ narrow. pieces_more gs ds g e.pieces.items same made.sound ∙ made.gates (subst (λ (k : Known). k.arity ≤ most_qubits) stays narrow) ∙ ap (λ (k : Known). k.gates) (sym stays);
    }

-- and the new one is of its pieces
pub made_last : (gs : List Known) (ds : List Defined) (g : Known) (d : Defined) (place : ℕ) → length gs ≡ length ds → meaning (gs ++ g ∷ []) place ≡ g → AreSound gs ds d.pieces.items
    → (g.arity ≤ most_qubits → gates_of_pieces gs d.pieces.items ≡ g.gates) → IsMade (gs ++ g ∷ []) (ds ++ d ∷ []) place d
made_last gs ds g d place same is sound all =
    record {
      sound = sound_more_pieces gs ds g d d.pieces.items same sound;
      gates = λ narrow. pieces_more gs ds g d.pieces.items same sound ∙ all (subst (λ (k : Known). k.arity ≤ most_qubits) is narrow) ∙ ap (λ (k : Known). k.gates) (sym is);
    }
