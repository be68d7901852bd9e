-- The bodies of definitions: how they are spelled and found.
use Rattle.std.proofs.Common.{◌≡◌, ℕ, Bool, true, false, cond, ◌==◌, List, [], ◌∷◌, ◌++◌, length, map, take, drop, Option, Some, None, arith, ap, ◌∙◌, sym, refl, subst, ⊎_elim, append_assoc, append-nil}
use Rattle.std.proofs.lemmas.List.{map-append, take-append-drop}
use Rattle.std.specs.Prelude.{codes, option_map, option_and_then}
use Rattle.std.specs.List.{AllByRecursion, slice_split, position_or_len, flat_map}
use Rattle.std.proofs.lemmas.Bool.{cases_Bool}
use Rattle.qasm_lex.specs.declared.token.Kind.{Kind}
use Rattle.qasm_lex.specs.declared.token.Kind.TheVariants.{Semi, Comma, LeftBrace, RightParen}
use Rattle.qasm_reader.specs.Lexemes.{Lexeme, code_of, is_kind, is_ident, is_free, is_name}
use Rattle.qasm_reader.specs.Forms.{Shape, shape, ident, mark, Argument, arguments, bare, names, Rotation, rotation, IsRotation, Entry, Bar, Call, Spin, entry, Form, Define, AreArguments, AreNames, IsEntry}
use Rattle.qasm_reader.specs.Parse.{consed, all_some, arguments_at, bare_name, names_of, names_at, in_parens, rotation_of, name_at, spin_in, call_at, entry_at, entries_in, entries_at, entries_behind, both, definition_at}
use Rattle.qasm_reader.proofs.Shapes.{to_mark, from_mark, to_ident, from_ident, to_name, from_name, not_ident}
use Rattle.qasm_reader.proofs.Splits.{FirstPart, split_of}
use Rattle.qasm_reader.proofs.Rotations.{up_to_first, cut_at, both_are, first_passes, rotation_is, is_rotated, name_is, is_name_at, closed, free_rotation, angle_apart, no_semi}
use Rattle.qasm_reader.proofs.Arguments.{mapped, tested, consed_is, and_then_is, chosen, IsJoin, join_split, IsList, arguments_are, are_arguments, Without, without_append, IsApart, arguments_apart, split_first, Parts, parts, free_is}

-- arguments without an index are names
names_are : (args : List Argument) (list : List (List ℕ)) → names_of args ≡ Some list → args ≡ map bare list
unfolding names_of
names_are args list e = go args list e
  where
    one : (a : Argument) (o : Option (List ℕ)) (name : List ℕ) → a.index ≡ o → bare_name (record { name = a.name; index = o }) ≡ Some name → a ≡ bare name
    one a None name i f = let n : a.name ≡ name = cc in λ j. record { name = n j; index = i j }
    one a (Some digits) name i f = absurd (cc)

    go : (xs : List Argument) (ns : List (List ℕ)) → all_some (map bare_name xs) ≡ Some ns → xs ≡ map bare ns
    go [] ns f = let none : ns ≡ [] = cc in ap (map bare) (sym none)
    go (x ∷ xs) ns f =
        let c = consed_is (bare_name x) (all_some (map bare_name xs)) ns f in
        let first = one x x.index c.0 refl c.2 in
        let more = go xs c.1 c.3 in
        let both : x ∷ xs ≡ map bare (c.0 ∷ c.1) = λ j. first j ∷ more j in
        both ∙ ap (map bare) c.4

-- names are arguments without an index
are_names : (list : List (List ℕ)) → names_of (map bare list) ≡ Some list
unfolding names_of
are_names list = go list
  where
    go : (ns : List (List ℕ)) → all_some (map bare_name (map bare ns)) ≡ Some ns
    go [] = refl
    go (n ∷ ns) = ap (consed (Some n)) (go ns)

-- names that are found are spelled
pub found_names : (ws : List Lexeme) (list : List (List ℕ)) → names_at ws ≡ Some list → (map shape ws ≡ names list) × AreNames list
unfolding names_at
found_names ws list e =
    let a = and_then_is names_of (arguments_at ws) list e in
    subst (IsList ws) (names_are a.0 list a.2) (arguments_are ws a.0 a.1)

-- names that are spelled are found
pub spelled_names : (ws : List Lexeme) (list : List (List ℕ)) → map shape ws ≡ names list → AreNames list → names_at ws ≡ Some list
unfolding names_at
spelled_names ws list e h = ap (option_and_then names_of) (are_arguments (map bare list) ws (e, h)) ∙ are_names list

-- an entry without its `;`
abbrev entry_front : Entry → List Shape
entry_front (Bar args) = ident (codes "barrier") ∷ names args
entry_front (Call name args) = ident name ∷ names args
entry_front (Spin r name) = rotation r ++ ident name ∷ []

-- an entry is its front and a `;`
entry_whole : (x : Entry) → entry x ≡ entry_front x ++ mark Semi ∷ []
entry_whole (Bar args) = refl
entry_whole (Call name args) = refl
entry_whole (Spin r name) = refl

-- an entry that is found behind a name is spelled
call_is : (w : Lexeme) (ws : List Lexeme) (x : Entry) → is_name w ≡ true → call_at w.bytes ws ≡ Some x → (map shape (w ∷ ws) ≡ entry_front x) × IsEntry x
unfolding call_at
call_is w ws x c e =
    ⊎_elim
    (λ (o, f). spun (in_parens ws) refl f)
    (λ (o, f).
    let m = mapped (Call w.bytes) _ x f in
    let i = found_names ws m.0 m.1 in
    let first = to_name w c in
    subst (λ (y : Entry). (map shape (w ∷ ws) ≡ entry_front y) × IsEntry y) m.2 (cc (first.0, i.0), (first.1, i.1)))
    (tested _ _ _ _ e)
  where
    spun : (o : Option (List Lexeme × List Lexeme)) → in_parens ws ≡ o → spin_in w.bytes o ≡ Some x → (map shape (w ∷ ws) ≡ entry_front x) × IsEntry x
    spun None p f = absurd (cc)
    spun (Some y) p f =
        let b = both_are Spin (rotation_of w.bytes y.0) (name_at y.1) x f in
        let r = rotation_is w ws y b.0 c p b.2 in
        let n = name_is y.1 b.1 b.3 in
        subst (λ (z : Entry). (map shape (w ∷ ws) ≡ entry_front z) × IsEntry z) b.4 (r.spelled ∙ ap (λ (l : List Shape). rotation b.0 ++ l) n.0, (r.is, n.1))

-- an entry that is found is spelled
entry_is : (ws : List Lexeme) (x : Entry) → entry_at ws ≡ Some x → (map shape ws ≡ entry_front x) × IsEntry x
unfolding entry_at
entry_is [] x e = absurd (cc)
entry_is (w ∷ ws) x e =
    ⊎_elim
    (λ (c, f).
    let m = mapped Bar _ x f in
    let i = found_names ws m.0 m.1 in
    let first = to_ident w (codes "barrier") c in
    subst (λ (y : Entry). (map shape (w ∷ ws) ≡ entry_front y) × IsEntry y) m.2 (cc (first, i.0), i.1))
    (λ (c, f). ⊎_elim
    (λ (d, g). call_is w ws x d g)
    (λ (d, g). absurd (cc))
    (tested _ _ _ _ f))
    (tested _ _ _ _ e)

-- an entry that is spelled is found behind its name
is_call : (name : List ℕ) (args : List (List ℕ)) (ws : List Lexeme) → map shape ws ≡ names args → AreNames args → call_at name ws ≡ Some (Call name args)
unfolding call_at
is_call name args ws e h =
    let shut = closed (map bare args) ws (e, h) in
    let i = spelled_names ws args e h in
    rw (shut, i) refl

is_spin : (r : Rotation) (name : List ℕ) (w : Lexeme) (ws : List Lexeme) → map shape (w ∷ ws) ≡ rotation r ++ ident name ∷ [] → IsRotation r → is_free name ≡ true → call_at r.name ws ≡ Some (Spin r name)
unfolding call_at
is_spin r name w ws e h f =
    let x = is_rotated r w ws (ident name ∷ []) e h in
    let n = is_name_at x.0.1 name x.4 f in
    ap (λ (t : Bool). cond t (spin_in r.name (in_parens ws)) (option_map (Call r.name) (names_at ws))) x.1
    ∙ ap (spin_in r.name) x.2 ∙ ap (λ (o : Option Rotation). both Spin o (name_at x.0.1)) x.3 ∙ ap (both Spin (Some r)) n

-- an entry that is spelled is found
is_entry : (x : Entry) (ws : List Lexeme) → map shape ws ≡ entry_front x → IsEntry x → entry_at ws ≡ Some x
unfolding entry_at
is_entry (Bar args) [] e h = absurd (cc)
is_entry (Call name args) [] e h = absurd (cc)
is_entry (Spin r name) [] e h = absurd (cc)
is_entry (Bar args) (w ∷ ws) e h =
    let s : shape w ≡ ident (codes "barrier") = cc in
    let i = spelled_names ws args (cc) h in
    rw (from_ident w (codes "barrier") s, i) refl
is_entry (Call name args) (w ∷ ws) e h =
    let s : shape w ≡ ident name = cc in
    let n = free_is name h.0 in
    let t = from_name w name s h.0 in
    let i = ap (λ (b : List ℕ). call_at b ws) t.1 ∙ is_call name args ws (cc) h.1 in
    rw (not_ident w name (codes "barrier") s n.1.1.1.1.0, t.0, i) refl
is_entry (Spin r name) (w ∷ ws) e h =
    let s : shape w ≡ ident r.name = cc in
    let free = free_rotation r.name h.0.name in
    let n = free_is r.name free in
    let t = from_name w r.name s free in
    let i = ap (λ (b : List ℕ). call_at b ws) t.1 ∙ is_spin r name w ws e h.0 h.1 in
    rw (not_ident w r.name (codes "barrier") s n.1.1.1.1.0, t.0, i) refl

-- an entry has a `;` at its end alone
semi_apart : IsApart Semi
semi_apart = record { ident = refl; number = refl; comma = refl; left = refl; right = refl }

front_apart : (x : Entry) → IsEntry x → Without Semi (entry_front x)
front_apart (Bar args) h = (refl, arguments_apart Semi (map bare args) semi_apart)
front_apart (Call name args) h = (refl, arguments_apart Semi (map bare args) semi_apart)
front_apart (Spin r name) h =
    without_append Semi (rotation r) (ident name ∷ []) (refl, (refl, without_append Semi r.angle (mark RightParen ∷ []) (angle_apart Semi r no_semi h.0) (refl, tt))) (refl, tt)

-- the lexemes are these entries, spelled
abbrev pub AreEntries : List Lexeme → List Entry → Type 0
AreEntries ws body = (map shape ws ≡ flat_map entry body) × AllByRecursion IsEntry body

-- an entry, a `;` and entries are entries
more_entries : (xs : List Lexeme) (w : Lexeme) (rest : List Lexeme) (x : Entry) (body : List Entry) → is_kind Semi w ≡ true
    → (map shape xs ≡ entry_front x) × IsEntry x → AreEntries rest body → AreEntries (xs ++ w ∷ rest) (x ∷ body)
more_entries xs w rest x body c h j =
    let semi = to_mark w Semi refl c in
    let whole : entry_front x ++ mark Semi ∷ flat_map entry body ≡ entry x ++ flat_map entry body =
    sym (append_assoc (entry_front x) (mark Semi ∷ []) (flat_map entry body)) ∙ ap (λ (l : List Shape). l ++ flat_map entry body) (sym (entry_whole x)) in
    let front : map shape (xs ++ w ∷ rest) ≡ entry_front x ++ mark Semi ∷ flat_map entry body = map-append shape xs (w ∷ rest) ∙ cc (h.0, semi, j.0) in
    (front ∙ whole, (h.1, j.1))

-- parts that are entries are entries together
parts_are_entries : (ps : List (List Lexeme)) (ws : List Lexeme) (body : List Entry) → IsJoin Semi ws ps → entries_in ps ≡ Some body → AreEntries ws body
parts_are_entries [] ws body j e = absurd j
parts_are_entries ([] ∷ []) ws body j e =
    let none : [] ≡ body = cc in
    subst (AreEntries ws) none (ap (map shape) j, tt)
parts_are_entries ((v ∷ vs) ∷ []) ws body j e = absurd (cc)
parts_are_entries (x ∷ y ∷ ps) ws body j e =
    let c = consed_is (entry_at x) (entries_in (y ∷ ps)) body (both_ways x e) in
    let rest = parts_are_entries (y ∷ ps) j.1 c.1 j.4 c.3 in
    subst (AreEntries ws) c.4 (subst (λ (l : List Lexeme). AreEntries l (c.0 ∷ c.1)) (sym j.3) (more_entries x j.0 j.1 c.0 c.1 j.2 (entry_is x c.0 c.2) rest))
  where
    both_ways : (z : List Lexeme) → entries_in (z ∷ y ∷ ps) ≡ Some body → consed (entry_at z) (entries_in (y ∷ ps)) ≡ Some body
    both_ways [] f = f
    both_ways (z ∷ zs) f = f

-- entries that are found are spelled
entries_are : (ws : List Lexeme) (body : List Entry) → entries_at ws ≡ Some body → AreEntries ws body
unfolding entries_at
entries_are ws body e = parts_are_entries (slice_split (is_kind Semi) ws) ws body (join_split Semi ws) e

-- an entry before other parts
next_entry : (x : Entry) (front : List Lexeme) (ps : List (List Lexeme)) (ws : List Lexeme) (body : List Entry) → IsJoin Semi ws ps → entry_at front ≡ Some x → entries_in ps ≡ Some body
    → entries_in (front ∷ ps) ≡ Some (x ∷ body)
next_entry x front [] ws body j e f = absurd j
next_entry x [] (p ∷ ps) ws body j e f = cc (e, f)
next_entry x (w ∷ front) (p ∷ ps) ws body j e f = cc (e, f)

-- entries that are spelled are found
are_entries : (body : List Entry) (ws : List Lexeme) → AreEntries ws body → entries_at ws ≡ Some body
unfolding entries_at
are_entries [] [] h = refl
are_entries [] (w ∷ ws) h = absurd (cc (h.0))
are_entries (x ∷ body) ws h =
    let whole : entry x ++ flat_map entry body ≡ entry_front x ++ mark Semi ∷ flat_map entry body =
    ap (λ (l : List Shape). l ++ flat_map entry body) (entry_whole x) ∙ append_assoc (entry_front x) (mark Semi ∷ []) (flat_map entry body) in
    let p = parts shape ws (entry_front x) (mark Semi ∷ flat_map entry body) (h.0 ∙ whole) in
    go p.rest p.front p.whole p.first p.second (λ vs f. are_entries body vs (f, h.1.1))
  where
    go : (rest front : List Lexeme) → ws ≡ front ++ rest → map shape front ≡ entry_front x → map shape rest ≡ mark Semi ∷ flat_map entry body
        → ((vs : List Lexeme) → map shape vs ≡ flat_map entry body → entries_in (slice_split (is_kind Semi) vs) ≡ Some body)
        → entries_in (slice_split (is_kind Semi) ws) ≡ Some (x ∷ body)
    go [] front whole first second more = absurd (cc)
    go (y ∷ ys) front whole first second more =
        let semi = from_mark y Semi (cc) in
        let split = split_first Semi front y ys (subst (Without Semi) (sym first) (front_apart x h.1.0)) semi in
        ap (λ (l : List Lexeme). entries_in (slice_split (is_kind Semi) l)) whole
        ∙ ap entries_in split
        ∙ next_entry x front (slice_split (is_kind Semi) ys) ys body (join_split Semi ys) (is_entry x front first h.1.0) (more ys (cc))

-- the tokens of a definition between its word and its end
abbrev pub Defines : List Lexeme → List ℕ → List (List ℕ) → List Entry → Type 0
Defines ws name list body = (map shape ws ≡ ident name ∷ (names list ++ mark LeftBrace ∷ flat_map entry body)) × (is_free name ≡ true) × AreNames list × AllByRecursion IsEntry body

-- a definition that is found is spelled
pub definition_is : (ws : List Lexeme) (f : Form) → definition_at ws ≡ Some f → (name : List ℕ) × (list : List (List ℕ)) × (body : List Entry) × (f ≡ Define name list body) × Defines ws name list body
unfolding definition_at
definition_is [] f e = absurd (cc)
definition_is (n ∷ ws) f e =
    ⊎_elim
    (λ (c, g).
    let b = both_are (Define n.bytes) _ _ f g in
    let list = found_names _ b.0 b.2 in
    let name = to_name n c in
    behind (drop (position_or_len (is_kind LeftBrace) ws) ws) refl b.0 b.1 b.3 b.4 list name)
    (λ (c, g). absurd (cc))
    (tested _ _ _ _ e)
  where
    size : ℕ
    size = position_or_len (is_kind LeftBrace) ws

    behind : (vs : List Lexeme) → drop size ws ≡ vs → (list : List (List ℕ)) (body : List Entry) → entries_behind (drop size ws) ≡ Some body → Define n.bytes list body ≡ f
        → (map shape (take size ws) ≡ names list) × AreNames list → (shape n ≡ ident n.bytes) × (is_free n.bytes ≡ true)
        → (name : List ℕ) × (list : List (List ℕ)) × (body : List Entry) × (f ≡ Define name list body) × Defines (n ∷ ws) name list body
    behind [] d list body g is l name = absurd (cc (d, g))
    behind (y ∷ ys) d list body g is l name =
        let more = entries_are ys body (sym (ap entries_behind d) ∙ g) in
        let brace = to_mark y LeftBrace refl (first_passes LeftBrace ws y ys d) in
        let whole : map shape ws ≡ names list ++ mark LeftBrace ∷ flat_map entry body =
        ap (map shape) (cut_at size ws ∙ ap (λ (r : List Lexeme). take size ws ++ r) d) ∙ map-append shape (take size ws) (y ∷ ys) ∙ cc (l.0, brace, more.0) in
        (n.bytes, list, body, sym is, (cc (name.0, whole), name.1, l.1, more.1))

brace_apart : IsApart LeftBrace
brace_apart = record { ident = refl; number = refl; comma = refl; left = refl; right = refl }

-- a definition that is spelled is found
pub is_definition : (ws : List Lexeme) (name : List ℕ) (list : List (List ℕ)) (body : List Entry) → Defines ws name list body → definition_at ws ≡ Some (Define name list body)
unfolding definition_at
is_definition [] name list body h = absurd (cc (h.0))
is_definition (n ∷ ws) name list body h =
    let p = parts shape ws (names list) (mark LeftBrace ∷ flat_map entry body) (cc (h.0)) in
    go p.rest p.front p.whole p.first p.second
  where
    go : (rest front : List Lexeme) → ws ≡ front ++ rest → map shape front ≡ names list → map shape rest ≡ mark LeftBrace ∷ flat_map entry body
        → cond (is_name n) (both (Define n.bytes) (names_at (take (position_or_len (is_kind LeftBrace) ws) ws)) (entries_behind (drop (position_or_len (is_kind LeftBrace) ws) ws))) None ≡ Some (Define name list body)
    go [] front whole first second = absurd (cc)
    go (y ∷ ys) front whole first second =
        let t = from_name n name (cc (h.0)) h.1 in
        let up = up_to_first LeftBrace front y ys (subst (Without LeftBrace) (sym first) (arguments_apart LeftBrace (map bare list) brace_apart)) (from_mark y LeftBrace (cc)) in
        let before : names_at (take (position_or_len (is_kind LeftBrace) ws) ws) ≡ Some list =
        ap (λ (l : List Lexeme). names_at (take (position_or_len (is_kind LeftBrace) l) l)) whole ∙ ap names_at up.0 ∙ spelled_names front list first h.2 in
        let behind : entries_behind (drop (position_or_len (is_kind LeftBrace) ws) ws) ≡ Some body =
        ap (λ (l : List Lexeme). entries_behind (drop (position_or_len (is_kind LeftBrace) l) l)) whole ∙ ap entries_behind up.1 ∙ are_entries body ys (cc (second), h.3) in
        rw (t.0, before, behind, t.1) refl

-- a part before others is the first entry
entries_cons : (front : List Lexeme) (ps : List (List Lexeme)) (ws : List Lexeme) → IsJoin Semi ws ps → entries_in (front ∷ ps) ≡ consed (entry_at front) (entries_in ps)
entries_cons front [] ws j = absurd j
entries_cons [] (p ∷ ps) ws j = refl
entries_cons (w ∷ front) (p ∷ ps) ws j = refl

-- where no `;` follows what is left, there are no entries
pub unended_entries : (all part more : List Lexeme) → FirstPart Semi all part more → more ≡ [] → (all ≡ [] → ⊥) → entries_at all ≡ None
unfolding entries_at
unended_entries all part more f m some =
    let split = (split_of Semi all part more f).0 m in
    let whole : all ≡ part = sym (take-append-drop f.size all) ∙ ap (λ (l : List Lexeme). take f.size all ++ l) (sym f.rest ∙ m) ∙ append-nil (take f.size all) ∙ sym f.front in
    ap entries_in split ∙ go part (λ e. some (whole ∙ e))
  where
    go : (p : List Lexeme) → (p ≡ [] → ⊥) → entries_in (p ∷ []) ≡ None
    go [] n = absurd (n refl)
    go (w ∷ p) n = refl

-- behind the first entry the rest is read
pub next_entries : (all part more : List Lexeme) → FirstPart Semi all part more → (more ≡ [] → ⊥) → entries_at all ≡ consed (entry_at part) (entries_at (drop 1 more))
unfolding entries_at
next_entries all part [] f m = absurd (m refl)
next_entries all part (w ∷ ys) f m =
    ap entries_in ((split_of Semi all part (w ∷ ys) f).1 w ys refl) ∙ entries_cons part (slice_split (is_kind Semi) ys) ys (join_split Semi ys)

-- no lexemes are no entries
pub no_entries : entries_at [] ≡ Some []
unfolding entries_at
no_entries = refl

-- the names of one argument and others
pub next_names : (a : Argument) (args : List Argument) → names_of (a ∷ args) ≡ consed (bare_name a) (names_of args)
unfolding names_of
next_names a args = refl

-- no arguments are no names
pub no_names : names_of [] ≡ Some []
unfolding names_of
no_names = refl
