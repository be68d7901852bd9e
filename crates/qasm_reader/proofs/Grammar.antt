-- `form_of` gives the form of a statement.
use Rattle.std.proofs.Common.{◌≡◌, ℕ, Bool, true, false, cond, ◌==◌, List, [], ◌∷◌, ◌++◌, map, Option, Some, None, arith, ap, ◌∙◌, sym, refl, subst, ⊎_elim, append-nil}
use Rattle.std.proofs.lemmas.List.{map-append}
use Rattle.std.specs.Prelude.{codes, option_map, option_and_then}
use Rattle.std.specs.List.{flat_map}
use Rattle.std.specs.Str.{bytes_eq}
use Rattle.qasm_lex.specs.declared.token.Kind.{Kind}
use Rattle.qasm_lex.specs.declared.token.Kind.TheVariants.{Semi, LeftBrace, RightBrace}
use Rattle.qasm_reader.specs.Lexemes.{Lexeme, is_kind, is_ident, is_name, is_free, is_whole, closer}
use Rattle.qasm_reader.specs.Forms.{Shape, told_bytes, shape, ident, quoted, mark, in_brackets, Argument, argument, arguments, names, Rotation, rotation, IsRotation, IsArgument, AreArguments, entry, Form, Include, Qreg, Creg, Barrier, Apply, Turn, Define, spelled, HasParts, IsForm, HasForm}
use Rattle.qasm_reader.specs.Parse.{without_last, body_of, both, argument_at, arguments_at, in_parens, rotation_of, turn_in, gate_at, include_at, definition_at, form_behind, form_in, form_of}
use Rattle.qasm_reader.proofs.Shapes.{to_mark, from_mark, to_quoted, from_quoted, to_ident, from_ident, to_name, from_name, not_ident}
use Rattle.qasm_reader.proofs.Arguments.{chosen, mapped, tested, and_then_is, indexed_is, is_indexed, argument_is, is_argument, arguments_are, are_arguments, Parts, parts, free_is}
use Rattle.qasm_reader.proofs.Rotations.{both_are, rotation_is, is_rotated, closed, free_rotation}
use Rattle.qasm_reader.proofs.Entries.{definition_is, is_definition}

-- a lexeme of the kind at the end
without_last_is : (k : Kind) (ws b : List Lexeme) → without_last k ws ≡ Some b → (w : Lexeme) × (is_kind k w ≡ true) × (ws ≡ b ++ w ∷ [])
unfolding without_last
without_last_is k [] b e = absurd (cc)
without_last_is k (w ∷ []) b e = let t = chosen _ _ _ e in (w, t.0, ap (λ (l : List Lexeme). l ++ w ∷ []) t.1)
without_last_is k (w ∷ v ∷ ws) b e =
    let m = mapped (λ (l : List Lexeme). w ∷ l) _ b e in
    let more = without_last_is k (v ∷ ws) m.0 m.1 in
    (more.0, more.1, ap (λ (l : List Lexeme). w ∷ l) more.2 ∙ ap (λ (l : List Lexeme). l ++ more.0 ∷ []) m.2)

-- what stands before a lexeme of the kind at the end is found
pub is_without_last : (k : Kind) (ws b : List Lexeme) (w : Lexeme) → ws ≡ b ++ w ∷ [] → is_kind k w ≡ true → without_last k ws ≡ Some b
unfolding without_last
is_without_last k ws [] w e c = ap (without_last k) e ∙ ap (λ (t : Bool). cond t (Some []) None) c
is_without_last k ws (v ∷ []) w e c = ap (without_last k) e ∙ ap (option_map (λ (l : List Lexeme). v ∷ l)) (is_without_last k (w ∷ []) [] w refl c)
is_without_last k ws (v ∷ u ∷ b) w e c = ap (without_last k) e ∙ ap (option_map (λ (l : List Lexeme). v ∷ l)) (is_without_last k (u ∷ b ++ w ∷ []) (u ∷ b) w refl c)

-- where another lexeme is at the end, nothing is found
pub none_without_last : (k : Kind) (ws b : List Lexeme) (w : Lexeme) → ws ≡ b ++ w ∷ [] → is_kind k w ≡ false → without_last k ws ≡ None
unfolding without_last
none_without_last k ws [] w e c = ap (without_last k) e ∙ ap (λ (t : Bool). cond t (Some []) None) c
none_without_last k ws (v ∷ []) w e c = ap (without_last k) e ∙ ap (option_map (λ (l : List Lexeme). v ∷ l)) (none_without_last k (w ∷ []) [] w refl c)
none_without_last k ws (v ∷ u ∷ b) w e c = ap (without_last k) e ∙ ap (option_map (λ (l : List Lexeme). v ∷ l)) (none_without_last k (u ∷ b ++ w ∷ []) (u ∷ b) w refl c)

-- the tokens of a form without the one that ends it
abbrev pub front_of : Form → List Shape
front_of (Include text) = ident (codes "include") ∷ quoted text ∷ []
front_of (Qreg name size) = ident (codes "qreg") ∷ ident name ∷ in_brackets size
front_of (Creg name size) = ident (codes "creg") ∷ ident name ∷ in_brackets size
front_of (Barrier args) = ident (codes "barrier") ∷ arguments args
front_of (Apply name args) = ident name ∷ arguments args
front_of (Turn r a) = rotation r ++ argument a
front_of (Define name list body) = ident (codes "gate") ∷ ident name ∷ (names list ++ mark LeftBrace ∷ flat_map entry body)

-- and the kind of that one
abbrev pub end_of : Form → Kind
end_of (Include text) = Semi
end_of (Qreg name size) = Semi
end_of (Creg name size) = Semi
end_of (Barrier args) = Semi
end_of (Apply name args) = Semi
end_of (Turn r a) = Semi
end_of (Define name list body) = RightBrace

-- a form is its front and its end
pub whole_is : (f : Form) → spelled f ≡ front_of f ++ mark (end_of f) ∷ []
whole_is (Include text) = refl
whole_is (Qreg name size) = refl
whole_is (Creg name size) = refl
whole_is (Barrier args) = refl
whole_is (Apply name args) = refl
whole_is (Turn r a) = refl
whole_is (Define name list body) = refl

-- a mark tells no bytes
end_told : (f : Form) (bytes : List ℕ) → told_bytes (end_of f) bytes ≡ []
end_told (Include text) bytes = refl
end_told (Qreg name size) bytes = refl
end_told (Creg name size) bytes = refl
end_told (Barrier args) bytes = refl
end_told (Apply name args) bytes = refl
end_told (Turn r a) bytes = refl
end_told (Define name list body) bytes = refl

-- a word that isn't `gate` begins a statement that ends with `;`
other_closer : (w : Lexeme) (b : List ℕ) → shape w ≡ ident b → bytes_eq b (codes "gate") ≡ false → closer w ≡ Semi
other_closer w b s n = ap (λ (t : Bool). cond t RightBrace Semi) (not_ident w b (codes "gate") s n)

-- the first token of a form tells its end
pub closer_is : (f : Form) (w : Lexeme) (more : List Lexeme) (rest : List Shape) → map shape (w ∷ more) ≡ front_of f ++ rest → HasParts f → closer w ≡ end_of f
closer_is (Include text) w more rest e h = other_closer w (codes "include") (cc) refl
closer_is (Qreg name size) w more rest e h = other_closer w (codes "qreg") (cc) refl
closer_is (Creg name size) w more rest e h = other_closer w (codes "creg") (cc) refl
closer_is (Barrier args) w more rest e h = other_closer w (codes "barrier") (cc) refl
closer_is (Apply name args) w more rest e h = let n = free_is name h.0 in other_closer w name (cc) n.1.1.1.1.1.1.1.1.1.0
closer_is (Turn r a) w more rest e h = let n = free_is r.name (free_rotation r.name h.0.name) in other_closer w r.name (cc) n.1.1.1.1.1.1.1.1.1.0
closer_is (Define name list body) w more rest e h = ap (λ (t : Bool). cond t RightBrace Semi) (from_ident w (codes "gate") (cc))

-- the tokens of a form without the one that ends it
abbrev FormBody : List Lexeme → Form → Type 0
FormBody b f = (map shape b ≡ front_of f) × HasParts f

-- an include that is found is spelled
include_is : (w : Lexeme) (ws : List Lexeme) (f : Form) → is_ident (codes "include") w ≡ true → include_at ws ≡ Some f → FormBody (w ∷ ws) f
unfolding include_at
include_is w [] f c e = absurd (cc)
include_is w (q ∷ []) f c e =
    let t = chosen _ _ _ e in
    let lexeme = to_ident w (codes "include") c in
    let text = to_quoted q t.0 in
    subst (FormBody (w ∷ q ∷ [])) t.1 (cc (lexeme, text), tt)
include_is w (q ∷ v ∷ vs) f c e = absurd (cc)

-- a definition that is found is spelled
define_is : (w : Lexeme) (ws : List Lexeme) (f : Form) → is_ident (codes "gate") w ≡ true → definition_at ws ≡ Some f → FormBody (w ∷ ws) f
define_is w ws f c e =
    let d = definition_is ws f e in
    let word = to_ident w (codes "gate") c in
    subst (FormBody (w ∷ ws)) (sym d.3) (cc (word, d.4.0), (d.4.1, d.4.2, d.4.3))

-- a form that is found behind a name is spelled
gate_is : (w : Lexeme) (ws : List Lexeme) (f : Form) → is_name w ≡ true → gate_at w.bytes ws ≡ Some f → FormBody (w ∷ ws) f
unfolding gate_at
gate_is w ws f c e =
    ⊎_elim
    (λ (o, g). turned (in_parens ws) refl g)
    (λ (o, g).
    let m = mapped (Apply w.bytes) _ f g in
    let i = arguments_are ws m.0 m.1 in
    let lexeme = to_name w c in
    subst (FormBody (w ∷ ws)) m.2 (cc (lexeme.0, i.0), (lexeme.1, i.1)))
    (tested _ _ _ _ e)
  where
    turned : (o : Option (List Lexeme × List Lexeme)) → in_parens ws ≡ o → turn_in w.bytes o ≡ Some f → FormBody (w ∷ ws) f
    turned None p g = absurd (cc)
    turned (Some x) p g =
        let b = both_are Turn (rotation_of w.bytes x.0) (argument_at x.1) f g in
        let r = rotation_is w ws x b.0 c p b.2 in
        let a = argument_is x.1 b.1 b.3 in
        subst (FormBody (w ∷ ws)) b.4 (r.spelled ∙ ap (λ (l : List Shape). rotation b.0 ++ l) a.0, (r.is, a.1))

-- a form that is found behind the first lexeme is spelled
behind_is : (w : Lexeme) (ws : List Lexeme) (f : Form) → form_behind w ws ≡ Some f → FormBody (w ∷ ws) f
unfolding form_behind
behind_is w ws f e =
    ⊎_elim
    (λ (c, x). include_is w ws f c x)
    (λ (c, x). ⊎_elim
    (λ (c, x).
    let m = mapped (λ (x : List ℕ × List ℕ). Qreg x.0 x.1) _ f x in
    let i = indexed_is ws m.0 m.1 in
    let lexeme = to_ident w (codes "qreg") c in
    subst (FormBody (w ∷ ws)) m.2 (cc (lexeme, i.0), (i.1, i.2)))
    (λ (c, x). ⊎_elim
    (λ (c, x).
    let m = mapped (λ (x : List ℕ × List ℕ). Creg x.0 x.1) _ f x in
    let i = indexed_is ws m.0 m.1 in
    let lexeme = to_ident w (codes "creg") c in
    subst (FormBody (w ∷ ws)) m.2 (cc (lexeme, i.0), (i.1, i.2)))
    (λ (c, x). ⊎_elim
    (λ (c, x). define_is w ws f c x)
    (λ (c, x). ⊎_elim
    (λ (c, x).
    let m = mapped Barrier _ f x in
    let i = arguments_are ws m.0 m.1 in
    let lexeme = to_ident w (codes "barrier") c in
    subst (FormBody (w ∷ ws)) m.2 (cc (lexeme, i.0), i.1))
    (λ (c, x). ⊎_elim
    (λ (c, x). gate_is w ws f c x)
    (λ (c, x). absurd (cc))
    (tested _ _ _ _ x))
    (tested _ _ _ _ x))
    (tested _ _ _ _ x))
    (tested _ _ _ _ x))
    (tested _ _ _ _ x))
    (tested _ _ _ _ e)

-- a register that is spelled is found
in_register : (w : Lexeme) (vs : List Lexeme) (name size : List ℕ) → is_free name ≡ true → is_whole size ≡ true → map shape vs ≡ ident name ∷ in_brackets size
    → (shape w ≡ ident (codes "qreg") → form_behind w vs ≡ Some (Qreg name size)) × (shape w ≡ ident (codes "creg") → form_behind w vs ≡ Some (Creg name size))
unfolding form_behind
in_register w vs name size f g e =
    let i = is_indexed vs name size e f g in (
      λ s. rw (not_ident w (codes "qreg") (codes "include") s refl, from_ident w (codes "qreg") s, i) refl,
      λ s. rw (not_ident w (codes "creg") (codes "include") s refl, not_ident w (codes "creg") (codes "qreg") s refl, from_ident w (codes "creg") s, i) refl,
    )

-- an include that is spelled is found
in_include : (w : Lexeme) (vs : List Lexeme) (text : List ℕ) → shape w ≡ ident (codes "include") → map shape vs ≡ quoted text ∷ [] → form_behind w vs ≡ Some (Include text)
unfolding form_behind include_at
in_include w [] text s e = absurd (cc)
in_include w (q ∷ []) text s e =
    let t = from_quoted q text (cc) in
    rw (from_ident w (codes "include") s, t.0, t.1) refl
in_include w (q ∷ v ∷ vs) text s e = absurd (cc)

-- a gate that is spelled is found behind its name
is_gate : (name : List ℕ) (args : List Argument) (vs : List Lexeme) → map shape vs ≡ arguments args → AreArguments args → gate_at name vs ≡ Some (Apply name args)
unfolding gate_at
is_gate name args vs e h =
    let shut = closed args vs (e, h) in
    let i = are_arguments args vs (e, h) in
    rw (shut, i) refl

is_turned : (r : Rotation) (a : Argument) (w : Lexeme) (vs : List Lexeme) → map shape (w ∷ vs) ≡ rotation r ++ argument a → IsRotation r → IsArgument a → gate_at r.name vs ≡ Some (Turn r a)
unfolding gate_at
is_turned r a w vs e h f =
    let x = is_rotated r w vs (argument a) e h in
    let n = is_argument x.0.1 a x.4 f in
    ap (λ (t : Bool). cond t (turn_in r.name (in_parens vs)) (option_map (Apply r.name) (arguments_at vs))) x.1
    ∙ ap (turn_in r.name) x.2 ∙ ap (λ (o : Option Rotation). both Turn o (argument_at x.0.1)) x.3 ∙ ap (both Turn (Some r)) n

-- a name that is free begins no other form
in_named : (f : Form) (w : Lexeme) (vs : List Lexeme) (name : List ℕ) → shape w ≡ ident name → is_free name ≡ true → gate_at name vs ≡ Some f → form_behind w vs ≡ Some f
unfolding form_behind
in_named f w vs name s free found =
    let n = free_is name free in
    let t = from_name w name s free in
    let i = ap (λ (b : List ℕ). gate_at b vs) t.1 ∙ found in
    rw (not_ident w name (codes "include") s n.1.0, not_ident w name (codes "qreg") s n.1.1.0, not_ident w name (codes "creg") s n.1.1.1.0, not_ident w name (codes "gate") s n.1.1.1.1.1.1.1.1.1.0, not_ident w name (codes "barrier") s n.1.1.1.1.0, t.0, i) refl

-- a form that is spelled is found behind its first lexeme
in_form : (f : Form) (w : Lexeme) (vs : List Lexeme) → map shape (w ∷ vs) ≡ front_of f → HasParts f → form_behind w vs ≡ Some f
unfolding form_behind
in_form (Include text) w vs e h = in_include w vs text (cc) (cc)
in_form (Qreg name size) w vs e h = (in_register w vs name size h.0 h.1 (cc)).0 (cc)
in_form (Creg name size) w vs e h = (in_register w vs name size h.0 h.1 (cc)).1 (cc)
in_form (Barrier args) w vs e h =
    let s : shape w ≡ ident (codes "barrier") = cc in
    let i = are_arguments args vs (cc, h) in
    rw (not_ident w (codes "barrier") (codes "include") s refl, not_ident w (codes "barrier") (codes "qreg") s refl, not_ident w (codes "barrier") (codes "creg") s refl, not_ident w (codes "barrier") (codes "gate") s refl, from_ident w (codes "barrier") s, i) refl
in_form (Apply name args) w vs e h = in_named (Apply name args) w vs name (cc) h.0 (is_gate name args vs (cc) h.1)
in_form (Turn r a) w vs e h = in_named (Turn r a) w vs r.name (cc) (free_rotation r.name h.0.name) (is_turned r a w vs e h.0 h.1)
in_form (Define name list body) w vs e h =
    let s : shape w ≡ ident (codes "gate") = cc in
    let i = is_definition vs name list body (cc, h.0, h.1, h.2) in
    rw (not_ident w (codes "gate") (codes "include") s refl, not_ident w (codes "gate") (codes "qreg") s refl, not_ident w (codes "gate") (codes "creg") s refl, from_ident w (codes "gate") s, i) refl

-- a form that is spelled is found in the body
in_body : (f : Form) (b : List Lexeme) → map shape b ≡ front_of f → HasParts f → form_in b ≡ Some f
unfolding form_in
in_body (Include text) [] e h = absurd (cc)
in_body (Qreg name size) [] e h = absurd (cc)
in_body (Creg name size) [] e h = absurd (cc)
in_body (Barrier args) [] e h = absurd (cc)
in_body (Apply name args) [] e h = absurd (cc)
in_body (Turn r a) [] e h = absurd (cc)
in_body (Define name list body) [] e h = absurd (cc)
in_body f (w ∷ vs) e h = in_form f w vs e h

-- what has a form gives it, and what is given is the form
pub form_to : (ws : List Lexeme) (f : Form) → IsForm ws f → form_of ws ≡ Some f
unfolding form_of body_of
form_to [] f h = absurd (none f (h.0 ∙ whole_is f))
  where
    none : (g : Form) → [] ≡ front_of g ++ mark (end_of g) ∷ [] → ⊥
    none (Include text) e = cc
    none (Qreg name size) e = cc
    none (Creg name size) e = cc
    none (Barrier args) e = cc
    none (Apply name args) e = cc
    none (Turn r a) e = cc
    none (Define name list body) e = cc
form_to (v ∷ vs) f h =
    let p = parts shape (v ∷ vs) (front_of f) (mark (end_of f) ∷ []) (h.0 ∙ whole_is f) in
    go p.rest p.front p.whole p.first p.second
  where
    go : (rest front : List Lexeme) → v ∷ vs ≡ front ++ rest → map shape front ≡ front_of f → map shape rest ≡ mark (end_of f) ∷ [] → option_and_then form_in (without_last (closer v) (v ∷ vs)) ≡ Some f
    go [] front whole first second = absurd (cc)
    go (w ∷ []) front whole first second =
        let kind : is_kind (closer v) w ≡ true = ap (λ (k : Kind). is_kind k w) (closer_is f v vs (mark (end_of f) ∷ []) (h.0 ∙ whole_is f) h.1) ∙ from_mark w (end_of f) (cc) in
        ap (option_and_then form_in) (is_without_last (closer v) (v ∷ vs) front w whole kind) ∙ in_body f front first h.1
    go (w ∷ u ∷ us) front whole first second = absurd (cc)

-- a form that is found in the body is spelled
in_is : (b : List Lexeme) (f : Form) → form_in b ≡ Some f → FormBody b f
unfolding form_in
in_is [] f e = absurd (cc)
in_is (w ∷ ws) f e = behind_is w ws f e

-- a form that is found is spelled
pub form_is : (ws : List Lexeme) (f : Form) → form_of ws ≡ Some f → IsForm ws f
unfolding form_of body_of form_in
form_is [] f e = absurd (cc)
form_is (v ∷ vs) f e =
    let a = and_then_is form_in (without_last (closer v) (v ∷ vs)) f e in
    let l = without_last_is (closer v) (v ∷ vs) a.0 a.1 in
    go a.0 (in_is a.0 f a.2) l.0 l.1 l.2 a.2
  where
    go : (b : List Lexeme) → FormBody b f → (w : Lexeme) → is_kind (closer v) w ≡ true → v ∷ vs ≡ b ++ w ∷ [] → form_in b ≡ Some f → IsForm (v ∷ vs) f
    go [] i w k whole found = absurd (cc (found))
    go (u ∷ us) i w k whole found =
        let first : u ≡ v = cc in
        let kind : closer v ≡ end_of f = ap closer (sym first) ∙ closer_is f u us [] (i.0 ∙ sym (append-nil (front_of f))) i.1 in
        let end : shape w ≡ mark (end_of f) = to_mark w (end_of f) (end_told f w.bytes) (sym (ap (λ (x : Kind). is_kind x w) kind) ∙ k) in
        let shapes : map shape (v ∷ vs) ≡ front_of f ++ mark (end_of f) ∷ [] = ap (map shape) whole ∙ map-append shape (u ∷ us) (w ∷ []) ∙ cc (i.0, end) in
        (shapes ∙ sym (whole_is f), i.1)

-- each statement has the form that is computed, and no other
pub has_form : (ws : List Lexeme) → HasForm ws (form_of ws)
has_form ws = go (form_of ws) refl
  where
    go : (o : Option Form) → form_of ws ≡ o → HasForm ws o
    go None e = λ f h. absurd (cc (form_to ws f h))
    go (Some f) e = form_is ws f e

-- a statement has no other form than the one that is found
pub same_form : (ws : List Lexeme) (o : Option Form) → HasForm ws o → o ≡ form_of ws
same_form ws None h = go (form_of ws) refl
  where
    go : (o : Option Form) → form_of ws ≡ o → None ≡ o
    go None e = refl
    go (Some f) e = absurd (h f (form_is ws f e))
same_form ws (Some f) h = sym (form_to ws f h)
