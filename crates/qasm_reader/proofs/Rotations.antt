-- Gates of an angle: how they are spelled and found.
use Rattle.std.proofs.Common.{◌≡◌, ℕ, ◌+◌, ◌<◌, Bool, true, false, cond, ◌&&◌, ◌||◌, ◌==◌, List, [], ◌∷◌, ◌++◌, length, map, take, drop, get_or, Option, Some, None, arith, ap, ◌∙◌, sym, refl, subst, ⊎_elim, append_assoc}
use Rattle.std.proofs.lemmas.List.{map-append, map_more, take-append-drop}
use Rattle.std.specs.Prelude.{codes}
use Rattle.std.specs.List.{list_any, position_or_len}
use Rattle.std.specs.Str.{bytes_eq}
use Rattle.std.proofs.lemmas.Bool.{cases_Bool, and_parts, and_from, and_right}
use Rattle.std.proofs.lemmas.Slice.Eq.{bytes_eq-Decides}
use Rattle.qasm_lex.specs.declared.token.Kind.{Kind}
use Rattle.qasm_lex.specs.declared.token.Kind.TheVariants.{Ident, Number, Quoted, Semi, Comma, LeftBracket, RightBracket, LeftBrace, RightBrace, LeftParen, RightParen, Other}
use Rattle.qasm_angle.specs.declared.symbols.Symbol.{Symbol}
use Rattle.qasm_angle.specs.declared.symbols.Symbol.TheVariants.{Foreign}
use Rattle.qasm_angle.specs.declared.angles.AngleValue.{AngleValue}
use Rattle.qasm_angle.specs.declared.angles.AngleValue.TheVariants.{Eighths, Inexact, NotAngle}
use Rattle.qasm_angle.specs.Symbols.{symbol}
use Rattle.qasm_angle.specs.Angles.{HasValue}
use Rattle.qasm_angle.specs.Steps.{value_of}
use Rattle.qasm_angle.proofs.Values.{has_value, only_value, is_foreign, home}
use Rattle.qasm_reader.specs.Lexemes.{Lexeme, code_of, is_kind, is_reserved, is_free, is_name}
use Rattle.qasm_reader.specs.Forms.{Shape, told_bytes, shape, ident, mark, Argument, index_in, arguments, Rotation, rotation, is_rotation, symbols, is_angle, IsRotation}
use Rattle.qasm_reader.specs.Parse.{both, around_first, in_parens, rotation_with, rotation_of, name_at, opens}
use Rattle.qasm_reader.specs.declared.lexemes.Lexeme.{Lexeme as CodeLexeme}
use Rattle.qasm_reader.specs.View.{lexeme, lexemes}
use Rattle.qasm_reader.proofs.Shapes.{same_kind, to_mark, from_mark, to_name, from_name, not_kind}
use Rattle.qasm_reader.proofs.Splits.{position_yes, position_no}
use Rattle.qasm_reader.proofs.Arguments.{chosen, tested, Without, Parts, parts, IsList}

-- up to the first of a kind, and what stands behind
pub up_to_first : (k : Kind) (front : List Lexeme) (y : Lexeme) (ys : List Lexeme) → Without k (map shape front) → is_kind k y ≡ true
    → (take (position_or_len (is_kind k) (front ++ y ∷ ys)) (front ++ y ∷ ys) ≡ front) × (drop (position_or_len (is_kind k) (front ++ y ∷ ys)) (front ++ y ∷ ys) ≡ y ∷ ys)
up_to_first k [] y ys n c =
    let none = position_yes (is_kind k) y ys c in
    (ap (λ (n : ℕ). take n (y ∷ ys)) none, ap (λ (n : ℕ). drop n (y ∷ ys)) none)
up_to_first k (x ∷ xs) y ys n c =
    let one = position_no (is_kind k) x (xs ++ y ∷ ys) n.0 in
    let more = up_to_first k xs y ys n.1 c in
    (ap (λ (n : ℕ). take n (x ∷ xs ++ y ∷ ys)) one ∙ ap (λ (l : List Lexeme). x ∷ l) more.0, ap (λ (n : ℕ). drop n (x ∷ xs ++ y ∷ ys)) one ∙ more.1)

-- what stands before and behind a place is the whole
pub cut_at : {A : Type 0} (n : ℕ) (xs : List A) → xs ≡ take n xs ++ drop n xs
cut_at n xs = sym (take-append-drop n xs)

-- two values that were found
pub both_are : {A B C : Type 0} (f : A → B → C) (x : Option A) (y : Option B) (z : C) → both f x y ≡ Some z → (a : A) × (b : B) × (x ≡ Some a) × (y ≡ Some b) × (f a b ≡ z)
both_are f None y z e = absurd (cc)
both_are f (Some x) None z e = absurd (cc)
both_are f (Some x) (Some y) z e = (x, y, refl, refl, cc)

-- behind the front that fails, the first to pass
pub first_passes : (k : Kind) (xs : List Lexeme) (y : Lexeme) (ys : List Lexeme) → drop (position_or_len (is_kind k) xs) xs ≡ y ∷ ys → is_kind k y ≡ true
first_passes k [] y ys d = absurd (cc)
first_passes k (x ∷ xs) y ys d =
    ⊎_elim
    (λ (c : is_kind k x ≡ true).
    let same : x ∷ xs ≡ y ∷ ys = sym (ap (λ (n : ℕ). drop n (x ∷ xs)) (position_yes (is_kind k) x xs c)) ∙ d in
    let one : x ≡ y = cc in subst (λ (z : Lexeme). is_kind k z ≡ true) one c)
    (λ (c : is_kind k x ≡ false). first_passes k xs y ys (sym (ap (λ (n : ℕ). drop n (x ∷ xs)) (position_no (is_kind k) x xs c)) ∙ d))
    (cases_Bool (is_kind k x))

-- what a shape tells is all that its symbol needs
symbol_told : (k : Kind) (b : List ℕ) → symbol k (told_bytes k b) ≡ symbol k b
unfolding symbol
symbol_told Ident b = refl
symbol_told Number b = refl
symbol_told Quoted b = refl
symbol_told Semi b = refl
symbol_told Comma b = refl
symbol_told LeftBracket b = refl
symbol_told RightBracket b = refl
symbol_told LeftBrace b = refl
symbol_told RightBrace b = refl
symbol_told LeftParen b = refl
symbol_told RightParen b = refl
symbol_told Other b = refl

-- a kind that is in no angle
pub IsNoSymbol : Kind → Type 0
IsNoSymbol k = (b : List ℕ) → symbol k b ≡ Foreign

pub no_semi : IsNoSymbol Semi
unfolding symbol IsNoSymbol
no_semi b = refl

pub no_right : IsNoSymbol RightParen
unfolding symbol IsNoSymbol
no_right b = refl

-- shapes without foreign symbols have no such kind
without_kind : (k : Kind) → IsNoSymbol k → (ss : List Shape) → list_any is_foreign (symbols ss) ≡ false → Without k ss
unfolding IsNoSymbol
without_kind k n [] e = tt
without_kind k n (s ∷ ss) e =
    let p = or_false (is_foreign (symbol s.kind s.bytes)) _ e in (
      ⊎_elim
          (λ (c : (code_of s.kind == code_of k) ≡ true).
          let foreign : symbol s.kind s.bytes ≡ Foreign = ap (λ (x : Kind). symbol x s.bytes) (same_kind s.kind k c) ∙ n s.bytes in
          absurd (cc (ap is_foreign foreign, p.0)))
          (λ (c : (code_of s.kind == code_of k) ≡ false). c)
          (cases_Bool (code_of s.kind == code_of k)),
      without_kind k n ss p.1,
    )
  where
    or_false : (x y : Bool) → (x || y) ≡ false → (x ≡ false) × (y ≡ false)
    or_false true y e = absurd (cc)
    or_false false y e = (refl, e)

-- nor has an angle
pub angle_apart : (k : Kind) (r : Rotation) → IsNoSymbol k → IsRotation r → Without k r.angle
angle_apart k r n h =
    without_kind k n r.angle (home (symbols r.angle) (λ none. absurd (go r.value (sym (only_value (symbols r.angle) r.value h.value) ∙ none) h.angle)))
  where
    go : (v : AngleValue) → v ≡ NotAngle → is_angle v ≡ true → ⊥
    go v e f = absurd (cc (ap is_angle e, f))

-- the names of gates of an angle are names
pub free_rotation : (name : List ℕ) → is_rotation name ≡ true → is_free name ≡ true
unfolding is_reserved
free_rotation name e =
    ⊎_elim
    (λ (c : bytes_eq name (codes "u1") ≡ true). subst (λ (b : List ℕ). is_free b ≡ true) (sym ((bytes_eq-Decides name (codes "u1")).0 c)) refl)
    (λ (c : bytes_eq name (codes "u1") ≡ false).
    let other : bytes_eq name (codes "rz") ≡ true = sym (ap (λ (t : Bool). t || bytes_eq name (codes "rz")) c) ∙ e in
    subst (λ (b : List ℕ). is_free b ≡ true) (sym ((bytes_eq-Decides name (codes "rz")).0 other)) refl)
    (cases_Bool (bytes_eq name (codes "u1")))

-- what is found in parentheses stands in them
parens_are : (ws : List Lexeme) (x : List Lexeme × List Lexeme) → in_parens ws ≡ Some x → map shape ws ≡ mark LeftParen ∷ (map shape x.0 ++ mark RightParen ∷ map shape x.1)
unfolding in_parens
parens_are [] x e = absurd (cc)
parens_are (o ∷ ws) x e =
    ⊎_elim
    (λ (c, g). go c (drop (position_or_len (is_kind RightParen) ws) ws) refl g)
    (λ (c, g). absurd (cc))
    (tested _ _ _ _ e)
  where
    size : ℕ
    size = position_or_len (is_kind RightParen) ws

    go : is_kind LeftParen o ≡ true → (vs : List Lexeme) → drop size ws ≡ vs → around_first (take size ws) (drop size ws) ≡ Some x
        → map shape (o ∷ ws) ≡ mark LeftParen ∷ (map shape x.0 ++ mark RightParen ∷ map shape x.1)
    go c [] d g = absurd (cc (sym (ap (around_first (take size ws)) d) ∙ g))
    go c (y ∷ ys) d g =
        let same : (take size ws, ys) ≡ x = cc (sym (ap (around_first (take size ws)) d) ∙ g) in
        let left = to_mark o LeftParen refl c in
        let right = to_mark y RightParen refl (first_passes RightParen ws y ys d) in
        let whole : map shape ws ≡ map shape (take size ws) ++ mark RightParen ∷ map shape ys =
        ap (map shape) (cut_at size ws ∙ ap (λ (r : List Lexeme). take size ws ++ r) d) ∙ map-append shape (take size ws) (y ∷ ys) ∙ ap (λ (s : Shape). map shape (take size ws) ++ s ∷ map shape ys) right in
        subst (λ (z : List Lexeme × List Lexeme). map shape (o ∷ ws) ≡ mark LeftParen ∷ (map shape z.0 ++ mark RightParen ∷ map shape z.1)) same (cc (left, whole))

-- a gate of an angle that is found has its parts
rotation_has : (name : List ℕ) (ws : List Lexeme) (r : Rotation) → rotation_of name ws ≡ Some r → (r.name ≡ name) × (r.angle ≡ map shape ws) × IsRotation r
unfolding rotation_of
rotation_has name ws r e =
    let t = chosen _ _ _ e in
    let p = and_parts (is_rotation name) _ t.0 in
    let made : IsRotation (rotation_with name (map shape ws)) = record { name = p.0; value = has_value (symbols (map shape ws)); angle = p.1 } in
    (sym (ap (λ (x : Rotation). x.name) t.1), sym (ap (λ (x : Rotation). x.angle) t.1), subst IsRotation t.1 made)

-- a gate of an angle and what stands behind it
pub record IsRotated (w : Lexeme) (ws : List Lexeme) (r : Rotation) (rest : List Lexeme) : Type 0 where
  pub spelled : map shape (w ∷ ws) ≡ rotation r ++ map shape rest
  pub is : IsRotation r

-- a gate of an angle that is found is spelled
pub rotation_is : (w : Lexeme) (ws : List Lexeme) (x : List Lexeme × List Lexeme) (r : Rotation) → is_name w ≡ true → in_parens ws ≡ Some x → rotation_of w.bytes x.0 ≡ Some r → IsRotated w ws r x.1
rotation_is w ws x r c e f =
    let p = parens_are ws x e in
    let h = rotation_has w.bytes x.0 r f in
    let name = to_name w c in
    let first : shape w ≡ ident r.name = name.0 ∙ ap ident (sym h.0) in
    let inner : map shape ws ≡ mark LeftParen ∷ (r.angle ++ mark RightParen ∷ map shape x.1) = p ∙ ap (λ (l : List Shape). mark LeftParen ∷ (l ++ mark RightParen ∷ map shape x.1)) (sym h.1) in
    let moved : mark LeftParen ∷ (r.angle ++ mark RightParen ∷ map shape x.1) ≡ (mark LeftParen ∷ (r.angle ++ mark RightParen ∷ [])) ++ map shape x.1 =
    ap (λ (l : List Shape). mark LeftParen ∷ l) (sym (append_assoc r.angle (mark RightParen ∷ []) (map shape x.1))) in
    record { spelled = cc (first, inner ∙ moved); is = h.2 }

-- what is spelled of a gate of an angle is found
pub is_rotated : (r : Rotation) (w : Lexeme) (ws : List Lexeme) (rest : List Shape) → map shape (w ∷ ws) ≡ rotation r ++ rest → IsRotation r
    → (x : List Lexeme × List Lexeme) × (opens ws ≡ true) × (in_parens ws ≡ Some x) × (rotation_of r.name x.0 ≡ Some r) × (map shape x.1 ≡ rest)
unfolding opens in_parens rotation_of
is_rotated r w [] rest e h = absurd (cc)
is_rotated r w (o ∷ ws) rest e h =
    let inner : map shape ws ≡ (r.angle ++ mark RightParen ∷ []) ++ rest = cc in
    let p = parts shape ws r.angle (mark RightParen ∷ rest) (inner ∙ append_assoc r.angle (mark RightParen ∷ []) rest) in
    go p.rest p.front p.whole p.first p.second
  where
    left : is_kind LeftParen o ≡ true
    left = from_mark o LeftParen (cc)

    made : (front : List Lexeme) → map shape front ≡ r.angle → rotation_of r.name front ≡ Some r
    made front e =
        let value : value_of (symbols (map shape front)) ≡ r.value = ap (λ (l : List Shape). value_of (symbols l)) e ∙ only_value (symbols r.angle) r.value h.value in
        let same : rotation_with r.name (map shape front) ≡ r = λ i. record { name = r.name; angle = e i; value = value i } in
        ap (λ (x : Rotation). cond (is_rotation r.name && is_angle x.value) (Some x) None) same ∙ ap (λ (t : Bool). cond t (Some r) None) (and_from _ _ h.name h.angle)

    go : (vs front : List Lexeme) → ws ≡ front ++ vs → map shape front ≡ r.angle → map shape vs ≡ mark RightParen ∷ rest
        → (x : List Lexeme × List Lexeme) × (is_kind LeftParen o ≡ true)
        × (cond (is_kind LeftParen o) (around_first (take (position_or_len (is_kind RightParen) ws) ws) (drop (position_or_len (is_kind RightParen) ws) ws)) None ≡ Some x)
        × (rotation_of r.name x.0 ≡ Some r) × (map shape x.1 ≡ rest)
    go [] front whole first second = absurd (cc)
    go (y ∷ ys) front whole first second =
        let up = up_to_first RightParen front y ys (subst (Without RightParen) (sym first) (angle_apart RightParen r no_right h)) (from_mark y RightParen (cc)) in
        let cut : around_first (take (position_or_len (is_kind RightParen) ws) ws) (drop (position_or_len (is_kind RightParen) ws) ws) ≡ Some (front, ys) =
        ap (λ (l : List Lexeme). around_first (take (position_or_len (is_kind RightParen) l) l) (drop (position_or_len (is_kind RightParen) l) l)) whole
        ∙ ap (λ (l : List Lexeme). around_first l (drop (position_or_len (is_kind RightParen) (front ++ y ∷ ys)) (front ++ y ∷ ys))) up.0
        ∙ ap (around_first front) up.1 in
        ((front, ys), left, rw (left, cut) refl, made front first, cc (second))

-- a name alone
pub name_is : (ws : List Lexeme) (name : List ℕ) → name_at ws ≡ Some name → (map shape ws ≡ ident name ∷ []) × (is_free name ≡ true)
unfolding name_at
name_is [] name e = absurd (cc)
name_is (w ∷ []) name e =
    let t = chosen _ _ _ e in
    let n = to_name w t.0 in
    subst (λ (b : List ℕ). (map shape (w ∷ []) ≡ ident b ∷ []) × (is_free b ≡ true)) t.1 (cc (n.0), n.1)
name_is (w ∷ v ∷ ws) name e = absurd (cc)

pub is_name_at : (ws : List Lexeme) (name : List ℕ) → map shape ws ≡ ident name ∷ [] → is_free name ≡ true → name_at ws ≡ Some name
unfolding name_at
is_name_at [] name e f = absurd (cc)
is_name_at (w ∷ []) name e f = let n = from_name w name (cc) f in rw (n.0, n.1) refl
is_name_at (w ∷ v ∷ ws) name e f = absurd (cc)

-- arguments begin with no parenthesis
pub closed : (args : List Argument) (ws : List Lexeme) → IsList ws args → opens ws ≡ false
unfolding opens arguments
closed [] ws h = absurd (omega (arith, h.1.0))
closed (a ∷ args) [] h = refl
closed (a ∷ []) (w ∷ ws) h = not_kind w Ident LeftParen a.name (cc (h.0)) refl
closed (a ∷ b ∷ args) (w ∷ ws) h = not_kind w Ident LeftParen a.name (cc (h.0)) refl

-- the symbols of lexemes with one lexeme more
pub symbols_more : (ws : List CodeLexeme) (i : ℕ) (d : CodeLexeme) → i < length ws
    → symbols (map shape (lexemes (take (i + 1) ws))) ≡ symbols (map shape (lexemes (take i ws))) ++ symbol (get_or ws i d).kind (get_or ws i d).bytes.now ∷ []
symbols_more ws i d h =
    let w = lexeme (get_or ws i d) in
    ap (λ (l : List Lexeme). symbols (map shape l)) (map_more lexeme ws i d h)
    ∙ ap symbols (map-append shape (lexemes (take i ws)) (w ∷ []))
    ∙ map-append (λ (s : Shape). symbol s.kind s.bytes) (map shape (lexemes (take i ws))) (shape w ∷ [])
    ∙ ap (λ (s : Symbol). symbols (map shape (lexemes (take i ws))) ++ s ∷ []) (symbol_told w.kind w.bytes)

-- a name and tokens that are no angle are no gate of an angle
pub no_rotation : (name : List ℕ) (ws : List Lexeme) (v : AngleValue) → HasValue (symbols (map shape ws)) v → is_angle v ≡ false → rotation_of name ws ≡ None
unfolding rotation_of
no_rotation name ws v h e =
    ap (λ (t : Bool). cond t (Some (rotation_with name (map shape ws))) None) (and_right (is_rotation name) _ (ap is_angle (only_value (symbols (map shape ws)) v h) ∙ e))

-- a name of one and the tokens of an angle are
pub some_rotation : (name : List ℕ) (ws : List Lexeme) (v : AngleValue) → is_rotation name ≡ true → HasValue (symbols (map shape ws)) v → is_angle v ≡ true
    → rotation_of name ws ≡ Some (record { name = name; angle = map shape ws; value = v })
unfolding rotation_of
some_rotation name ws v n h e =
    let value = only_value (symbols (map shape ws)) v h in
    let same : rotation_with name (map shape ws) ≡ record { name = name; angle = map shape ws; value = v } = λ i. record { name = name; angle = map shape ws; value = value i } in
    ap (λ (x : Rotation). cond (is_rotation name && is_angle x.value) (Some x) None) same ∙ ap (λ (t : Bool). cond t (Some (record { name = name; angle = map shape ws; value = v })) None) (and_from _ _ n e)
