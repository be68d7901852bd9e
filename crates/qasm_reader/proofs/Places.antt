-- The places of names among names: where there are no strangers and no twins, they are below the number of names, and differ.
use Rattle.std.proofs.Common.{◌≡◌, ◌≢◌, ℕ, suc, ◌<◌, Bool, true, false, not, ◌||◌, ◌==◌, List, [], ◌∷◌, length, map, get_or, arith, ap, ◌∙◌, sym, refl, ⊎_elim}
use Rattle.std.specs.List.{AllByRecursion, list_any}
use Rattle.std.specs.Str.{bytes_eq}
use Rattle.std.proofs.lemmas.Bool.{cases_Bool, not-false, ne_eqb}
use Rattle.std.proofs.lemmas.Slice.Eq.{bytes_eq-Decides}
use Rattle.qasm_reader.specs.State.{place_among}
use Rattle.qasm_reader.specs.Rows.{is_among, has_twin_names, has_stranger, has_twins}
use Rattle.qasm_reader.proofs.Splits.{position_yes, position_no}

-- where a disjunction fails both parts do
pub or_false : (x y : Bool) → (x || y) ≡ false → (x ≡ false) × (y ≡ false)
or_false true y e = absurd (cc)
or_false false y e = (refl, e)

-- where the right part holds a disjunction does
pub or_right : (x y : Bool) → y ≡ true → (x || y) ≡ true
or_right true y e = refl
or_right false y e = e

-- a name that isn't the first is among the others
among_others : (name first : List ℕ) (names : List (List ℕ)) → bytes_eq name first ≡ false → is_among (first ∷ names) name ≡ true → is_among names name ≡ true
among_others name first names e h = sym (ap (λ (t : Bool). t || is_among names name) e) ∙ h

-- the place of a name is below their number
pub place_below : (names : List (List ℕ)) (name : List ℕ) → is_among names name ≡ true → place_among names name < length names
place_below [] name h = absurd (cc)
place_below (x ∷ xs) name h =
    ⊎_elim
    (λ (e : bytes_eq name x ≡ true). omega (arith, position_yes (bytes_eq name) x xs e))
    (λ (e : bytes_eq name x ≡ false). omega (arith, position_no (bytes_eq name) x xs e, place_below xs name (among_others name x xs e h)))
    (cases_Bool (bytes_eq name x))

-- and the name stands there
name_at : (names : List (List ℕ)) (name : List ℕ) → is_among names name ≡ true → get_or names (place_among names name) [] ≡ name
name_at [] name h = absurd (cc)
name_at (x ∷ xs) name h =
    ⊎_elim
    (λ (e : bytes_eq name x ≡ true). ap (λ (i : ℕ). get_or (x ∷ xs) i []) (position_yes (bytes_eq name) x xs e) ∙ sym ((bytes_eq-Decides name x).0 e))
    (λ (e : bytes_eq name x ≡ false). ap (λ (i : ℕ). get_or (x ∷ xs) i []) (position_no (bytes_eq name) x xs e) ∙ name_at xs name (among_others name x xs e h))
    (cases_Bool (bytes_eq name x))

-- names differ where their places do
places_differ : (names : List (List ℕ)) (a b : List ℕ) → is_among names a ≡ true → is_among names b ≡ true → bytes_eq a b ≡ false → place_among names b ≢ place_among names a
places_differ names a b h k e same =
    let one : a ≡ b = sym (name_at names a h) ∙ ap (λ (i : ℕ). get_or names i []) (sym same) ∙ name_at names b k in
    absurd (cc ((bytes_eq-Decides a b).1 one, e))

-- a name without a twin has its place alone
one_place : (names : List (List ℕ)) (a : List ℕ) (args : List (List ℕ)) → is_among names a ≡ true → has_stranger names args ≡ false → is_among args a ≡ false
    → list_any (λ r. r == place_among names a) (map (place_among names) args) ≡ false
one_place names a [] h s t = refl
one_place names a (b ∷ bs) h s t =
    let p = or_false (not (is_among names b)) _ s in
    let q = or_false (bytes_eq a b) _ t in
    let here : (place_among names b == place_among names a) ≡ false = ne_eqb _ _ (places_differ names a b h (not-false _ p.0) q.0) in
    ap (λ (x : Bool). x || list_any (λ r. r == place_among names a) (map (place_among names) bs)) here ∙ one_place names a bs h p.1 q.1

-- the places of names without twins differ
pub places_apart : (names args : List (List ℕ)) → has_stranger names args ≡ false → has_twin_names args ≡ false → has_twins (map (place_among names) args) ≡ false
places_apart names [] s t = refl
places_apart names (a ∷ args) s t =
    let p = or_false (not (is_among names a)) _ s in
    let q = or_false (is_among args a) _ t in
    ap (λ (x : Bool). x || has_twins (map (place_among names) args)) (one_place names a args (not-false _ p.0) p.1 q.0) ∙ places_apart names args p.1 q.1

-- the places are below the number of names
pub places_below : (names args : List (List ℕ)) → has_stranger names args ≡ false → AllByRecursion (λ q. q < length names) (map (place_among names) args)
places_below names [] s = tt
places_below names (a ∷ args) s =
    let p = or_false (not (is_among names a)) _ s in
    (place_below names a (not-false _ p.0), places_below names args p.1)
