-- Lists by index.
use Rattle.std.proofs.Common.{◌≡◌, ℕ, zero, suc, ◌<◌, List, [], ◌∷◌, ◌++◌, Some, map, get_or, length, slice_get, refl, sym, ◌∙◌, arith}
use Rattle.std.proofs.lemmas.List.{get_or-map, length-map}
use Rattle.std.proofs.lemmas.Option.{slice_get_within, get_or_from_slice_get}

module _ {X : Type 0} where
  -- the last element
  pub slice_get-last : (xs : List X) (x : X) → slice_get (xs ++ x ∷ []) (length xs) ≡ Some x
  slice_get-last [] x = refl
  slice_get-last (y ∷ ys) x = slice_get-last ys x

  -- an element of the front
  pub slice_get-front : (xs ys : List X) (i : ℕ) (x : X) → slice_get xs i ≡ Some x → slice_get (xs ++ ys) i ≡ Some x
  slice_get-front [] ys i x e = cc
  slice_get-front (y ∷ xs) ys zero x e = e
  slice_get-front (y ∷ xs) ys (suc i) x e = slice_get-front xs ys i x e

-- f of an element, by the list of all f
pub get_or-mapped : {X Y : Type 0} (f : X → Y) (xs : List X) (i : ℕ) (x : X) (y : Y) → slice_get (map f xs) i ≡ Some y → (i < length xs) × (f (get_or xs i x) ≡ y)
get_or-mapped f xs i x y e =
    let below : i < length (map f xs) = slice_get_within (map f xs) i y e in
    let lt : i < length xs = omega (arith, length-map xs f) in
    (lt, sym (get_or-map f xs i x (f x) lt) ∙ get_or_from_slice_get (map f xs) i y (f x) e)
