-- Lemmas for the crates above: lists and their images: what holds of each element, and sums.
use Rattle.std.proofs.Common.{◌≡◌, ℕ, zero, suc, ◌+◌, ◌<◌, List, [], ◌∷◌, ◌++◌, All, length, map, flat_map, sum_by, get_or, take, drop, Some, slice_get, refl, sym, ap, ◌∙◌, subst, arith}
use Rattle.std.proofs.Math.Seq.{take-append_seam, drop-append_seam}
use Rattle.std.proofs.lemmas.List.{get_or-map, length-map}
use Rattle.std.proofs.lemmas.List.Concat.{flat_map-cons}
use Rattle.std.proofs.lemmas.List.Elements.{All-nil, All-cons, All-head, All-tail, All-append, All-take, All-drop}
use Rattle.std.proofs.lemmas.List.Sums.{sum_by-cons}

-- the image at a place
pub at_map : {X Y : Type 0} (f : X → Y) (xs : List X) (k : ℕ) (d : X) → k < length xs → slice_get (map f xs) k ≡ Some (f (get_or xs k d))
at_map f [] k d lt = absurd (omega arith)
at_map f (x ∷ xs) zero d lt = refl
at_map f (x ∷ xs) (suc k) d lt = at_map f xs k d (omega arith)

-- a list that was written back whole
pub written_back : {X : Type 0} (n : ℕ) (xs ys : List X) → length xs ≡ n → take n (xs ++ drop (length xs) ys) ≡ xs
written_back n xs ys len = ap (λ k. take k (xs ++ drop (length xs) ys)) (sym len) ∙ take-append_seam xs (drop (length xs) ys)

-- what holds of each element of two lists in a row holds of each of either
pub All-cut : {X : Type 0} (P : X → Type 0) (xs ys : List X) → All P (xs ++ ys) → All P xs × All P ys
All-cut P xs ys all = (subst (All P) (take-append_seam xs ys) (All-take P (length xs) (xs ++ ys) all), subst (All P) (drop-append_seam xs ys) (All-drop P (length xs) (xs ++ ys) all))

-- what holds of each image
pub All-from_map : {X Y : Type 0} (f : X → Y) (P : Y → Type 0) (xs : List X) → All P (map f xs) → All (λ x. P (f x)) xs
All-from_map f P xs all k d lt = subst P (get_or-map f xs k d (f d) lt) (all k (f d) (let l = length-map xs f in omega arith))

-- what holds of each element of each list
pub All-flat_map : {X Y : Type 0} (f : X → List Y) (P : Y → Type 0) (xs : List X) → All (λ x. All P (f x)) xs → All P (flat_map f xs)
All-flat_map f P [] all = All-nil P
All-flat_map f P (x ∷ xs) all =
    subst (All P) (sym (flat_map-cons f x xs)) (All-append P (f x) (flat_map f xs) (All-head (λ z. All P (f z)) x xs all) (All-flat_map f P xs (All-tail (λ z. All P (f z)) x xs all)))

-- and the other way round
pub All-from_flat_map : {X Y : Type 0} (f : X → List Y) (P : Y → Type 0) (xs : List X) → All P (flat_map f xs) → All (λ x. All P (f x)) xs
All-from_flat_map f P [] all = All-nil (λ z. All P (f z))
All-from_flat_map f P (x ∷ xs) all =
    let both = All-cut P (f x) (flat_map f xs) (subst (All P) (flat_map-cons f x xs) all) in All-cons (λ z. All P (f z)) x xs both.0 (All-from_flat_map f P xs both.1)

-- a sum over images
pub sum_by-map : {X Y : Type 0} (g : Y → ℕ) (f : X → Y) (xs : List X) → sum_by g (map f xs) ≡ sum_by (λ x. g (f x)) xs
sum_by-map g f [] = refl
sum_by-map g f (x ∷ xs) = sum_by-cons g (f x) (map f xs) ∙ (ap (λ (n : ℕ). g (f x) + n) (sum_by-map g f xs) ∙ sym (sum_by-cons (λ z. g (f z)) x xs))

-- an image that is taken back
pub map_back : {X Y : Type 0} (g : Y → X) (f : X → Y) (xs : List X) → ((x : X) → g (f x) ≡ x) → map g (map f xs) ≡ xs
map_back g f [] back = refl
map_back g f (x ∷ xs) back = ap (λ z. z ∷ map g (map f xs)) (back x) ∙ ap (λ zs. x ∷ zs) (map_back g f xs back)
