-- Lemmas for the crates above: what keeps a deal together.
use Rattle.std.proofs.Common.{◌≡◌, ℕ, suc, ◌<◌, List, [], ◌∷◌, map, length, slice_index_or, refl, sym, ap, ◌∙◌, subst, arith}
use Rattle.work_shares.specs.declared.share.Share.{Share}
use Rattle.work_shares.specs.Places.{ArePlaces}
use Rattle.work_shares.specs.Shares.{place_of, AreDeal}

-- lists of one length whose elements are the same to f at each place
pub map-same : {X Y : Type 0} (f : X → Y) (old new : List X) → length new ≡ length old
    → ((k : ℕ) (d : X) → k < length old → f (slice_index_or new k d) ≡ f (slice_index_or old k d)) → map f new ≡ map f old
map-same f [] [] len each = refl
map-same f [] (y ∷ ys) len each = absurd (omega arith)
map-same f (x ∷ xs) [] len each = absurd (omega arith)
map-same {Y} f (x ∷ xs) (y ∷ ys) len each =
    let head : f y ≡ f x = each 0 x (omega arith) in
    let tail : map f ys ≡ map f xs = map-same f xs ys (omega arith) (λ k d lt. each (suc k) d (omega arith)) in
    ap (λ (z : Y). z ∷ map f ys) head ∙ ap (λ l. f x ∷ l) tail

-- shares that keep their places stay the shares of their deal
pub AreDeal-kept : {L : Type 0} (total block : ℕ) (old new : List (Share L)) → length new ≡ length old
    → ((k : ℕ) (d : Share L) → k < length old → place_of (slice_index_or new k d) ≡ place_of (slice_index_or old k d)) → AreDeal total block old → AreDeal total block new
AreDeal-kept total block old new len each deal = subst (ArePlaces total block) (sym (map-same place_of old new len each)) deal

-- blocks are not empty
pub place-size : {L : Type 0} (s : Share L) → 0 < (place_of s).size
place-size s = s.seat.cut.some

-- the same, by the deal
pub AreDeal-size : {L : Type 0} (total block : ℕ) (shares : List (Share L)) → AreDeal total block shares → 0 < block
AreDeal-size total block [] deal = absurd (let none : 0 < 0 = deal.some in omega arith)
AreDeal-size total block (s ∷ ss) deal = let same : (place_of s).size ≡ block = (deal.each 0 (place_of s) refl).1 in let some = place-size s in omega arith
