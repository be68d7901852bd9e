-- Lemmas for the crates above: natural numbers that are whole ones modulo m.
use Rattle.std.proofs.Common.{◌≡◌, ℕ, suc, ◌+◌, ◌*◌, ◌/◌, ◌%◌, ◌^◌, [], ◌∷◌, ap, sym, ◌∙◌, arith}
use Rattle.std.specs.Prelude.{ℤ, pos, negsuc, neg_ℤ, ◌+ℤ◌, ◌*ℤ◌}
use Rattle.std.proofs.lemmas.Int.{ints}
use Rattle.std.proofs.Math.Nat.{add-mul-mod_self_right}
use Rattle.std.proofs.lemmas.Nat.{div-add-mod'}
use Rattle.ring_laws.proofs.Integers.{integers_laws}
use Rattle.ring_laws.proofs.Reader.{ring, reads}
use Rattle.coset_label.specs.Tags.{residue}
use Rattle.label_laws.specs.Congruence.{IsCongruent}

-- ---- formulas of whole numbers
none_more : (x m : ℤ) → x ≡ x +ℤ pos 0 *ℤ m
none_more x m = ring integers_laws (x ∷ m ∷ []) (search reads depth 30 parts 0 fits 10000) tt

sums : (x y p q m : ℤ) → (x +ℤ p *ℤ m) +ℤ (y +ℤ q *ℤ m) ≡ (x +ℤ y) +ℤ (p +ℤ q) *ℤ m
sums x y p q m = ring integers_laws (x ∷ y ∷ p ∷ q ∷ m ∷ []) (search reads depth 30 parts 0 fits 10000) tt

products : (x y p q m : ℤ) → (x +ℤ p *ℤ m) *ℤ (y +ℤ q *ℤ m) ≡ x *ℤ y +ℤ (p *ℤ y +ℤ x *ℤ q +ℤ p *ℤ q *ℤ m) *ℤ m
products x y p q m = ring integers_laws (x ∷ y ∷ p ∷ q ∷ m ∷ []) (search reads depth 30 parts 0 fits 10000) tt

taken : (x p m : ℤ) → x ≡ (x +ℤ p *ℤ m) +ℤ neg_ℤ p *ℤ m
taken x p m = ring integers_laws (x ∷ p ∷ m ∷ []) (search reads depth 30 parts 0 fits 10000) tt

twice : (x p q m : ℤ) → (x +ℤ p *ℤ m) +ℤ q *ℤ m ≡ x +ℤ (p +ℤ q) *ℤ m
twice x p q m = ring integers_laws (x ∷ p ∷ q ∷ m ∷ []) (search reads depth 30 parts 0 fits 10000) tt

parted : (x q k m : ℤ) → x +ℤ q *ℤ (k *ℤ m) ≡ x +ℤ (q *ℤ k) *ℤ m
parted x q k m = ring integers_laws (x ∷ q ∷ k ∷ m ∷ []) (search reads depth 30 parts 0 fits 10000) tt

-- ---- numbers modulo m
-- a number is itself
pub congruent_self : (m f : ℕ) → IsCongruent m (pos f) f
congruent_self m f = (pos 0, none_more (pos f) (pos m))

-- sums
pub congruent-plus : (m : ℕ) (x y : ℤ) (f g : ℕ) → IsCongruent m x f → IsCongruent m y g → IsCongruent m (x +ℤ y) (f + g)
congruent-plus m x y f g h k = (h.0 +ℤ k.0, (λ i. h.1 i +ℤ k.1 i) ∙ sums x y h.0 k.0 (pos m))

-- products
pub congruent-times : (m : ℕ) (x y : ℤ) (f g : ℕ) → IsCongruent m x f → IsCongruent m y g → IsCongruent m (x *ℤ y) (f * g)
congruent-times m x y f g h k = (h.0 *ℤ y +ℤ x *ℤ k.0 +ℤ h.0 *ℤ k.0 *ℤ pos m, (λ i. h.1 i *ℤ k.1 i) ∙ products x y h.0 k.0 (pos m))

-- another number of the same whole one
pub congruent_again : (m : ℕ) (x : ℤ) (f g : ℕ) → IsCongruent m (pos f) g → IsCongruent m x f → IsCongruent m x g
congruent_again m x f g h k = (k.0 +ℤ h.0, h.1 ∙ ap (λ y. y +ℤ h.0 *ℤ pos m) k.1 ∙ twice x k.0 h.0 (pos m))

-- a whole number that is the same modulo m
pub congruent_shift : (m : ℕ) (x y q : ℤ) (f : ℕ) → x ≡ y +ℤ q *ℤ pos m → IsCongruent m x f → IsCongruent m y f
congruent_shift m x y q f e h = (q +ℤ h.0, h.1 ∙ ap (λ z. z +ℤ h.0 *ℤ pos m) e ∙ twice y q h.0 (pos m))

-- the remainder
pub congruent_cut : (m f : ℕ) → IsCongruent m (pos f) (f % m)
congruent_cut m f =
    (neg_ℤ (pos (f / m)), taken (pos (f % m)) (pos (f / m)) (pos m) ∙ ap (λ x. x +ℤ neg_ℤ (pos (f / m)) *ℤ pos m) (ap pos (omega (arith, div-add-mod' f m))))

-- numbers of one whole number have one remainder
pub one_remainder : (m : ℕ) (x : ℤ) (f g : ℕ) → IsCongruent m x f → IsCongruent m x g → f % m ≡ g % m
one_remainder m x f g h k = by (neg_ℤ k.0 +ℤ h.0) (h.1 ∙ ap (λ y. y +ℤ h.0 *ℤ pos m) (taken x k.0 (pos m) ∙ ap (λ y. y +ℤ neg_ℤ k.0 *ℤ pos m) (sym k.1)) ∙ twice (pos g) (neg_ℤ k.0) h.0 (pos m))
  where
    by : (q : ℤ) → pos f ≡ pos g +ℤ q *ℤ pos m → f % m ≡ g % m
    by (pos k) e = let up : f ≡ g + k * m = omega (arith, ints) in ap (λ x. x % m) up ∙ add-mul-mod_self_right g k m
    by (negsuc k) e = let up : g ≡ f + suc k * m = omega (arith, ints) in sym (ap (λ x. x % m) up ∙ add-mul-mod_self_right f (suc k) m)

-- a divisor of the modulus
pub congruent_part : (m k : ℕ) (x : ℤ) (f : ℕ) → IsCongruent (k * m) x f → IsCongruent m x f
congruent_part m k x f h = (h.0 *ℤ pos k, h.1 ∙ parted x h.0 (pos k) (pos m))

-- half of an even number, modulo half
pub congruent-half : (x : ℤ) (f : ℕ) → IsCongruent (2 ^ 64) (pos 2 *ℤ x) f → IsCongruent (2 ^ 63) x (f / 2)
congruent-half x f h = (h.0, omega (arith, ints, h.1))

-- the residue of a number of a label
pub congruent_residue : (z : ℤ) → IsCongruent (2 ^ 38) z (residue z)
congruent_residue (pos v) = (neg_ℤ (pos (v / 2 ^ 38)), omega (arith, ints))
congruent_residue (negsuc v) = (pos (v / 2 ^ 38 + 1), omega (arith, ints))

crossed : (x y p q m : ℤ) → x +ℤ p *ℤ m ≡ y +ℤ q *ℤ m → x ≡ y +ℤ (q +ℤ neg_ℤ p) *ℤ m
crossed x y p q m e = taken x p m ∙ ap (λ z. z +ℤ neg_ℤ p *ℤ m) e ∙ twice y q (neg_ℤ p) m

-- whole numbers of one natural number are the same modulo m
pub one_whole : (m : ℕ) (x y : ℤ) (f : ℕ) → IsCongruent m x f → IsCongruent m y f → (q : ℤ) × (x ≡ y +ℤ q *ℤ pos m)
one_whole m x y f h k = (k.0 +ℤ neg_ℤ h.0, crossed x y h.0 k.0 (pos m) (sym h.1 ∙ k.1))

regrouped : (a y q m : ℤ) → a +ℤ (y +ℤ q *ℤ m) ≡ (a +ℤ y) +ℤ q *ℤ m
regrouped a y q m = ring integers_laws (a ∷ y ∷ q ∷ m ∷ []) (search reads depth 30 parts 0 fits 10000) tt

-- a summand may be another one that is the same modulo m
pub congruent_summand : (m : ℕ) (a x y : ℤ) (f g : ℕ) → IsCongruent m x g → IsCongruent m y g → IsCongruent m (a +ℤ x) f → IsCongruent m (a +ℤ y) f
congruent_summand m a x y f g h k is =
    let same = one_whole m x y g h k in
    congruent_shift m (a +ℤ x) (a +ℤ y) same.0 f (ap (λ z. a +ℤ z) same.1 ∙ regrouped a y same.0 (pos m)) is
