-- Lemmas for the crates above: the whole numbers as a ring: the laws that `lib.IntN` lacks, and the record.
use mathlib.Core.Path.{◌≡◌, refl, ap}
use Prim.Native.Nat.{◌*◌}
use native.Mathlib.Omega.{arith}
use borrow.Author.Differences.{up, down, same_in, sum_is_lem, product_is}
use lib.IntN.{ℤ, pos, one, ◌+ℤ◌, ◌*ℤ◌, +ℤ_assoc, +ℤ_comm, +ℤ_idr, +ℤ_invr, *ℤ_comm, *ℤ-one}
use Rattle.ring_laws.specs.Ring.{RingLaws, integers}

pub *ℤ-+ℤ : (a b c : ℤ) → a *ℤ (b +ℤ c) ≡ a *ℤ b +ℤ a *ℤ c
*ℤ-+ℤ a b c =
    let u = ap (λ n. up a * n) (sum_is_lem b c) in
    let d = ap (λ n. down a * n) (sum_is_lem b c) in
    omega (arith, same_in, sum_is_lem, product_is)

pub *ℤ_assoc : (a b c : ℤ) → (a *ℤ b) *ℤ c ≡ a *ℤ (b *ℤ c)
*ℤ_assoc a b c =
    let p = product_is a b in
    let q = product_is b c in
    let p₀ = ap (λ n. n * up c) p.0 in
    let p₁ = ap (λ n. n * down c) p.0 in
    let p₂ = ap (λ n. n * up c) p.1 in
    let p₃ = ap (λ n. n * down c) p.1 in
    let q₀ = ap (λ n. up a * n) q.0 in
    let q₁ = ap (λ n. up a * n) q.1 in
    let q₂ = ap (λ n. down a * n) q.0 in
    let q₃ = ap (λ n. down a * n) q.1 in
    omega (arith, same_in, product_is)

pub *ℤ_unit : (a : ℤ) → a *ℤ pos 1 ≡ a
unfolding one
*ℤ_unit a = *ℤ-one a

abbrev pub integers_laws : RingLaws integers
integers_laws = record {
  add_assoc = +ℤ_assoc;
  add_comm = +ℤ_comm;
  add-zero = +ℤ_idr;
  add-neg = +ℤ_invr;
  mul_assoc = *ℤ_assoc;
  mul_comm = *ℤ_comm;
  mul-one = *ℤ_unit;
  mul-add = *ℤ-+ℤ;
  num-add = λ m n. refl;
  num-mul = λ m n. refl;
}
