-- Lemmas for the crates above: how often a rotation's product can be divided by √2.
use Rattle.std.proofs.Common.{◌≡◌, ℕ, suc, ◌/◌, ◌^◌, ◌<◌, ◌↔◌, Bool, ap, sym, ◌∙◌, arith}
use Rattle.std.specs.Prelude.{ℤ, pos, negsuc, neg_ℤ, ◌*ℤ◌}
use Rattle.std.proofs.lemmas.Int.{ints}
use Rattle.ring_laws.specs.Ring.{power}
use Rattle.ring_laws.proofs.Ring.{one-mul}
use Rattle.tc_ring.specs.Surds.{Surd, surd, surd_times, root2_surd}
use Rattle.tc_ring.proofs.Surds.{surds_laws, root2_surd-times, surd_times_assoc, odd_is_no_multiple, same_surd}
use Rattle.channel_rep.specs.Tables.{SurdTable, ScaledTable}
use Rattle.channel_rep.specs.Rows.{rotated}
use Rattle.channel_rep.proofs.Built.{root2_to}
use Rattle.coset_label.specs.Labels.{HasOddEntry}
use Rattle.word_laws.specs.Divisions.{IsMultiple}
use Rattle.word_laws.specs.Parities.{parity, WholesAgree, PartsAgree, CommutingEven}
use Rattle.word_laws.proofs.Parities.{AllEven, root2_whole, even_where_agree, even_half, odd_quarter}

-- ---- powers of √2
pub root2_to-zero : (x : Surd) → surd_times (root2_to 0) x ≡ x
unfolding power
root2_to-zero x = one-mul surds_laws x

-- one factor more
pub root2_to-suc : (k : ℕ) (x : Surd) → surd_times (root2_to (suc k)) x ≡ surd_times root2_surd (surd_times (root2_to k) x)
unfolding power
root2_to-suc k x = surd_times_assoc root2_surd (root2_to k) x

-- one, two and three factors
root2_to-one : (x : Surd) → surd_times (root2_to 1) x ≡ surd_times root2_surd x
root2_to-one x = root2_to-suc 0 x ∙ ap (surd_times root2_surd) (root2_to-zero x)

pub root2_to-two : (x : Surd) → surd_times (root2_to 2) x ≡ surd_times root2_surd (surd_times root2_surd x)
root2_to-two x = root2_to-suc 1 x ∙ ap (surd_times root2_surd) (root2_to-one x)

root2_to-three : (x : Surd) → surd_times (root2_to 3) x ≡ surd_times root2_surd (surd_times root2_surd (surd_times root2_surd x))
root2_to-three x = root2_to-suc 2 x ∙ ap (surd_times root2_surd) (root2_to-two x)

-- ---- tables with even whole parts
-- half of an even number
half : ℤ → ℤ
half (pos k) = pos (k / 2)
half (negsuc k) = neg_ℤ (pos (suc k / 2))

half_twice : (z : ℤ) → parity z ≡ 0 → pos 2 *ℤ half z ≡ z
unfolding half
half_twice (pos k) e = omega (arith, ints)
half_twice (negsuc k) e = omega (arith, ints)

-- a number over √2
pub over_root2 : Surd → Surd
over_root2 x = surd x.b (half x.a)

over_root2_is : (x : Surd) → parity x.a ≡ 0 → surd_times root2_surd (over_root2 x) ≡ x
unfolding over_root2
over_root2_is x e = root2_surd-times (surd x.b (half x.a)) ∙ same_surd (half_twice x.a e) (λ i. x.b)

-- such a table is √2 times one
pub halves : (n : ℕ) (m : SurdTable) → AllEven n m → (row column : ℕ) → row < 4 ^ n → column < 4 ^ n → surd_times root2_surd (over_root2 (m row column)) ≡ m row column
halves n m even row column l k = over_root2_is (m row column) (even row column l k)

-- each table can be divided no time
pub divides_none : (n : ℕ) (m : SurdTable) → IsMultiple n 0 m
divides_none n m = (m, λ row column l k. root2_to-zero (m row column))

module _ (n : ℕ) (inverse : Bool) (p : ℕ) (m : SurdTable) where
  -- once exactly where the whole parts agree in the pairs of rows
  pub divides_once : IsMultiple n 1 (rotated n inverse p m) ↔ WholesAgree n p m
  divides_once = (there, back)
    where
      there : IsMultiple n 1 (rotated n inverse p m) → WholesAgree n p m
      there h = (even_where_agree n inverse p m).0 (λ row column l k. root2_whole (h.0 row column) _ (sym (h.1 row column l k) ∙ root2_to-one (h.0 row column)))

      back : WholesAgree n p m → IsMultiple n 1 (rotated n inverse p m)
      back agree = (λ row column. over_root2 (rotated n inverse p m row column), λ row column l k. root2_to-one _ ∙ halves n (rotated n inverse p m) ((even_where_agree n inverse p m).1 agree) row column l k)

  -- twice exactly where also the whole parts of the rows that commute are even and the parts of √2 agree
  pub divides_twice : IsMultiple n 2 (rotated n inverse p m) ↔ (WholesAgree n p m × CommutingEven n p m × PartsAgree n p m)
  divides_twice = (there, λ h. back h.0 h.1 h.2)
    where
      there : IsMultiple n 2 (rotated n inverse p m) → WholesAgree n p m × CommutingEven n p m × PartsAgree n p m
      there h =
          let once : SurdTable = λ row column. surd_times root2_surd (h.0 row column) in
          let both = (even_half n inverse p m once is).0 (λ row column l k. root2_whole (h.0 row column) _ (λ i. surd_times root2_surd (h.0 row column))) in
          ((even_where_agree n inverse p m).0 (λ row column l k. root2_whole (once row column) _ (sym (is row column l k))), both.0, both.1)
        where
          is : (row column : ℕ) → row < 4 ^ n → column < 4 ^ n → surd_times root2_surd (surd_times root2_surd (h.0 row column)) ≡ rotated n inverse p m row column
          is row column l k = sym (root2_to-two (h.0 row column)) ∙ h.1 row column l k

      back : WholesAgree n p m → CommutingEven n p m → PartsAgree n p m → IsMultiple n 2 (rotated n inverse p m)
      back wholes even parts = (λ row column. over_root2 (once row column), λ row column l k. root2_to-two _ ∙ ap (surd_times root2_surd) (halves n once all row column l k) ∙ is row column l k)
        where
          once : SurdTable
          once row column = over_root2 (rotated n inverse p m row column)

          is : (row column : ℕ) → row < 4 ^ n → column < 4 ^ n → surd_times root2_surd (once row column) ≡ rotated n inverse p m row column
          is = halves n (rotated n inverse p m) ((even_where_agree n inverse p m).1 wholes)

          all : AllEven n once
          all = (even_half n inverse p m once is).1 (even, parts)

-- and never three times, where some entry before is odd
pub never_three_times : (n : ℕ) (inverse : Bool) (p : ℕ) → p < 4 ^ n → (m : ScaledTable) → HasOddEntry n m → ¬ IsMultiple n 3 (rotated n inverse p m.table)
never_three_times n inverse p lp m odd h =
    let quarter : ScaledTable = record { table = λ row column. surd_times root2_surd (h.0 row column); exponent = 0 } in
    let left = odd_quarter n inverse p lp m quarter (λ row column l k. sym (root2_to-three (h.0 row column)) ∙ h.1 row column l k) odd in
    odd_is_no_multiple (h.0 left.row left.column) (quarter.table left.row left.column) left.odd (λ i. quarter.table left.row left.column)
