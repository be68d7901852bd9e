-- A cell that a gate makes, from the cells that it is made of.
use Rattle.std.proofs.Common.{◌≡◌, ℕ, ◌+◌, ◌^◌, ◌<◌, ◌≤◌, true, false, ap, sym, ◌∙◌, arith, ◌*◌, set, take, drop, ◌++◌}
use Rattle.std.specs.Prelude.{List, length}
use Rattle.std.proofs.lemmas.Bool.{cond-true, cond-false}
use Rattle.std.proofs.lemmas.List.{get_or-set_other}
use Rattle.std.proofs.Math.Seq.{take-append_seam}
use Rattle.std.proofs.lemmas.Grind.{get_or-set_at}
use Rattle.std.proofs.lemmas.Nat.{mul-add-lt, same_from_place}
use Rattle.tc_ring.specs.Omega.{number_of}
use Rattle.tc_ring.specs.declared.omega.Omega.{Omega}
use Rattle.tc_circuit.specs.Grid.{entries, no_cell}
use Rattle.ring_laws.specs.Cyclotomic.{Zω, plus, times, negative, one_number, cyclotomics}
use Rattle.ring_laws.proofs.Cyclotomic.{cyclotomics_laws, plus_comm, one-times, negative_one-times}
use Rattle.tc_circuit.specs.Gate.{Table, h_entry}
use Rattle.ring_laws.specs.Matrix.{product}
use Rattle.tc_circuit.specs.Bits.{has_bit, flipped}
use Rattle.ring_laws.proofs.Sums.{sum_cong}
use Rattle.tc_circuit.proofs.Gates.{h_product}

pub h_set : (n q : ℕ) (m : Table) (r c : ℕ) (here there : Zω) → n ≤ 3 → q < n → r < 2 ^ n → has_bit q r ≡ true → here ≡ m r c → there ≡ m (flipped q r) c → plus there (negative here) ≡ product cyclotomics (2 ^ n) (h_entry q) m r c
h_set n q m r c here there small l b e eh et =
    cc (h_product n q m r c small l b, cond-true (has_bit q r) (negative one_number) one_number e, negative_one-times (m r c), plus_comm there (negative here))

pub h_unset : (n q : ℕ) (m : Table) (r c : ℕ) (here there : Zω) → n ≤ 3 → q < n → r < 2 ^ n → has_bit q r ≡ false → here ≡ m r c → there ≡ m (flipped q r) c → plus there here ≡ product cyclotomics (2 ^ n) (h_entry q) m r c
h_unset n q m r c here there small l b e eh et =
    cc (h_product n q m r c small l b, cond-false (has_bit q r) (negative one_number) one_number e, one-times (m r c), plus_comm there here)

pub entries-set_same : (n : ℕ) (cells : List Omega) (row col at : ℕ) (x : Omega) → at ≡ row * 2 ^ n + col → row < 2 ^ n → col < 2 ^ n → length cells ≡ 2 ^ n * 2 ^ n → entries n (set cells at x) row col ≡ number_of x
entries-set_same n cells row col at x e l l' h =
    ap number_of (get_or-set_at cells at (row * 2 ^ n + col) x no_cell (sym e) (omega (arith, e, h, mul-add-lt row (2 ^ n) col (2 ^ n) l l')))

pub entries-set_other : (n : ℕ) (cells : List Omega) (row col at r c : ℕ) (x : Omega) → at ≡ row * 2 ^ n + col → col < 2 ^ n → c < 2 ^ n → (r ≡ row → c ≡ col → ⊥) → entries n (set cells at x) r c ≡ entries n cells r c
entries-set_other n cells row col at r c x e l l' d =
    ap number_of (get_or-set_other cells at (r * 2 ^ n + c) x no_cell (λ same. let one = same_from_place r c row col (2 ^ n) l' l (same ∙ e) in d one.0 one.1))

-- what stands in a vector after its slice was written whole
pub written : (len : ℕ) (new old : List Omega) → length new ≡ len → length old ≡ len → take len (new ++ drop (length new) old) ≡ new
written len new old e e' = ap (λ (n : ℕ). take n (new ++ drop (length new) old)) (sym e) ∙ take-append_seam new (drop (length new) old)

pub product_column : (size : ℕ) (g a b : Table) (r c : ℕ) → ((k : ℕ) → k < size → a k c ≡ b k c) → product cyclotomics size g a r c ≡ product cyclotomics size g b r c
unfolding product
product_column size g a b r c h = sum_cong cyclotomics_laws size _ _ (λ k l. ap (times (g r k)) (h k l))
