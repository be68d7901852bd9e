-- How large the entries grow.
use Rattle.std.proofs.Common.{◌≡◌, ℕ, ◌+◌, ◌*◌, ◌^◌, ◌<◌, ◌≤◌, ◌==◌, Bool, true, false, cond, refl, ap, sym, subst, ◌∙◌, arith, take, drop, ◌++◌, add-one, zero-add, add_comm, mul_comm}
use Rattle.std.proofs.Math.Nat.{pow-suc, pow-le-pow_right}
use Rattle.std.specs.Prelude.{if◌then◌else◌, length, List}
use Rattle.std.proofs.lemmas.Int.{ints}
use Rattle.ring_laws.specs.Cyclotomic.{Zω, integer, times, negative, cyclotomics, ω, zero_number, one_number}
use Rattle.ring_laws.specs.Ring.{power}
use Rattle.tc_ring.specs.Bounds.{IsWithin}
use Rattle.ring_laws.proofs.Cyclotomic.{one-times, negative_one-times}
use Rattle.tc_ring.proofs.Bounds.{within_more, within_plus, within_negative, within_turn}
use Rattle.tc_circuit.specs.Gate.{Table, gate_table, gate_exponent, Fits, h_entry, diagonal_entry}
use Rattle.ring_laws.specs.Matrix.{product, identity, Agree}
use Rattle.tc_circuit.specs.Bits.{has_bit, flipped, crossed}
use Rattle.tc_circuit.specs.Grid.{entries, IsGrid}
use Rattle.tc_ring.specs.declared.omega.Omega.{Omega}
use Rattle.tc_circuit.specs.declared.circuit.Gate.{Gate}
use Rattle.tc_circuit.specs.declared.circuit.Gate.TheVariants.{H, S, Sdg, T, Tdg, Cx}
use Rattle.tc_circuit.proofs.Gates.{h_product, diagonal_product, cx_product, crossed_below}
use Rattle.tc_circuit.proofs.Flips.{flip_below}
use Rattle.tc_circuit.proofs.Cells.{written}

-- the entry of a diagonal gate
within_turned : (b turns : ℕ) (bit : Bool) (a : Zω) → IsWithin b a → IsWithin b (times (if bit then power cyclotomics ω turns else one_number) a)
within_turned b turns true a h = within_turn b turns a h
within_turned b turns false a h = subst (IsWithin b) (sym (one-times a)) h

within_diagonal : (size q turns b : ℕ) (m : Table) (r c : ℕ) → r < size → IsWithin b (m r c) → IsWithin b (product cyclotomics size (diagonal_entry q turns) m r c)
within_diagonal size q turns b m r c l h =
    subst (IsWithin b) (sym (diagonal_product size q turns m r c l)) (within_turned b turns (has_bit q r) (m r c) h)

within_sign : (b : ℕ) (bit : Bool) (a : Zω) → IsWithin b a → IsWithin b (times (if bit then negative one_number else one_number) a)
within_sign b true a h = subst (IsWithin b) (sym (negative_one-times a)) (within_negative b a h)
within_sign b false a h = subst (IsWithin b) (sym (one-times a)) h

one_more : (k : ℕ) → 2 ^ (1 + k) ≡ 2 * 2 ^ k
one_more k = ap (λ (j : ℕ). 2 ^ j) (add_comm 1 k ∙ add-one k) ∙ pow-suc 2 k ∙ mul_comm (2 ^ k) 2

same_exponent : (k : ℕ) (a : Zω) → IsWithin (2 ^ k) a → IsWithin (2 ^ (0 + k)) a
same_exponent k a h = subst (λ (j : ℕ). IsWithin (2 ^ j) a) (sym (zero-add k)) h

pub within_product : (n k : ℕ) (gate : Gate) (m : Table) (r c : ℕ) → n ≤ 3 → Fits n gate → r < 2 ^ n → ((row : ℕ) → row < 2 ^ n → IsWithin (2 ^ k) (m row c)) → IsWithin (2 ^ (gate_exponent gate + k)) (product cyclotomics (2 ^ n) (gate_table gate) m r c)
within_product n k (H q) m r c few fits l h =
    let two : 2 ^ k + 2 ^ k ≡ 2 ^ (1 + k) = omega (arith, one_more k) in
    subst (λ (b : ℕ). IsWithin b (product cyclotomics (2 ^ n) (h_entry q) m r c)) two
    (subst (IsWithin (2 ^ k + 2 ^ k)) (sym (h_product n q m r c few fits l))
    (within_plus (2 ^ k) (2 ^ k) _ _ (within_sign (2 ^ k) (has_bit q r) (m r c) (h r l)) (h (flipped q r) (flip_below n q r few fits l))))
within_product n k (S q) m r c few fits l h = same_exponent k _ (within_diagonal (2 ^ n) q 2 (2 ^ k) m r c l (h r l))
within_product n k (Sdg q) m r c few fits l h = same_exponent k _ (within_diagonal (2 ^ n) q 6 (2 ^ k) m r c l (h r l))
within_product n k (T q) m r c few fits l h = same_exponent k _ (within_diagonal (2 ^ n) q 1 (2 ^ k) m r c l (h r l))
within_product n k (Tdg q) m r c few fits l h = same_exponent k _ (within_diagonal (2 ^ n) q 7 (2 ^ k) m r c l (h r l))
within_product n k (Cx control target) m r c few fits l h =
    same_exponent k _ (subst (IsWithin (2 ^ k)) (sym (cx_product n control target m r c few fits.0 fits.1 fits.2 l)) (h (crossed control target r) (crossed_below n control target r few fits.1 l)))

pub grid_after : (n k j : ℕ) (gate : Gate) (old new : List Omega) → IsGrid (record { qubits = n; exponent = k; cells = old }) → Fits n gate → j ≡ gate_exponent gate + k → j ≤ 120 → length new ≡ 2 ^ n * 2 ^ n → Agree cyclotomics (2 ^ n) (entries n new) (product cyclotomics (2 ^ n) (gate_table gate) (entries n old)) → IsGrid (record { qubits = n; exponent = j; cells = new })
grid_after n k j gate old new h fits e low long same = record {
  some = h.some;
  few = h.few;
  whole = long;
  low = low;
  small = λ c lc r lr. subst (λ (i : ℕ). IsWithin (2 ^ i) (entries n new r c)) (sym e)
      (subst (IsWithin (2 ^ (gate_exponent gate + k))) (sym (same r c lr lc)) (within_product n k gate (entries n old) r c h.few fits lr (h.small c lc)));
}

pub not_h : (gate : Gate) → ((q : ℕ) → gate ≡ H q → ⊥) → gate_exponent gate ≡ 0
not_h (H q) d = absurd (d q refl)
not_h (S q) d = refl
not_h (Sdg q) d = refl
not_h (T q) d = refl
not_h (Tdg q) d = refl
not_h (Cx a b) d = refl

pub grown_within : (k : ℕ) (a : Zω) → k ≤ 120 → IsWithin (2 ^ k) a → IsWithin (2 ^ 125) a
grown_within k a l h = let two : 0 < 2 = omega arith in within_more _ _ a (pow-le-pow_right two (let le : k ≤ 125 = omega arith in le)) h

-- the same, of cells that were lent as a slice and written
pub grid_written : (n k j len : ℕ) (gate : Gate) (old lent new : List Omega) → IsGrid (record { qubits = n; exponent = k; cells = old }) → lent ≡ old → length lent ≡ len → Fits n gate → j ≡ gate_exponent gate + k → j ≤ 120 → length new ≡ 2 ^ n * 2 ^ n → Agree cyclotomics (2 ^ n) (entries n new) (product cyclotomics (2 ^ n) (gate_table gate) (entries n lent)) → IsGrid (record { qubits = n; exponent = j; cells = take len (new ++ drop (length new) old) })
grid_written n k j len gate old lent new h same long fits e low whole agrees =
    let before : length old ≡ len = sym (ap length same) ∙ long in
    let after : length new ≡ len = whole ∙ sym h.whole ∙ before in
    subst (λ (cells : List Omega). IsGrid (record { qubits = n; exponent = j; cells = cells })) (sym (written len new old after before))
    (grid_after n k j gate old new h fits e low whole
    (subst (λ (cells : List Omega). Agree cyclotomics (2 ^ n) (entries n new) (product cyclotomics (2 ^ n) (gate_table gate) (entries n cells))) same agrees))

-- the identity's entries are 0 and 1
pub within_identity : (r c : ℕ) → IsWithin (2 ^ 0) (identity cyclotomics r c)
unfolding identity integer
within_identity r c = by (r == c)
  where
    by : (same : Bool) → IsWithin (2 ^ 0) (cond same one_number zero_number)
    by true = omega (arith, ints)
    by false = omega (arith, ints)

-- the cells of the identity are a matrix with exponent 0
pub grid_identity : (n : ℕ) (cells : List Omega) → 0 < n → n ≤ 3 → length cells ≡ 2 ^ n * 2 ^ n → Agree cyclotomics (2 ^ n) (entries n cells) (identity cyclotomics) → IsGrid (record { qubits = n; exponent = 0; cells = cells })
grid_identity n cells some few whole same = record {
  some = some;
  few = few;
  whole = whole;
  low = omega arith;
  small = λ c lc r lr. subst (IsWithin (2 ^ 0)) (sym (same r c lr lc)) (within_identity r c);
}
