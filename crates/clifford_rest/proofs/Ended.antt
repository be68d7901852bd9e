-- Where one qubit's sweep ends, for all that the computed tests speak of.
use Rattle.std.proofs.Common.{◌≡◌, ℕ, zero, suc, ◌+◌, ◌-◌, ◌*◌, ◌/◌, ◌%◌, ◌^◌, ◌<◌, ◌≤◌, Bool, true, false, not, ◌&&◌, ◌||◌, eqb, eqb→eq, ltb, ltb→lt, leb, leb→le, T as Holds, T_not, List, [], ◌∷◌, length, refl, subst, arith}
use lib.Dec.{eqb_refl}
use Rattle.std.specs.List.{AllByRecursion}
use Rattle.pauli_basis.specs.Products.{Signed, commute}
use Rattle.pauli_basis.proofs.Small.{all, all_at, and_left, and_right}
use Rattle.channel_rep.specs.Gates.{GateFits, positive}
use Rattle.channel_rep.specs.declared.gate.ChannelGate.{ChannelGate}
use Rattle.channel_rep.specs.declared.gate.ChannelGate.TheVariants.{H, S, Sdg, Cx}
use Rattle.clifford_rest.specs.Rest.{IsUndoGate}
use Rattle.channel_rep.specs.Conjugations.{conjugated_by}
use Rattle.clifford_rest.specs.Sweep.{qubit_gates}
use Rattle.clifford_rest.proofs.Ends.{with_sign, fits, all_fit, is_positive, is_free, keeps_lower, ends, ends_with_signs, ends_at, ends_from, ends_1_0, ends_2_0, ends_2_1, ends_3_1, ends_3_2, ends_part, part_0, part_1, part_2, part_3}

-- the test of one code of a part
part_at : (k i : ℕ) → Holds (ends_part k) → i < 16 → Holds (ends_from 3 0 19 (16 * k + i))
part_at k i h l = all_at 16 (λ i. ends_from 3 0 19 (16 * k + i)) h i l

-- the four parts
part_of : (k : ℕ) → k < 4 → Holds (ends_part k)
part_of zero l = part_0
part_of (suc zero) l = part_1
part_of (suc (suc zero)) l = part_2
part_of (suc (suc (suc zero))) l = part_3
part_of (suc (suc (suc (suc k)))) l = absurd (omega arith)

-- qubit 0 of three
ends_3_0 : (a : ℕ) → a < 64 → Holds (ends_from 3 0 19 a)
ends_3_0 a l =
    let e : 16 * (a / 16) + a % 16 ≡ a = omega arith in
    subst (λ (x : ℕ). Holds (ends_from 3 0 19 x)) e (part_at (a / 16) (a % 16) (part_of (a / 16) (omega arith)) (omega arith))

-- at most 19, 15 and 11 gates from the lowest of three qubits on
abbrev pub most : ℕ → ℕ → ℕ
most n q = 7 + 4 * (n - q)

-- every qubit of one to three
ends_first : (n q a : ℕ) → 0 < n → n ≤ 3 → q < n → a < 4 ^ n → Holds (ends_from n q (most n q) a)
ends_first zero q a some few lq la = absurd (omega arith)
ends_first (suc zero) zero a some few lq la = all_at 4 (ends_from 1 0 11) ends_1_0 a la
ends_first (suc zero) (suc q) a some few lq la = absurd (omega arith)
ends_first (suc (suc zero)) zero a some few lq la = all_at 16 (ends_from 2 0 15) ends_2_0 a la
ends_first (suc (suc zero)) (suc zero) a some few lq la = all_at 16 (ends_from 2 1 11) ends_2_1 a la
ends_first (suc (suc zero)) (suc (suc q)) a some few lq la = absurd (omega arith)
ends_first (suc (suc (suc zero))) zero a some few lq la = ends_3_0 a la
ends_first (suc (suc (suc zero))) (suc zero) a some few lq la = all_at 64 (ends_from 3 1 15) ends_3_1 a la
ends_first (suc (suc (suc zero))) (suc (suc zero)) a some few lq la = all_at 64 (ends_from 3 2 11) ends_3_2 a la
ends_first (suc (suc (suc zero))) (suc (suc (suc q))) a some few lq la = absurd (omega arith)
ends_first (suc (suc (suc (suc n)))) q a some few lq la = absurd (omega arith)

-- what is left of a test whose guard holds
past : (a b : Bool) → Holds a → Holds (not a || b) → Holds b
past true b h g = g
past false b h g = absurd h

-- and of one whose first half fails
past_false : (a b : Bool) → a ≡ false → Holds (a || b) → Holds b
past_false true b e h = absurd cc
past_false false b e h = h

-- the signs that the two Paulis have are among the four
with_any_signs : (n q m : ℕ) (a b : Signed) → Holds (ends_with_signs n q m a.code b.code) → Holds (ends n q m a b)
with_any_signs n q m a b h = pick a.is_negative b.is_negative
  where
    pick : (s t : Bool) → Holds (ends n q m (with_sign a.code s) (with_sign b.code t))
    pick false false = and_left (ends n q m (with_sign a.code false) (with_sign b.code false)) _ h
    pick false true = and_left (ends n q m (with_sign a.code false) (with_sign b.code true)) _ (and_right (ends n q m (with_sign a.code false) (with_sign b.code false)) _ h)
    pick true false = and_left (ends n q m (with_sign a.code true) (with_sign b.code false)) _ (and_right (ends n q m (with_sign a.code false) (with_sign b.code true)) _ (and_right (ends n q m (with_sign a.code false) (with_sign b.code false)) _ h))
    pick true true = and_right (ends n q m (with_sign a.code true) (with_sign b.code false)) _ (and_right (ends n q m (with_sign a.code false) (with_sign b.code true)) _ (and_right (ends n q m (with_sign a.code false) (with_sign b.code false)) _ h))

-- the sweep of qubit q ends at X and Z on q
pub qubit_ends : (n q : ℕ) (a b : Signed) → 0 < n → n ≤ 3 → q < n → a.code < 4 ^ n → b.code < 4 ^ n → Holds (is_free n q a.code) → Holds (is_free n q b.code) → commute n a.code b.code ≡ false
    → Holds (ends n q (most n q) a b)
qubit_ends n q a b some few lq la lb free_a free_b apart =
    let m = most n q in
    let h = past (is_free n q a.code) (all (4 ^ n) (ends_at n q m a.code)) free_a (ends_first n q a.code some few lq la) in
    let g = past (is_free n q b.code) (commute n a.code b.code || ends_with_signs n q m a.code b.code) free_b (all_at (4 ^ n) (ends_at n q m a.code) h b.code lb) in
    with_any_signs n q m a b (past_false (commute n a.code b.code) (ends_with_signs n q m a.code b.code) apart g)

-- ---- what the test says
not_false : (b : Bool) → Holds (not b) → b ≡ false
not_false true h = absurd h
not_false false h = refl

-- a Pauli without a sign
positive_is : (s : Signed) (p : ℕ) → Holds (is_positive s p) → s ≡ positive p
positive_is s p h = λ i. record { code = eqb→eq s.code p (and_left (eqb s.code p) _ h) i; is_negative = not_false s.is_negative (and_right (eqb s.code p) _ h) i }

-- qubits that differ
apart_from : (c t : ℕ) → Holds (not (eqb c t)) → c ≡ t → ⊥
apart_from c t h e = T_not (eqb c t) h (subst (λ (x : ℕ). Holds (eqb c x)) e (eqb_refl c))

-- a gate that passes the test fits
fits_is : (n : ℕ) (g : ChannelGate) → Holds (fits n g) → GateFits n g
fits_is n (H q) h = ltb→lt q n h
fits_is n (S q) h = absurd h
fits_is n (Sdg q) h = ltb→lt q n h
fits_is n (Cx c t) h =
    let g = and_right (ltb c n) (ltb t n && not (eqb c t)) h in
    (ltb→lt c n (and_left (ltb c n) _ h), ltb→lt t n (and_left (ltb t n) _ g), apart_from c t (and_right (ltb t n) _ g))

-- so do all gates
all_fit_is : (n : ℕ) (gates : List ChannelGate) → Holds (all_fit n gates) → AllByRecursion (GateFits n) gates
all_fit_is n [] h = tt
all_fit_is n (g ∷ gates) h = (fits_is n g (and_left (fits n g) _ h), all_fit_is n gates (and_right (fits n g) _ h))

-- a gate that passes the test is h, sdg or cx
undo_gate_is : (n : ℕ) (g : ChannelGate) → Holds (fits n g) → IsUndoGate g
undo_gate_is n (H q) h = tt
undo_gate_is n (S q) h = absurd h
undo_gate_is n (Sdg q) h = tt
undo_gate_is n (Cx c t) h = tt

-- so are all gates
all_undo_gates : (n : ℕ) (gates : List ChannelGate) → Holds (all_fit n gates) → AllByRecursion IsUndoGate gates
all_undo_gates n [] h = tt
all_undo_gates n (g ∷ gates) h = (undo_gate_is n g (and_left (fits n g) _ h), all_undo_gates n gates (and_right (fits n g) _ h))

-- the gates of one qubit's sweep take A to X and B to Z on q, and leave X and Z on the lower qubits
pub record Ended (n q : ℕ) (a b : Signed) : Type 0 where
  pub fits_all : AllByRecursion (GateFits n) (qubit_gates n q a b)
  pub kinds : AllByRecursion IsUndoGate (qubit_gates n q a b)
  pub short : length (qubit_gates n q a b) ≤ most n q
  pub a_is : conjugated_by n (qubit_gates n q a b) a ≡ positive (4 ^ q)
  pub b_is : conjugated_by n (qubit_gates n q a b) b ≡ positive (3 * 4 ^ q)
  pub lower_x : (j : ℕ) → j < q → conjugated_by n (qubit_gates n q a b) (positive (4 ^ j)) ≡ positive (4 ^ j)
  pub lower_z : (j : ℕ) → j < q → conjugated_by n (qubit_gates n q a b) (positive (3 * 4 ^ j)) ≡ positive (3 * 4 ^ j)

module _ (n q : ℕ) (a b : Signed) (h : Holds (ends n q (most n q) a b)) where
  -- the gates of the sweep
  abbrev gates : List ChannelGate
  gates = qubit_gates n q a b

  -- the test without its part on A
  after_a : Holds (is_positive (conjugated_by n gates b) (3 * 4 ^ q) && (keeps_lower n q gates && (all_fit n gates && leb (length gates) (most n q))))
  after_a = and_right (is_positive (conjugated_by n gates a) (4 ^ q)) _ h

  -- and without that on B
  after_b : Holds (keeps_lower n q gates && (all_fit n gates && leb (length gates) (most n q)))
  after_b = and_right (is_positive (conjugated_by n gates b) (3 * 4 ^ q)) _ after_a

  -- the part on a lower qubit
  lower : (j : ℕ) → j < q → Holds (is_positive (conjugated_by n gates (positive (4 ^ j))) (4 ^ j) && is_positive (conjugated_by n gates (positive (3 * 4 ^ j))) (3 * 4 ^ j))
  lower j l = all_at q (λ j. is_positive (conjugated_by n gates (positive (4 ^ j))) (4 ^ j) && is_positive (conjugated_by n gates (positive (3 * 4 ^ j))) (3 * 4 ^ j)) (and_left (keeps_lower n q gates) _ after_b) j l

  -- the part on the gates themselves
  tail : Holds (all_fit n gates && leb (length gates) (most n q))
  tail = and_right (keeps_lower n q gates) _ after_b

  -- what the whole test says
  pub ended : Ended n q a b
  ended = record {
    fits_all = all_fit_is n gates (and_left (all_fit n gates) _ tail);
    kinds = all_undo_gates n gates (and_left (all_fit n gates) _ tail);
    short = leb→le (length gates) (most n q) (and_right (all_fit n gates) _ tail);
    a_is = positive_is (conjugated_by n gates a) (4 ^ q) (and_left (is_positive (conjugated_by n gates a) (4 ^ q)) _ h);
    b_is = positive_is (conjugated_by n gates b) (3 * 4 ^ q) (and_left (is_positive (conjugated_by n gates b) (3 * 4 ^ q)) _ after_a);
    lower_x = λ j l. positive_is _ _ (and_left (is_positive (conjugated_by n gates (positive (4 ^ j))) (4 ^ j)) _ (lower j l));
    lower_z = λ j l. positive_is _ _ (and_right (is_positive (conjugated_by n gates (positive (4 ^ j))) (4 ^ j)) _ (lower j l));
  }
