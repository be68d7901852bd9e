-- The gates that the sweep undoes take every Pauli's image back to the Pauli.
use Rattle.std.proofs.Common.{◌≡◌, ℕ, zero, suc, ◌+◌, ◌*◌, ◌^◌, ◌<◌, ◌≤◌, Bool, true, false, not, ◌&&◌, T as Holds, ltb, ltb→lt, List, ◌++◌, length, refl, ap, sym, ◌∙◌, inl, inr, arith}
use Rattle.std.specs.List.{AllByRecursion}
use Rattle.std.proofs.lemmas.Bool.{cases_eq}
use Rattle.std.proofs.lemmas.List.{length-append}
use Rattle.std.proofs.lemmas.Nat.{xor_comm}
use Rattle.tc_circuit.specs.Model.{ScaledMatrix, after}
use Rattle.ring_laws.proofs.Sizes.{sizes}
use Rattle.pauli_basis.specs.Products.{Signed, product_code, clashes, commute, sign_turns}
use Rattle.pauli_basis.proofs.Small.{all, all_at, and_left, and_right}
use Rattle.pauli_basis.proofs.Products.{product_code-lt, commute_both_orders}
use Rattle.channel_rep.specs.declared.gate.ChannelGate.{ChannelGate}
use Rattle.channel_rep.specs.Gates.{GateFits, positive}
use Rattle.tc_bridge.specs.Block.{as_gates}
use Rattle.tc_bridge.proofs.Conjugations.{all-append}
use Rattle.clifford_rest.specs.Rest.{IsUndoGate}
use Rattle.channel_rep.specs.Conjugations.{conjugated_by}
use Rattle.clifford_rest.specs.Sweep.{qubit_gates, undo_list}
use Rattle.clifford_rest.proofs.Acts.{Acts, acts_after}
use Rattle.clifford_rest.proofs.Invertible.{IsInvertible, invertible_after}
use Rattle.clifford_rest.proofs.Multiplies.{Multiplies, multiplies}
use Rattle.channel_rep.proofs.Conjugated.{conjugated_by-append}
use Rattle.clifford_rest.proofs.Ends.{is_free}
use Rattle.clifford_rest.proofs.Ended.{most, qubit_ends, Ended, ended}

-- ---- small facts
same_bool : (a b : Bool) → (a ≡ true → b ≡ true) → (b ≡ true → a ≡ true) → a ≡ b
same_bool true true f g = refl
same_bool true false f g = sym (f refl)
same_bool false true f g = g refl
same_bool false false f g = refl

-- two tests that hold
both_hold : (a b : Bool) → Holds a → Holds b → Holds (a && b)
both_hold true b h g = g
both_hold false b h g = absurd h

-- a test that is true holds
from_true : (a : Bool) → a ≡ true → Holds a
from_true true e = tt
from_true false e = absurd cc

-- a test that holds is true
to_true : (a : Bool) → Holds a → a ≡ true
to_true true h = refl
to_true false h = absurd h

-- a test whose opposite holds is false
to_false : (a : Bool) → Holds (not a) → a ≡ false
to_false true h = absurd h
to_false false h = refl

-- a test of all numbers below n, from each
all_from : (n : ℕ) (f : ℕ → Bool) → ((k : ℕ) → k < n → Holds (f k)) → Holds (all n f)
all_from zero f h = tt
all_from (suc n) f h = both_hold (f n) (all n f) (h n (omega arith)) (all_from n f (λ k l. h k (omega arith)))

-- ---- X and Z on the qubits: they anticommute on one qubit and commute on different ones
abbrev apart_below : ℕ → ℕ → ℕ → Bool
apart_below n q j = commute n (4 ^ q) (4 ^ j) && (commute n (4 ^ q) (3 * 4 ^ j) && (commute n (3 * 4 ^ q) (4 ^ j) && commute n (3 * 4 ^ q) (3 * 4 ^ j)))

-- the same on one qubit, with both codes on n qubits
abbrev generators_at : ℕ → ℕ → Bool
generators_at n q = not (commute n (4 ^ q) (3 * 4 ^ q)) && (ltb (4 ^ q) (4 ^ n) && (ltb (3 * 4 ^ q) (4 ^ n) && all q (apart_below n q)))

-- on one qubit
generators_1 : Holds (all 1 (generators_at 1))
unfolding clashes commute
generators_1 = tt

-- on two qubits
generators_2 : Holds (all 2 (generators_at 2))
unfolding clashes commute
generators_2 = tt

-- on three qubits
generators_3 : Holds (all 3 (generators_at 3))
unfolding clashes commute
generators_3 = tt

-- how X and Z on a qubit stand to those on the lower ones
record Generators (n q : ℕ) : Type 0 where
  pub anticommute : commute n (4 ^ q) (3 * 4 ^ q) ≡ false
  pub x_below : 4 ^ q < 4 ^ n
  pub z_below : 3 * 4 ^ q < 4 ^ n
  pub x_x : (j : ℕ) → j < q → commute n (4 ^ q) (4 ^ j) ≡ true
  pub x_z : (j : ℕ) → j < q → commute n (4 ^ q) (3 * 4 ^ j) ≡ true
  pub z_x : (j : ℕ) → j < q → commute n (3 * 4 ^ q) (4 ^ j) ≡ true
  pub z_z : (j : ℕ) → j < q → commute n (3 * 4 ^ q) (3 * 4 ^ j) ≡ true

module _ (n : ℕ) (some : 0 < n) (few : n ≤ 3) (q : ℕ) (l : q < n) where
  -- the test on the qubit
  test : Holds (generators_at n q)
  test = all_at n (generators_at n) (sizes (λ n. Holds (all n (generators_at n))) generators_1 generators_2 generators_3 n some few) q l

  -- without its first part
  past_first : Holds (ltb (4 ^ q) (4 ^ n) && (ltb (3 * 4 ^ q) (4 ^ n) && all q (apart_below n q)))
  past_first = and_right (not (commute n (4 ^ q) (3 * 4 ^ q))) _ test

  -- and without the second
  past_second : Holds (ltb (3 * 4 ^ q) (4 ^ n) && all q (apart_below n q))
  past_second = and_right (ltb (4 ^ q) (4 ^ n)) _ past_first

  -- the test with a lower qubit
  pairs : (j : ℕ) → j < q → Holds (apart_below n q j)
  pairs j h = all_at q (apart_below n q) (and_right (ltb (3 * 4 ^ q) (4 ^ n)) _ past_second) j h

  -- its half on Z
  later_pairs : (j : ℕ) → j < q → Holds (commute n (3 * 4 ^ q) (4 ^ j) && commute n (3 * 4 ^ q) (3 * 4 ^ j))
  later_pairs j h = and_right (commute n (4 ^ q) (3 * 4 ^ j)) _ (and_right (commute n (4 ^ q) (4 ^ j)) _ (pairs j h))

  -- what the test says
  generators : Generators n q
  generators = record {
    anticommute = to_false _ (and_left (not (commute n (4 ^ q) (3 * 4 ^ q))) _ test);
    x_below = ltb→lt _ _ (and_left (ltb (4 ^ q) (4 ^ n)) _ past_first);
    z_below = ltb→lt _ _ (and_left (ltb (3 * 4 ^ q) (4 ^ n)) _ past_second);
    x_x = λ j h. to_true _ (and_left (commute n (4 ^ q) (4 ^ j)) _ (pairs j h));
    x_z = λ j h. to_true _ (and_left (commute n (4 ^ q) (3 * 4 ^ j)) _ (and_right (commute n (4 ^ q) (4 ^ j)) _ (pairs j h)));
    z_x = λ j h. to_true _ (and_left (commute n (3 * 4 ^ q) (4 ^ j)) _ (later_pairs j h));
    z_z = λ j h. to_true _ (and_right (commute n (3 * 4 ^ q) (4 ^ j)) _ (later_pairs j h));
  }

-- ---- products
-- a matrix conjugates each Pauli to a Pauli with a sign
pub record TakesPaulis (n : ℕ) (m : ScaledMatrix) (made : ℕ → Signed) : Type 0 where
  pub invertible : IsInvertible n m.table
  pub acts : (p : ℕ) → p < 4 ^ n → Acts n m.table p (made p)

module _ (n : ℕ) (m : ScaledMatrix) (made : ℕ → Signed) (h : TakesPaulis n m made) where
  -- images multiply as the Paulis do
  pub products : (p q : ℕ) → p < 4 ^ n → q < 4 ^ n → Multiplies n p q (made p) (made q) (made (product_code p q))
  products p q lp lq =
      multiplies n m.table h.invertible p q (made p) (made q) (made (product_code p q)) (h.acts p lp) (h.acts q lq) (h.acts (product_code p q) (product_code-lt n p q lp lq))
      (product_code-lt n (made p).code (made q).code (h.acts p lp).below (h.acts q lq).below)

  -- images commute where the Paulis do
  pub commutes_kept : (p q : ℕ) → p < 4 ^ n → q < 4 ^ n → commute n (made p).code (made q).code ≡ commute n p q
  commutes_kept p q lp lq =
      same_bool (commute n (made p).code (made q).code) (commute n p q)
      (λ e. (commute_both_orders n p q).1 (let d = (commute_both_orders n (made p).code (made q).code).0 e in omega (arith, there.turns_is, back.turns_is, other)))
      (λ e. (commute_both_orders n (made p).code (made q).code).1 (let d = (commute_both_orders n p q).0 e in omega (arith, there.turns_is, back.turns_is, other)))
    where
      there : Multiplies n p q (made p) (made q) (made (product_code p q))
      there = products p q lp lq

      back : Multiplies n q p (made q) (made p) (made (product_code q p))
      back = products q p lq lp

      other : sign_turns (made (product_code q p)).is_negative ≡ sign_turns (made (product_code p q)).is_negative
      other = ap (λ (k : ℕ). sign_turns (made k).is_negative) (xor_comm q p)

-- ---- qubit by qubit
-- how many gates undo the qubits below `count` at most
abbrev pub most_below : ℕ → ℕ → ℕ
most_below n zero = 0
most_below n (suc q) = most_below n q + most n q

module _ (n : ℕ) (some : 0 < n) (few : n ≤ 3) (m : ScaledMatrix) (made : ℕ → Signed) (h : TakesPaulis n m made) where
  -- the gates for the qubits below q leave X and Z on these
  pub record Swept (q : ℕ) : Type 0 where
    pub fits : AllByRecursion (GateFits n) (undo_list n made q)
    pub kinds : AllByRecursion IsUndoGate (undo_list n made q)
    pub short : length (undo_list n made q) ≤ most_below n q
    pub x : (j : ℕ) → j < q → conjugated_by n (undo_list n made q) (made (4 ^ j)) ≡ positive (4 ^ j)
    pub z : (j : ℕ) → j < q → conjugated_by n (undo_list n made q) (made (3 * 4 ^ j)) ≡ positive (3 * 4 ^ j)

  -- gates behind the matrix
  pub taken : (gates : List ChannelGate) → AllByRecursion (GateFits n) gates → TakesPaulis n (after n m (as_gates gates)) (λ p. conjugated_by n gates (made p))
  taken gates fits = record {
    invertible = invertible_after n some few gates fits m h.invertible;
    acts = λ p l. acts_after n some few gates fits m p (made p) (h.acts p l);
  }

  -- no qubit yet
  swept_none : Swept 0
  unfolding undo_list
  swept_none = record { fits = tt; kinds = tt; short = omega arith; x = λ j l. absurd (omega arith); z = λ j l. absurd (omega arith) }

  module _ (q : ℕ) (lq : q < n) (s : Swept q) where
    -- what the matrix with the gates behind it makes of a code
    abbrev now : ℕ → Signed
    now p = conjugated_by n (undo_list n made q) (made p)

    -- the gates of this qubit
    abbrev gates : List ChannelGate
    gates = qubit_gates n q (now (4 ^ q)) (now (3 * 4 ^ q))

    -- it conjugates Paulis to Paulis
    takes : TakesPaulis n (after n m (as_gates (undo_list n made q))) now
    takes = taken (undo_list n made q) s.fits

    -- so it keeps which ones commute
    kept : (p r : ℕ) → p < 4 ^ n → r < 4 ^ n → commute n (now p).code (now r).code ≡ commute n p r
    kept p r lp lr = commutes_kept n (after n m (as_gates (undo_list n made q))) now takes p r lp lr

    -- X and Z on this qubit
    here : Generators n q
    here = generators n some few q lq

    -- X on a lower qubit is a code
    x_lt : (j : ℕ) → j < q → 4 ^ j < 4 ^ n
    x_lt j l = (generators n some few j (omega arith)).x_below

    -- and so is Z
    z_lt : (j : ℕ) → j < q → 3 * 4 ^ j < 4 ^ n
    z_lt j l = (generators n some few j (omega arith)).z_below

    -- the image of a Pauli that commutes with the lower X and Z does so too
    free : (p : ℕ) → p < 4 ^ n → ((j : ℕ) → j < q → commute n p (4 ^ j) ≡ true) → ((j : ℕ) → j < q → commute n p (3 * 4 ^ j) ≡ true) → Holds (is_free n q (now p).code)
    free p lp fx fz = all_from q (λ j. commute n (now p).code (4 ^ j) && commute n (now p).code (3 * 4 ^ j)) (λ j l.
        both_hold (commute n (now p).code (4 ^ j)) (commute n (now p).code (3 * 4 ^ j))
        (from_true _ (ap (λ (s : Signed). commute n (now p).code s.code) (sym (s.x j l)) ∙ kept p (4 ^ j) lp (x_lt j l) ∙ fx j l))
        (from_true _ (ap (λ (s : Signed). commute n (now p).code s.code) (sym (s.z j l)) ∙ kept p (3 * 4 ^ j) lp (z_lt j l) ∙ fz j l)))

    -- where the sweep of this qubit ends
    end : Ended n q (now (4 ^ q)) (now (3 * 4 ^ q))
    end = ended n q (now (4 ^ q)) (now (3 * 4 ^ q)) (qubit_ends n q (now (4 ^ q)) (now (3 * 4 ^ q)) some few lq
        (takes.acts (4 ^ q) here.x_below).below (takes.acts (3 * 4 ^ q) here.z_below).below
        (free (4 ^ q) here.x_below here.x_x here.x_z) (free (3 * 4 ^ q) here.z_below here.z_x here.z_z)
        (kept (4 ^ q) (3 * 4 ^ q) here.x_below here.z_below ∙ here.anticommute))

    -- its gates behind the others
    later : (p : ℕ) → conjugated_by n (undo_list n made q ++ gates) (made p) ≡ conjugated_by n gates (now p)
    later p = conjugated_by-append n (undo_list n made q) gates (made p)

    -- one qubit more
    swept_more : Swept (suc q)
    unfolding undo_list
    swept_more = record {
      fits = all-append (GateFits n) (undo_list n made q) gates s.fits end.fits_all;
      kinds = all-append IsUndoGate (undo_list n made q) gates s.kinds end.kinds;
      short = let e = length-append (undo_list n made q) gates in omega (arith, e, s.short, end.short);
      x = λ j l. later (4 ^ j) ∙ elim (cases_eq j q) [
        | inl e ↦ ap (λ (k : ℕ). conjugated_by n gates (now (4 ^ k))) e ∙ end.a_is ∙ ap (λ (k : ℕ). positive (4 ^ k)) (sym e)
        | inr d ↦ ap (conjugated_by n gates) (s.x j (omega arith)) ∙ end.lower_x j (omega arith)
      ];
      z = λ j l. later (3 * 4 ^ j) ∙ elim (cases_eq j q) [
        | inl e ↦ ap (λ (k : ℕ). conjugated_by n gates (now (3 * 4 ^ k))) e ∙ end.b_is ∙ ap (λ (k : ℕ). positive (3 * 4 ^ k)) (sym e)
        | inr d ↦ ap (conjugated_by n gates) (s.z j (omega arith)) ∙ end.lower_z j (omega arith)
      ];
    }

  -- all qubits
  pub swept : (q : ℕ) → q ≤ n → Swept q
  swept zero l = swept_none
  swept (suc q) l = swept_more q (omega arith) (swept q (omega arith))
