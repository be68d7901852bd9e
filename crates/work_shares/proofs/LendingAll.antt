-- What the ways of all workers take from the owners.
use Rattle.std.proofs.Common.{◌≡◌, ℕ, zero, suc, ◌+◌, ◌-◌, ◌%◌, ◌<◌, ◌≤◌, ⊎_elim, List, Vec, Global, [], ◌∷◌, ◌++◌, All, map, length, length-append, replicate, slice_index, slice_index_or, refl, sym, ap, ◌∙◌, subst, arith}
use Rattle.std.specs.List.{range_with_len}
use Rattle.std.proofs.lemmas.List.{length-map, replicate-append-replicate, length-replicate}
use Rattle.work_shares.specs.declared.theft.Theft.{Theft}
use Rattle.work_shares.specs.declared.entry.Entry.{Entry}
use Rattle.work_shares.specs.Thefts.{DequeId}
use Rattle.work_shares.specs.Rule.{all_parts}
use Rattle.work_shares.specs.Ways.{ways_of, ways_from}
use Rattle.work_shares.specs.Owners.{Owner, deque_of, parts_of, pushed_of, LeadOn, IsUntaken}
use Rattle.work_shares.specs.Lending.{IsLender, AreWays, Lends, LendsAll}
use Rattle.work_shares.proofs.AllBack.{ways_from-push}
use Rattle.work_shares.proofs.Full.{ways_few}
use Rattle.work_shares.proofs.LendingOne.{slice_get-pushed}

-- lenders stay as many
lender_wide : (lent : ℕ → ℕ) (old now : List Owner) → IsLender lent old now → length now ≡ length old
lender_wide lent old now h = sym (length-map now deque_of) ∙ ap length h.deques ∙ length-map old deque_of

-- the ways of the workers before and of one more
ways_more : (workers d n : ℕ) → ways_from workers d 0 (replicate (n + 1) (workers - 1)) ≡ ways_from workers d 0 (replicate n (workers - 1)) + ways_of workers d n (workers - 1)
ways_more workers d n =
    ap (ways_from workers d 0) (sym (replicate-append-replicate n 1 (workers - 1))) ∙ ways_from-push workers d 0 (replicate n (workers - 1)) (workers - 1)
    ∙ ap (λ k. ways_from workers d 0 (replicate n (workers - 1)) + ways_of workers d k (workers - 1)) (let e : 0 + length (replicate n (workers - 1)) ≡ n = omega (arith, length-replicate n (workers - 1)) in e)

-- before the first worker
pub lends_all_start : (owners : List Owner) → All IsUntaken owners → LendsAll 0 [] owners owners
unfolding ways_from
lends_all_start owners untaken = record {
  count = refl;
  ways = λ worker own e. absurd cc;
  lender = record { deques = refl; pushed = refl; parts = λ d lt. omega arith; untaken = untaken };
}

-- there are parts for the next worker's ways
pub lends_all_room : (n : ℕ) (thefts : List (Vec Theft Global)) (old now : List Owner) → LendsAll n thefts old now → n < length old → length old ≤ 8 → All (λ o. parts_of o ≡ all_parts) old
    → (d : ℕ) → d < length now → ways_of (length now) d n (length now - 1) < slice_index (map parts_of now) d
lends_all_room n thefts old now h lt few whole d below =
    let wide = lender_wide _ old now h.lender in
    let k : d < length old = omega arith in
    let few_ways = ways_few (length old) d (n + 1) few k (omega arith) in
    let was : slice_index (map parts_of old) d ≡ 8 = parts_are old d k whole in
    let same : ways_of (length now) d n (length now - 1) ≡ ways_of (length old) d n (length old - 1) = ap (λ w. ways_of w d n (w - 1)) wide in
    omega (arith, h.lender.parts d k, ways_more (length old) d n)
  where
    parts_are : (owners : List Owner) (d : ℕ) → d < length owners → All (λ o. parts_of o ≡ all_parts) owners → slice_index (map parts_of owners) d ≡ 8
    parts_are [] d lt whole = absurd (omega arith)
    parts_are (o ∷ os) zero lt whole = whole 0 o (omega arith)
    parts_are (o ∷ os) (suc d) lt whole = parts_are os d (omega arith) (λ k e below. whole (suc k) e (omega arith))

-- ways into the same deques, which were given the same
ways_same : (worker n : ℕ) (thefts : List Theft) (old now : List Owner) → map deque_of now ≡ map deque_of old → map pushed_of now ≡ map pushed_of old → length now ≡ length old → AreWays worker n thefts now → AreWays worker n thefts old
ways_same worker n thefts old now deques pushed wide h = record {
  lead = subst (λ (l : List DequeId). LeadOn l worker thefts) deques h.lead;
  given = h.given ∙ ap (λ (l : List (List Entry)). map (λ i. slice_index_or l ((worker + 1 + i) % length now) []) (range_with_len 0 n)) pushed
      ∙ ap (λ (w : ℕ). map (λ i. slice_index_or (map pushed_of old) ((worker + 1 + i) % w) []) (range_with_len 0 n)) wide;
  unused = h.unused;
}

-- one worker more
pub lends_all_step : (n : ℕ) (thefts : List (Vec Theft Global)) (own : Vec Theft Global) (old now new : List Owner) → LendsAll n thefts old now → Lends n (length now - 1) own.items now new → LendsAll (n + 1) (thefts ++ own ∷ []) old new
lends_all_step n thefts own old now new h more =
    let wide = lender_wide _ old now h.lender in
    record {
      count = length-append thefts (own ∷ []) ∙ (let c = h.count in omega arith);
      ways = λ worker w e. ⊎_elim (h.ways worker w)
          (λ (last : (worker ≡ length thefts) × (own ≡ w)).
          let place : worker ≡ n = last.0 ∙ h.count in
          let ways : AreWays n (length old - 1) own.items now = subst (λ (k : ℕ). AreWays n (k - 1) own.items now) wide more.ways in
          let here = ways_same n (length old - 1) own.items old now h.lender.deques h.lender.pushed wide ways in
          subst (λ (v : Vec Theft Global). AreWays worker (length old - 1) v.items old) last.1 (subst (λ (k : ℕ). AreWays k (length old - 1) own.items old) (sym place) here))
          (slice_get-pushed thefts own worker w e);
      lender = record {
        deques = more.lender.deques ∙ h.lender.deques;
        pushed = more.lender.pushed ∙ h.lender.pushed;
        parts = λ d lt. (
            let same : ways_of (length now) d n (length now - 1) ≡ ways_of (length old) d n (length old - 1) = ap (λ w. ways_of w d n (w - 1)) wide in
            omega (arith, h.lender.parts d lt, more.lender.parts d (omega arith), ways_more (length old) d n));
        untaken = more.lender.untaken;
      };
    }
