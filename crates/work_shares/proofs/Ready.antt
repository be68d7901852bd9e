-- Owners that lent a part to each other worker are ready.
use Rattle.std.proofs.Common.{◌≡◌, ℕ, ◌+◌, ◌-◌, ◌%◌, ◌<◌, ◌≤◌, List, Vec, Global, [], ◌∷◌, Some, map, get_or, length, replicate, slice_get, slice_index_or, refl, sym, ap, ◌∙◌, subst, arith}
use Rattle.std.specs.List.{range_with_len}
use Rattle.std.proofs.lemmas.List.{length-map, get_or-map}
use Rattle.std.proofs.lemmas.Option.{slice_get_within, get_or_from_slice_get, slice_get-get_or}
use Rattle.std.proofs.Math.Nat.{mod-lt}
use Rattle.work_shares.specs.declared.theft.Theft.{Theft}
use Rattle.work_shares.specs.declared.entry.Entry.{Entry}
use Rattle.work_shares.specs.Entries.{entries_of}
use Rattle.work_shares.specs.Thefts.{DequeId, entries_after}
use Rattle.work_shares.specs.Ways.{ways_from}
use Rattle.work_shares.specs.Owners.{Owner, deque_of, parts_of, pushed_of, LeadOn, IsUntaken, IsFilled, AreFilled, IsReady}
use Rattle.work_shares.specs.Lending.{LendsAll, AreGiven}
use Rattle.work_shares.proofs.Full.{ways_full}

-- functions with the same values
map-each : {X Y : Type 0} (f g : X → Y) (xs : List X) → ((x : X) → f x ≡ g x) → map f xs ≡ map g xs
map-each f g [] same = refl
map-each f g (x ∷ xs) same = ap (λ y. y ∷ map f xs) (same x) ∙ ap (λ l. g x ∷ l) (map-each f g xs same)

-- the filled deque at an index, and f of it
filled_at : (count workers : ℕ) (owners : List Owner) (k : ℕ) → AreFilled count workers workers owners → k < workers → (o : Owner) × (slice_get owners k ≡ Some o) × IsFilled count workers k o
filled_at count workers owners k h lt = at_head owners h.each (let l = h.length_is in omega arith) where
  at_head : (xs : List Owner) → ((j : ℕ) (o : Owner) → slice_get xs j ≡ Some o → IsFilled count workers j o) → k < length xs → (o : Owner) × (slice_get xs k ≡ Some o) × IsFilled count workers k o
  at_head [] each below = absurd (omega arith)
  at_head (x ∷ xs) each below = let e = slice_get-get_or (x ∷ xs) k x below in (get_or (x ∷ xs) k x, e, each k (get_or (x ∷ xs) k x) e)

-- f of an owner, by the list of all f
at_mapped : {Y : Type 0} (f : Owner → Y) (owners : List Owner) (k : ℕ) (o : Owner) (y : Y) → slice_get owners k ≡ Some o → get_or (map f owners) k y ≡ f o
at_mapped f owners k o y e = get_or-map f owners k o y (slice_get_within owners k o e) ∙ ap f (get_or_from_slice_get owners k o o e)

module _ (count workers : ℕ) (old new : List Owner) (thefts : List (Vec Theft Global)) (filled : AreFilled count workers workers old) (lent : LendsAll (length old) thefts old new) where
  -- owners stay as many
  wide : length new ≡ length old
  wide = sym (length-map new deque_of) ∙ ap length lent.lender.deques ∙ length-map old deque_of

  pub owners_ready : workers ≤ 8 → (k : ℕ) (o : Owner) → slice_get new k ≡ Some o → IsReady count workers k o
  owners_ready few k o e =
      let long : length old ≡ workers = filled.length_is in
      let lt : k < length new = slice_get_within new k o e in
      let below : k < workers = (let w = wide in omega arith) in
      let was = filled_at count workers old k filled below in
      let parts : parts_of was.0 ≡ 8 = was.2.whole in
      let now : parts_of o + ways_from (length old) k 0 (replicate (length old) (length old - 1)) ≡ parts_of was.0 =
      ap (λ n. n + ways_from (length old) k 0 (replicate (length old) (length old - 1))) (sym (at_mapped parts_of new k o 0 e)) ∙ lent.lender.parts k (omega arith) ∙ at_mapped parts_of old k was.0 0 was.1 in
      record {
        untaken = subst IsUntaken (get_or_from_slice_get new k o o e) (lent.lender.untaken k o lt);
        pushed = sym (at_mapped pushed_of new k o [] e) ∙ ap (λ l. get_or l k []) lent.lender.pushed ∙ at_mapped pushed_of old k was.0 [] was.1 ∙ was.2.pushed;
        parts = (let f = ways_full (length old) k (omega arith) (omega arith) in omega arith);
      }

  pub ways_given : 0 < workers → (k : ℕ) (own : Vec Theft Global) → slice_get thefts k ≡ Some own → AreGiven count workers k own.items
  unfolding entries_after
  ways_given some k own e =
      let ways = lent.ways k own e in
      let long : length old ≡ workers = filled.length_is in
      let f : ℕ → ℕ → List Entry = λ w i. slice_index_or (map pushed_of old) ((k + 1 + i) % w) [] in
      record {
        given = ways.given ∙ ap (λ w. map (f w) (range_with_len 0 (w - 1))) long ∙ map-each (f workers) (λ i. entries_of count workers ((k + 1 + i) % workers)) (range_with_len 0 (workers - 1)) (λ i.
            let was = filled_at count workers old ((k + 1 + i) % workers) filled (mod-lt (k + 1 + i) some) in
            at_mapped pushed_of old ((k + 1 + i) % workers) was.0 [] was.1 ∙ was.2.pushed);
        unused = ways.unused;
      }

  pub ways_lead : (k : ℕ) (own : Vec Theft Global) → slice_get thefts k ≡ Some own → LeadOn (map deque_of new) k own.items
  ways_lead k own e = subst (λ (l : List DequeId). LeadOn l k own.items) (sym lent.lender.deques) (lent.ways k own e).lead
