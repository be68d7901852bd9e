-- What the shares of one deal know of each other.
use Rattle.std.proofs.Common.{◌≡◌, ℕ, zero, suc, ◌+◌, ◌-◌, ◌%◌, ◌<◌, ◌≤◌, List, Vec, Global, [], ◌∷◌, Some, IsTrue, All, map, get_or, length, replicate, slice_get, slice_index, refl, sym, ap, ◌∙◌, arith}
use Rattle.std.proofs.lemmas.List.{length-map, get_or-map}
use Rattle.std.proofs.lemmas.Option.{slice_get-get_or}
use Rattle.std.proofs.lemmas.List.Elements.{All-map, All-weaker}
use Rattle.std.proofs.lemmas.List.FromFn.{length-map-range_with_len}
use Rattle.work_shares.specs.declared.share.Share.{Share}
use Rattle.work_shares.specs.declared.theft.Theft.{Theft}
use Rattle.work_shares.specs.declared.entry.Entry.{Entry}
use Rattle.work_shares.specs.Cuts.{block_count, blocks_for}
use Rattle.work_shares.specs.Thefts.{deque_into, pushed_into, entries_after}
use Rattle.work_shares.specs.Ways.{ways_from}
use Rattle.work_shares.specs.Entries.{entries_of}
use Rattle.work_shares.specs.Seats.{count_of}
use Rattle.work_shares.specs.Rule.{all_parts}
use Rattle.work_shares.specs.Places.{Place}
use Rattle.work_shares.specs.Owners.{Owner, deque_of, parts_of, LeadAllOn, IsLive, HasMark, TookBack}
use Rattle.work_shares.specs.Shares.{place_of, own_blocks, is_ended, AreDeal, AreEnded}
use Rattle.work_shares.specs.Apart.{own_of, thefts_of}
use Rattle.work_shares.proofs.AllBack.{lengths_of}
use Rattle.work_shares.proofs.Full.{ways_full}

-- f of an element of a list of f
pub slice_get-mapped : {X Y : Type 0} (f : X → Y) (xs : List X) (k : ℕ) (y : Y) → slice_get (map f xs) k ≡ Some y → (x : X) × ((slice_get xs k ≡ Some x) × (f x ≡ y))
slice_get-mapped f [] k y e = absurd cc
slice_get-mapped f (x ∷ xs) zero y e = (x, (refl, cc))
slice_get-mapped f (x ∷ xs) (suc k) y e = slice_get-mapped f xs k y e

-- the same from the element
pub slice_get-map_at : {X Y : Type 0} (f : X → Y) (xs : List X) (k : ℕ) (x : X) → slice_get xs k ≡ Some x → slice_get (map f xs) k ≡ Some (f x)
slice_get-map_at f [] k x e = absurd cc
slice_get-map_at f (z ∷ zs) zero x e = cc
slice_get-map_at f (z ∷ zs) (suc k) x e = slice_get-map_at f zs k x e

module _ {L : Type 0} where
  -- the place of the share at an index
  pub place_at : (total size : ℕ) (shares : List (Share L)) → AreDeal total size shares → (k : ℕ) (s : Share L) → slice_get shares k ≡ Some s
      → ((place_of s).total ≡ total) × ((place_of s).size ≡ size) × ((place_of s).workers ≡ length shares) × ((place_of s).worker ≡ k)
      × ((place_of s).given ≡ entries_of (block_count total size) (length shares) k)
  place_at total size shares deal k s e =
      let at = deal.each k (place_of s) (slice_get-map_at place_of shares k s e) in
      (at.0, at.1, at.2 ∙ length-map shares place_of, at.3, at.4 ∙ ap (λ w. entries_of (block_count total size) w k) (length-map shares place_of))

  -- the blocks that went into the deque of the share at an index
  pub own_blocks_at : (total size : ℕ) (shares : List (Share L)) → AreDeal total size shares → (k : ℕ) (s : Share L) → slice_get shares k ≡ Some s → own_blocks s ≡ blocks_for total size (length shares) k
  own_blocks_at total size shares deal k s e =
      let at = place_at total size shares deal k s e in
      ap (λ t. blocks_for t (place_of s).size (place_of s).workers (place_of s).worker) at.0
      ∙ ap (λ z. blocks_for total z (place_of s).workers (place_of s).worker) at.1
      ∙ ap (λ w. blocks_for total size w (place_of s).worker) at.2
      ∙ ap (blocks_for total size (length shares)) at.3

  -- the deques of the places are those of the owners
  deques_same : (shares : List (Share L)) → map (λ (q : Place). q.deque) (map place_of shares) ≡ map deque_of (map own_of shares)
  deques_same [] = refl
  deques_same (s ∷ ss) = ap (λ l. (place_of s).deque ∷ l) (deques_same ss)

  -- the thefts of each share lead into the deques of the workers after it
  pub all_lead : (total size : ℕ) (shares : List (Share L)) → AreDeal total size shares → LeadAllOn (map deque_of (map own_of shares)) (map thefts_of shares)
  all_lead total size shares deal worker own e i d f =
      let found = slice_get-mapped thefts_of shares worker own e in
      let s = found.0 in
      let others : slice_get (map deque_into s.seat.thefts.items) i ≡ Some d = ap (λ (v : Vec Theft Global). slice_get (map deque_into v.items) i) found.1.1 ∙ f in
      let there = deal.others i worker (place_of s) d (slice_get-map_at place_of shares worker s found.1.0) others in
      let wide : length (map deque_of (map own_of shares)) ≡ length (map place_of shares) = ap length (sym (deques_same shares)) ∙ length-map (map place_of shares) (λ (q : Place). q.deque) in
      ap (λ n. slice_get (map deque_of (map own_of shares)) ((worker + 1 + i) % n)) wide ∙ ap (λ l. slice_get l ((worker + 1 + i) % length (map place_of shares))) (sym (deques_same shares)) ∙ there

  -- a share's owner may take back
  live_share : (s : Share L) → IsLive (own_of s)
  live_share s = let h = s.seated.stands in let p = h.parts in let f = h.few in omega arith

  -- all owners may take back
  pub all_live : (shares : List (Share L)) → All IsLive (map own_of shares)
  all_live shares = All-map IsLive own_of shares (λ k s lt. live_share (get_or shares k s))

  -- an ended share's owner has an end mark
  marked_share : (s : Share L) → IsTrue (is_ended s) → HasMark (own_of s)
  marked_share s ended = let m = s.seated.stands.marked in m.over (m.ended ended)

  -- where all shares have ended, all owners have end marks
  pub all_marked : (shares : List (Share L)) → AreEnded shares → All HasMark (map own_of shares)
  all_marked shares ended = All-map HasMark own_of shares (All-weaker (λ (s : Share L). IsTrue (is_ended s)) (λ s. HasMark (own_of s)) marked_share shares ended)

  -- how many thefts a share has, and how many parts
  thefts_count : (s : Share L) → length s.seat.thefts.items + 1 ≡ s.seat.workers
  unfolding entries_after
  thefts_count s =
      let h = s.seated.stands in
      let w = s.seat.workers in
      let many : length s.seat.thefts.items ≡ w - 1 = sym (length-map s.seat.thefts.items pushed_into) ∙ ap length h.others
      ∙ length-map-range_with_len (λ i. entries_of (count_of s.seat) w ((s.seat.worker + 1 + i) % w)) 0 (w - 1) in
      let some = h.worker in
      omega arith

  -- the shares from one on have as many thefts as there are other workers
  counts_from : (workers : ℕ) (shares : List (Share L)) → All (λ s. (place_of s).workers ≡ workers) shares → lengths_of (map thefts_of shares) ≡ replicate (length shares) (workers - 1)
  counts_from workers [] each = refl
  counts_from workers (s ∷ ss) each =
      let head : (place_of s).workers ≡ workers = each 0 s (omega arith) in
      let n : length s.seat.thefts.items ≡ workers - 1 = (let c = thefts_count s in omega arith) in
      ap (λ k. k ∷ lengths_of (map thefts_of ss)) n ∙ ap (λ l. (workers - 1) ∷ l) (counts_from workers ss (λ k d lt. each (suc k) d (omega arith)))

  -- each share knows how many there are
  pub workers_same : (total size : ℕ) (shares : List (Share L)) → AreDeal total size shares → All (λ s. (place_of s).workers ≡ length shares) shares
  workers_same total size shares deal k d lt = (place_at total size shares deal k (get_or shares k d) (slice_get-get_or shares k d lt)).2

  -- how many parts an owner has beside the others
  parts_at : (workers : ℕ) (shares : List (Share L)) (k : ℕ) → All (λ s. (place_of s).workers ≡ workers) shares → k < length shares → slice_index (map parts_of (map own_of shares)) k + workers ≡ 9
  parts_at workers [] k each lt = absurd (omega arith)
  parts_at workers (s ∷ ss) zero each lt = let w : (place_of s).workers ≡ workers = each 0 s (omega arith) in let p = s.seated.stands.parts in omega arith
  parts_at workers (s ∷ ss) (suc k) each lt = parts_at workers ss k (λ j d below. each (suc j) d (omega arith)) (omega arith)

  -- with what comes back each owner has every part
  pub parts_whole : (total size : ℕ) (shares : List (Share L)) (d : ℕ) → AreDeal total size shares → d < length shares
      → slice_index (map parts_of (map own_of shares)) d + ways_from (length shares) d 0 (lengths_of (map thefts_of shares)) ≡ 8
  parts_whole total size shares d deal lt =
      let few : length shares ≤ 8 = (let f = deal.few in omega (arith, length-map shares place_of)) in
      let ways = ap (ways_from (length shares) d 0) (counts_from (length shares) shares (workers_same total size shares deal)) in
      let full = ways_full (length shares) d few lt in
      let rest = parts_at (length shares) shares d (workers_same total size shares deal) lt in
      omega arith

  -- the owners have every part once all is taken back
  pub owners_whole : (total size : ℕ) (shares : List (Share L)) (got : (Entry → ℕ) → ℕ) (new : List Owner) → AreDeal total size shares
      → TookBack (λ d. ways_from (length (map own_of shares)) d 0 (lengths_of (map thefts_of shares))) got (map own_of shares) new → All (λ o. parts_of o ≡ all_parts) new
  owners_whole total size shares got new deal took k d lt =
      let same : length (map own_of shares) ≡ length shares = length-map shares own_of in
      let wide : length new ≡ length shares = sym (length-map new deque_of) ∙ ap length took.deques ∙ length-map (map own_of shares) deque_of ∙ same in
      let below : k < length (map own_of shares) = omega arith in
      let ways : ways_from (length (map own_of shares)) k 0 (lengths_of (map thefts_of shares)) ≡ ways_from (length shares) k 0 (lengths_of (map thefts_of shares)) = ap (λ n. ways_from n k 0 (lengths_of (map thefts_of shares))) same in
      let whole = parts_whole total size shares k deal (omega arith) in
      sym (get_or-map parts_of new k d 0 lt) ∙ took.parts k below ∙ ap (λ n. slice_index (map parts_of (map own_of shares)) k + n) ways ∙ whole
