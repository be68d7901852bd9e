-- The blocks of all workers are dealt ones, none more than once; and all of them, once all shares have ended.
use Rattle.std.proofs.Common.{◌≡◌, ℕ, suc, ◌+◌, ◌*◌, ◌<◌, ◌≤◌, List, Vec, Global, [], ◌∷◌, Some, All, IsPermutation, map, flat_map, length, get_or, slice_get, refl, sym, ap, ◌∙◌, arith}
use Rattle.std.specs.List.{sum_by, range_with_len}
use Rattle.std.proofs.lemmas.List.{length-map, get_or-map}
use Rattle.std.proofs.lemmas.List.FromFn.{get_or-map-range_with_len}
use Rattle.std.proofs.lemmas.List.Sums.{sum_by-cons, sum_by-append, get_or-le-sum_by}
use Rattle.crossbeam_deque.specs.Handles.{worker_view}
use Rattle.work_shares.specs.declared.share.Share.{Share}
use Rattle.work_shares.specs.declared.theft.Theft.{Theft}
use Rattle.work_shares.specs.declared.entry.Entry.{Entry}
use Rattle.work_shares.specs.declared.entry.Entry.TheVariants.{Work, End}
use Rattle.work_shares.specs.Cuts.{block_at, block_count, dealt, numbers_of, blocks_for, IsPartOf}
use Rattle.work_shares.specs.Blocks.{extents_of}
use Rattle.work_shares.specs.Entries.{weight_of, entries_of}
use Rattle.work_shares.specs.Rule.{Learnt}
use Rattle.work_shares.specs.Thefts.{got_by}
use Rattle.work_shares.specs.Seats.{seat_got}
use Rattle.work_shares.specs.Owners.{Owner, pushed_of, owner_got, marks_of, HasMark, KeepMarks}
use Rattle.work_shares.specs.Shares.{place_of, noted_by, AreDeal}
use Rattle.work_shares.specs.Apart.{own_of, thefts_of}
use Rattle.work_shares.proofs.Counts.{sum_by-mapped, sum_by-numbers_of}
use Rattle.work_shares.proofs.Pushes.{sum_by-entries_of}
use Rattle.work_shares.proofs.Permuted.{part_of, permuted, same_pair, tells_pairs}
use Rattle.work_shares.proofs.AllBack.{all_got}
use Rattle.work_shares.proofs.Ties.{place_at}

-- what the blocks of a worker's deque weigh
abbrev blocks_weigh : (Entry → ℕ) → ℕ → ℕ → ℕ → ℕ
blocks_weigh weight count workers worker = sum_by (λ number. weight (Work number)) (numbers_of count workers worker)

-- an owner has got no block of its deque twice, and each block where it has an end mark
got_own : (weight : Entry → ℕ) (count workers worker : ℕ) (owner : Owner) → pushed_of owner ≡ entries_of count workers worker → Learnt (worker_view owner) [] → weight End ≡ 0
    → (owner_got weight owner ≤ blocks_weigh weight count workers worker) × (HasMark owner → owner_got weight owner ≡ blocks_weigh weight count workers worker)
unfolding entries_of
got_own weight count workers worker owner pushed learnt none = (
  omega (arith, learnt.apart weight, ap (sum_by weight) pushed, sum_by-entries_of weight count workers worker, ap (λ k. workers * k) none),
  λ marked. learnt.all (numbers_of count workers worker) workers pushed marked weight none,
)

-- the same of all owners from one on
got_owners : (weight : Entry → ℕ) (count workers first : ℕ) (owners : List Owner) → map pushed_of owners ≡ map (entries_of count workers) (range_with_len first (length owners)) → All (λ o. Learnt (worker_view o) []) owners → weight End ≡ 0
    → (sum_by (owner_got weight) owners ≤ sum_by (blocks_weigh weight count workers) (range_with_len first (length owners)))
    × (All HasMark owners → sum_by (owner_got weight) owners ≡ sum_by (blocks_weigh weight count workers) (range_with_len first (length owners)))
got_owners weight count workers first [] pushed learnt none = (omega arith, λ marked. refl)
got_owners weight count workers first (o ∷ os) pushed learnt none =
    let here = got_own weight count workers first o (head_same pushed) (learnt 0 o (omega arith)) none in
    let there = got_owners weight count workers (first + 1) os (tail_same pushed) (λ k d lt. learnt (suc k) d (omega arith)) none in
    let one = sum_by-cons (owner_got weight) o os in
    let two = sum_by-cons (blocks_weigh weight count workers) first (range_with_len (first + 1) (length os)) in
    (omega (arith, here.0, there.0), λ marked. omega (arith, here.1 (marked 0 o (omega arith)), there.1 (λ k d lt. marked (suc k) d (omega arith))))
  where
    head_same : {X : Type 0} {x y : X} {xs ys : List X} → x ∷ xs ≡ y ∷ ys → x ≡ y
    head_same e = cc

    tail_same : {X : Type 0} {x y : X} {xs ys : List X} → x ∷ xs ≡ y ∷ ys → xs ≡ ys
    tail_same e = cc

-- a share stands at its place in a deal of these numbers
abbrev StandsAt : {L : Type 0} → ℕ → ℕ → ℕ → ℕ → Share L → Type 0
StandsAt total size workers worker s = ((place_of s).total ≡ total) × ((place_of s).size ≡ size) × ((place_of s).workers ≡ workers) × ((place_of s).worker ≡ worker)
    × ((place_of s).given ≡ entries_of (block_count total size) workers worker)

module _ {L : Type 0} (total size workers : ℕ) where
  -- the shares from one on stand at their places
  abbrev StandFrom : ℕ → List (Share L) → Type 0
  StandFrom first shares = (k : ℕ) (s : Share L) → slice_get shares k ≡ Some s → StandsAt total size workers (first + k) s

  -- the shares behind the first one
  rest_stands : (first : ℕ) (s : Share L) (ss : List (Share L)) → StandFrom first (s ∷ ss) → StandFrom (first + 1) ss
  rest_stands first s ss h k t e = let f = h (suc k) t e in let on : first + suc k ≡ first + 1 + k = omega arith in (f.0, f.1, f.2, f.3 ∙ on, f.4 ∙ ap (entries_of (block_count total size) workers) on)

  -- what their deques were given
  pushed_from : (first : ℕ) (shares : List (Share L)) → StandFrom first shares → map pushed_of (map own_of shares) ≡ map (entries_of (block_count total size) workers) (range_with_len first (length shares))
  pushed_from first [] h = refl
  pushed_from first (s ∷ ss) h =
      let own : pushed_of (own_of s) ≡ entries_of (block_count total size) workers first = (h 0 s refl).4 ∙ ap (entries_of (block_count total size) workers) (let z : first + 0 ≡ first = omega arith in z) in
      ap (λ (l : List Entry). l ∷ map pushed_of (map own_of ss)) own ∙ ap (λ l. entries_of (block_count total size) workers first ∷ l) (pushed_from (first + 1) ss (rest_stands first s ss h))

  -- what they noted is what their owners and thefts got
  noted_from : (weight : ℕ × ℕ → ℕ) (first : ℕ) (shares : List (Share L)) → StandFrom first shares
      → sum_by weight (flat_map extents_of (map noted_by shares)) ≡ sum_by (owner_got (weight_of weight total size)) (map own_of shares) + all_got (weight_of weight total size) (map thefts_of shares)
  noted_from weight first [] h = refl
  noted_from weight first (s ∷ ss) h =
      let at = h 0 s refl in
      let w : Entry → ℕ = weight_of weight total size in
      let here : sum_by weight (extents_of (noted_by s)) ≡ seat_got w s.seat = s.seated.noted weight ∙ ap (λ t. seat_got (weight_of weight t s.seat.cut.size) s.seat) at.0 ∙ ap (λ t. seat_got (weight_of weight total t) s.seat) at.1 in
      omega (
        arith,
        noted_from weight (first + 1) ss (rest_stands first s ss h),
        sum_by-append weight (extents_of (noted_by s)) (flat_map extents_of (map noted_by ss)),
        sum_by-cons (owner_got w) (own_of s) (map own_of ss),
        sum_by-cons (λ (own : Vec Theft Global). sum_by (got_by w) own.items) (thefts_of s) (map thefts_of ss),
      )

-- an end mark of an owner stays
pub mark_stays : (old new : List Owner) (k : ℕ) (d : Owner) → KeepMarks old new → k < length old → k < length new → HasMark (get_or old k d) → HasMark (get_or new k d)
mark_stays old new k d marks was now mark = omega (arith, get_or-map marks_of old k d 0 was, get_or-map marks_of new k d 0 now, marks k)

-- the owners of a deal's shares took all thefts back, and learnt what they got
pub record Settling {L : Type 0} (total size : ℕ) (shares : List (Share L)) (new : List Owner) : Type 0 where
  pub deal : AreDeal total size shares
  pub pushed : map pushed_of new ≡ map pushed_of (map own_of shares)
  pub got : (weight : Entry → ℕ) → sum_by (owner_got weight) new ≡ sum_by (owner_got weight) (map own_of shares) + all_got weight (map thefts_of shares)
  pub marks : KeepMarks (map own_of shares) new
  pub learnt : All (λ o. Learnt (worker_view o) []) new

module _ {L : Type 0} (total size : ℕ) (shares : List (Share L)) (new : List Owner) (s : Settling total size shares new) where
  -- there are as many owners as shares
  wide : length new ≡ length shares
  wide = sym (length-map new pushed_of) ∙ ap length s.pushed ∙ length-map (map own_of shares) pushed_of ∙ length-map shares own_of

  -- each share stands at its place
  stand_all : StandFrom total size (length shares) 0 shares
  stand_all k t e = let at = place_at total size shares s.deal k t e in let on : k ≡ 0 + k = omega arith in (at.0, at.1, at.2, at.3 ∙ on, at.4 ∙ ap (entries_of (block_count total size) (length shares)) on)

  -- what the owners' deques were given
  pushed_all : map pushed_of new ≡ map (entries_of (block_count total size) (length shares)) (range_with_len 0 (length new))
  pushed_all = s.pushed ∙ pushed_from total size (length shares) 0 shares stand_all ∙ ap (λ n. map (entries_of (block_count total size) (length shares)) (range_with_len 0 n)) (sym wide)

  -- what the dealt blocks weigh, by the deques that they went into
  dealt_weigh : (weight : ℕ × ℕ → ℕ) → sum_by weight (dealt total size) ≡ sum_by (blocks_weigh (weight_of weight total size) (block_count total size) (length shares)) (range_with_len 0 (length new))
  unfolding dealt
  dealt_weigh weight =
      let count = block_count total size in
      let h : ℕ → ℕ = λ number. weight (block_at total size number) in
      let some : 0 < length shares = (let t = s.deal.some in omega (arith, length-map shares place_of)) in
      sum_by-mapped weight (block_at total size) (range_with_len 0 count)
      ∙ sym (sum_by-numbers_of h count (length shares) some)
      ∙ ap (λ n. sum_by (λ d. sum_by h (numbers_of count (length shares) d)) (range_with_len 0 n)) (sym wide)

  -- the blocks that all workers noted weigh what the owners have got
  noted_weigh : (weight : ℕ × ℕ → ℕ) → sum_by weight (flat_map extents_of (map noted_by shares)) ≡ sum_by (owner_got (weight_of weight total size)) new
  noted_weigh weight = noted_from total size (length shares) weight 0 shares stand_all ∙ sym (s.got (weight_of weight total size))

  -- what the owners have got weighs no more than what was dealt, and as much where all have end marks
  got_weigh : (weight : ℕ × ℕ → ℕ) → (sum_by (owner_got (weight_of weight total size)) new ≤ sum_by weight (dealt total size))
      × (All HasMark new → sum_by (owner_got (weight_of weight total size)) new ≡ sum_by weight (dealt total size))
  got_weigh weight =
      let got = got_owners (weight_of weight total size) (block_count total size) (length shares) 0 new pushed_all s.learnt refl in
      (omega (arith, got.0, dealt_weigh weight), λ marked. got.1 marked ∙ sym (dealt_weigh weight))

  -- no block was noted twice
  pub apart_dealt : IsPartOf (flat_map extents_of (map noted_by shares)) (dealt total size)
  apart_dealt = part_of same_pair tells_pairs (flat_map extents_of (map noted_by shares)) (dealt total size) (λ weight. omega (arith, noted_weigh weight, (got_weigh weight).0))

  -- where all shares' owners have end marks, each dealt block was noted once
  pub once_dealt : All HasMark (map own_of shares) → IsPermutation (dealt total size) (flat_map extents_of (map noted_by shares))
  once_dealt marked =
      let all : All HasMark new = λ k d lt. (let was : k < length (map own_of shares) = omega (arith, wide, length-map shares own_of) in mark_stays (map own_of shares) new k d s.marks was lt (marked k d was)) in
      permuted same_pair tells_pairs (dealt total size) (flat_map extents_of (map noted_by shares)) (λ weight. sym (noted_weigh weight ∙ (got_weigh weight).1 all))

  -- where the owner of one deque has an end mark, each block of that deque was noted
  pub own_noted : (k : ℕ) (o : Owner) → k < length shares → HasMark (get_or (map own_of shares) k o) → IsPartOf (blocks_for total size (length shares) k) (flat_map extents_of (map noted_by shares))
  own_noted k o lt mark =
      let count = block_count total size in
      let below : k < length new = omega (arith, wide) in
      let kept = mark_stays (map own_of shares) new k o s.marks (omega (arith, length-map shares own_of)) below mark in
      let pushed : pushed_of (get_or new k o) ≡ entries_of count (length shares) k = sym (get_or-map pushed_of new k o [] below) ∙ ap (λ l. get_or l k []) pushed_all
      ∙ get_or-map-range_with_len (entries_of count (length shares)) 0 (length new) k k [] below (omega arith) in
      part_of same_pair tells_pairs (blocks_for total size (length shares) k) (flat_map extents_of (map noted_by shares)) (λ weight.
      let w : Entry → ℕ = weight_of weight total size in
      let own = (got_own w count (length shares) k (get_or new k o) pushed (s.learnt k o below) refl).1 kept in
      omega (arith, sum_by-mapped weight (block_at total size) (numbers_of count (length shares) k), own, get_or-le-sum_by (owner_got w) new k o below, noted_weigh weight))
