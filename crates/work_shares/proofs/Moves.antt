-- What a call for a block does to a seat.
use Rattle.std.proofs.Common.{◌≡◌, ℕ, ◌+◌, ◌<◌, ◌⊎◌, inl, inr, true, List, [], ◌∷◌, ◌++◌, Option, Some, None, IfSome, IfNone, Contains, map, Vec, Global, vec_len, vec_capacity, refl, sym, ap, ◌∙◌, subst, arith}
use Rattle.std.specs.List.{sum_by, Any}
use Rattle.std.proofs.lemmas.List.Sums.{sum_by_push}
use Rattle.std.proofs.lemmas.List.{map-append, length-map, get_or-map}
use Rattle.std.proofs.lemmas.List.FromFn.{length-map-range_with_len, get_or-map-range_with_len}
use Rattle.crossbeam_deque.specs.Handles.{worker_flavor}
use Rattle.work_shares.specs.declared.block.Block.{Block}
use Rattle.work_shares.specs.declared.seat.Seat.{Seat}
use Rattle.work_shares.specs.declared.entry.Entry.{Entry}
use Rattle.work_shares.specs.declared.entry.Entry.TheVariants.{Work}
use Rattle.work_shares.specs.declared.entry.View.{View}
use Rattle.work_shares.specs.Cuts.{block_count, block_at, dealt, numbers_of, blocks_for}
use Rattle.work_shares.specs.Blocks.{extent_of, extents_of}
use Rattle.work_shares.specs.Entries.{ends, blocks_left, weight_of}
use Rattle.work_shares.specs.Rule.{GotApart}
use Rattle.work_shares.specs.Thefts.{Steals, pushed_into, got_by, left_into, entries_after}
use Rattle.work_shares.specs.Places.{Place}
use Rattle.work_shares.specs.Seats.{own_view, count_of, place_of_seat, seat_left, seat_got, IsMarked, IsStanding, IsSeated, TakesOwn, Takes}
use Rattle.work_shares.proofs.Pushes.{below_of, below_after, own_of}

-- a try at the seat's own deque leaves the seat where it stands
standing-own : (number : Option ℕ) (s t : Seat) → IsStanding s → TakesOwn number s t → IsStanding t
standing-own number s t h m =
    let cut : t.cut ≡ s.cut = ap (λ (u : Seat). u.cut) m.rest in
    let workers : t.workers ≡ s.workers = ap (λ (u : Seat). u.workers) m.rest in
    let worker : t.worker ≡ s.worker = ap (λ (u : Seat). u.worker) m.rest in
    let thefts : map pushed_into t.thefts.items ≡ map pushed_into s.thefts.items = ap (λ (u : Seat). map pushed_into u.thefts.items) m.rest in
    record {
      worker = (let a = h.worker in omega arith);
      few = (let a = h.few in omega arith);
      front = m.front ∙ h.front;
      parts = (let a = h.parts in let b = m.gives.parts in omega arith);
      own = m.gives.pushed ∙ h.own ∙ rw (cut, workers, worker) refl;
      others = thefts ∙ h.others ∙ rw (cut, workers, worker) refl;
      apart = m.gives.apart h.apart;
      marked = m.marked;
    }

-- a try at the own deque keeps the place
place-own : (number : Option ℕ) (s t : Seat) → TakesOwn number s t → place_of_seat t ≡ place_of_seat s
place-own number s t m = ap place_of_seat m.rest ∙ rw (m.deque, m.gives.pushed) refl

-- the seat got the block of a number from its own deque, or none
pub takes-own : (number : Option ℕ) (s t : Seat) → IsStanding s → TakesOwn number s t → Takes number s t
unfolding seat_left
takes-own number s t h m = record {
  stands = standing-own number s t h m;
  place = place-own number s t m;
  noted = ap (λ (u : Seat). u.noted) m.rest;
  ended = ap (λ (u : Seat). u.ended) m.rest;
  over = m.over;
  below = below-own number s t h m;
  own = own-own number s t h m;
  got = λ weight none. omega (arith, m.gives.got weight none, ap (λ (u : Seat). sum_by (got_by weight) u.thefts.items) m.rest);
  left = omega (arith, m.gives.left, ap (λ (u : Seat). sum_by left_into u.thefts.items) m.rest);
} where
  own-own : (number : Option ℕ) (s t : Seat) → IsStanding s → TakesOwn number s t → IfSome number (λ n. Contains (numbers_of (count_of s) s.workers s.worker) n ⊎ (t.over ≡ true))
  own-own None s t h m = tt
  own-own (Some n) s t h m = inl (own_of (count_of s) s.workers s.worker n (subst (λ (l : List Entry). Contains l (Work n)) h.own m.gives.known))

  below-own : (number : Option ℕ) (s t : Seat) → IsStanding s → TakesOwn number s t → IfSome number (λ n. n < count_of s)
  below-own None s t h m = tt
  below-own (Some n) s t h m = below_of (count_of s) s.workers s.worker n (subst (λ (l : List Entry). Contains l (Work n)) h.own m.gives.known)

-- seats at one place have the same deques after them
after-same : (s t : Seat) → place_of_seat t ≡ place_of_seat s → entries_after (count_of t) t.workers t.worker ≡ entries_after (count_of s) s.workers s.worker
after-same s t place =
    let total : t.cut.total ≡ s.cut.total = ap (λ (p : Place). p.total) place in
    let size : t.cut.size ≡ s.cut.size = ap (λ (p : Place). p.size) place in
    let workers : t.workers ≡ s.workers = ap (λ (p : Place). p.workers) place in
    let worker : t.worker ≡ s.worker = ap (λ (p : Place). p.worker) place in
    rw (total, size, workers, worker) refl

-- a try at the other deques leaves the seat where it stands
standing-theft : (number : Option ℕ) (t u : Seat) → IsStanding t → Steals number t.thefts.items u.thefts.items → u ≡ record t { thefts = u.thefts } → IsStanding u
standing-theft number t u h b rest =
    let cut : u.cut ≡ t.cut = ap (λ (x : Seat). x.cut) rest in
    let workers : u.workers ≡ t.workers = ap (λ (x : Seat). x.workers) rest in
    let worker : u.worker ≡ t.worker = ap (λ (x : Seat). x.worker) rest in
    let own : own_view u ≡ own_view t = ap own_view rest in
    record {
      worker = (let a = h.worker in omega arith);
      few = (let a = h.few in omega arith);
      front = ap (λ (x : Seat). worker_flavor x.own) rest ∙ h.front;
      parts = (let a = h.parts in let c = ap (λ (v : View). v.parts) own in omega arith);
      own = ap (λ (v : View). v.pushed) own ∙ h.own ∙ rw (cut, workers, worker) refl;
      others = b.pushed ∙ h.others ∙ rw (cut, workers, worker) refl;
      apart = subst GotApart (sym own) h.apart;
      marked = marked-theft t u h.marked own (ap (λ (x : Seat). x.over) rest) (ap (λ (x : Seat). x.ended) rest);
    } where
      marked-theft : (t u : Seat) → IsMarked t → own_view u ≡ own_view t → u.over ≡ t.over → u.ended ≡ t.ended → IsMarked u
      marked-theft t u m own over ended =
          let marks : ends (own_view u).got ≡ ends (own_view t).got = ap (λ (v : View). ends v.got) own in
          record {
            going = λ h. marks ∙ m.going (sym over ∙ h);
            over = λ h. (let g = m.over (sym over ∙ h) in omega arith);
            ended = λ h. over ∙ m.ended (sym ended ∙ h);
          }

-- then it stole the block of a number, or none
pub takes-then : (number : Option ℕ) (s t u : Seat) → Takes None s t → Steals number t.thefts.items u.thefts.items → u ≡ record t { thefts = u.thefts } → Takes number s u
unfolding seat_left
takes-then number s t u a b rest = record {
  stands = standing-theft number t u a.stands b rest;
  place = ap place_of_seat rest ∙ (rw b.deques refl ∙ a.place);
  noted = ap (λ (x : Seat). x.noted) rest ∙ a.noted;
  ended = ap (λ (x : Seat). x.ended) rest ∙ a.ended;
  over = over-theft number;
  below = below-theft number b.known;
  own = own-theft number;
  got = λ weight none. omega (arith, a.got weight none, b.got weight none, ap (λ (x : Seat). sum_by weight (own_view x).got) rest);
  left = omega (arith, a.left, b.left, ap (λ (x : Seat). blocks_left (own_view x)) rest);
} where
  over-theft : (r : Option ℕ) → IfNone r (u.over ≡ true)
  over-theft None = ap (λ (x : Seat). x.over) rest ∙ a.over
  over-theft (Some n) = tt

  own-theft : (r : Option ℕ) → IfSome r (λ n. Contains (numbers_of (count_of s) s.workers s.worker) n ⊎ (u.over ≡ true))
  own-theft None = tt
  own-theft (Some n) = inr (ap (λ (x : Seat). x.over) rest ∙ a.over)

  below-theft : (r : Option ℕ) → IfSome r (λ n. Any (λ pushed. Contains pushed (Work n)) (map pushed_into t.thefts.items)) → IfSome r (λ n. n < count_of s)
  below-theft None known = tt
  below-theft (Some n) known = below_after (count_of s) s.workers s.worker n (subst (Any (λ (pushed : List Entry). Contains pushed (Work n))) (a.stands.others ∙ after-same s t a.place) known)

-- a number below the count names a dealt block
pub contains-dealt : (total size number : ℕ) → number < block_count total size → Contains (dealt total size) (block_at total size number)
unfolding dealt
contains-dealt total size number lt =
    let f = block_at total size in
    let count = block_count total size in
    (number, omega (arith, length-map-range_with_len f 0 count), get_or-map-range_with_len f 0 count number number (f number) lt (omega arith))

-- a worker's number names a block of its own
pub contains-own : (total size workers worker number : ℕ) → Contains (numbers_of (block_count total size) workers worker) number → Contains (blocks_for total size workers worker) (block_at total size number)
contains-own total size workers worker number (k, lt, is) =
    let f = block_at total size in
    let numbers = numbers_of (block_count total size) workers worker in
    (k, omega (arith, length-map numbers f), get_or-map f numbers k number (f number) lt ∙ ap f is)

-- the sum over the blocks that a seat noted, with one more
noted_more : (weight : ℕ × ℕ → ℕ) (xs ys : List Block) (block : Block) → ys ≡ xs ++ block ∷ [] → sum_by weight (extents_of ys) ≡ sum_by weight (extents_of xs) + weight (extent_of block)
noted_more weight xs ys block is = ap (λ (l : List Block). sum_by weight (extents_of l)) is ∙ ap (sum_by weight) (map-append extent_of xs (block ∷ [])) ∙ sum_by_push weight (extents_of xs) (extent_of block)

-- the block that the seat got is noted
pub seated-noted : (n : ℕ) (s t : Seat) (blocks : Vec Block Global) (block : Block) → IsSeated s → Takes (Some n) s t → extent_of block ≡ block_at t.cut.total t.cut.size n
    → blocks.items ≡ t.noted.items ++ block ∷ [] → vec_len blocks ≡ vec_len t.noted + 1 → vec_capacity blocks ≡ vec_capacity t.noted → IsSeated (record t { noted = blocks })
unfolding seat_left
seated-noted n s t blocks block h k is more longer capacity =
    let total : t.cut.total ≡ s.cut.total = ap (λ (p : Place). p.total) k.place in
    let size : t.cut.size ≡ s.cut.size = ap (λ (p : Place). p.size) k.place in
    let same : vec_len t.noted ≡ vec_len s.noted = ap vec_len k.noted in
    let room : vec_capacity t.noted ≡ vec_capacity s.noted = ap vec_capacity k.noted in
    record {
      stands = record {
        worker = k.stands.worker;
        few = k.stands.few;
        front = k.stands.front;
        parts = k.stands.parts;
        own = k.stands.own;
        others = k.stands.others;
        apart = k.stands.apart;
        marked = record { going = k.stands.marked.going; over = k.stands.marked.over; ended = k.stands.marked.ended };
      };
      noted = λ weight. (
          let w : Entry → ℕ = weight_of weight s.cut.total s.cut.size in
          let got : seat_got (weight_of weight t.cut.total t.cut.size) t ≡ seat_got w t = rw (total, size) refl in
          let here : weight (extent_of block) ≡ w (Work n) = ap weight is ∙ rw (total, size) refl in
          noted_more weight t.noted.items blocks.items block more
          ∙ ap (λ k. k + weight (extent_of block)) (ap (λ (v : Vec Block Global). sum_by weight (extents_of v.items)) k.noted ∙ h.noted weight)
          ∙ ap (λ k. seat_got w s + k) here ∙ sym (k.got w refl) ∙ sym got);
      room = (let l = k.left in let r = h.room in omega arith);
    }

-- nothing is noted where the seat got none, and then it has ended
pub seated-ended : (s t : Seat) → IsSeated s → Takes None s t → IsSeated (record t { ended = true })
unfolding seat_left
seated-ended s t h k =
    let total : t.cut.total ≡ s.cut.total = ap (λ (p : Place). p.total) k.place in
    let size : t.cut.size ≡ s.cut.size = ap (λ (p : Place). p.size) k.place in
    let same : vec_len t.noted ≡ vec_len s.noted = ap vec_len k.noted in
    let room : vec_capacity t.noted ≡ vec_capacity s.noted = ap vec_capacity k.noted in
    record {
      stands = record {
        worker = k.stands.worker;
        few = k.stands.few;
        front = k.stands.front;
        parts = k.stands.parts;
        own = k.stands.own;
        others = k.stands.others;
        apart = k.stands.apart;
        marked = record { going = k.stands.marked.going; over = k.stands.marked.over; ended = λ _. k.over };
      };
      noted = λ weight. (
          let w : Entry → ℕ = weight_of weight s.cut.total s.cut.size in
          let got : seat_got (weight_of weight t.cut.total t.cut.size) t ≡ seat_got w t = rw (total, size) refl in
          let none : seat_got w t ≡ seat_got w s = (let g = k.got w refl in omega arith) in
          ap (λ (v : Vec Block Global). sum_by weight (extents_of v.items)) k.noted ∙ h.noted weight ∙ sym none ∙ sym got);
      room = (let l = k.left in let r = h.room in omega arith);
    }
