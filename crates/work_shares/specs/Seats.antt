-- What holds of a seat.
use Rattle.std.specs.Prelude.{◌≡◌, ℕ, ◌+◌, ◌<◌, ◌≤◌, ◌⊎◌, map, Option, IfSome, IfNone, Contains, true, false, sum_by, vec_len, vec_capacity}
use Rattle.crossbeam_deque.specs.Handles.{worker_view, worker_deque, worker_flavor}
use Rattle.work_shares.specs.declared.entry.View.{View}
use Rattle.work_shares.specs.declared.entry.Entry.{Entry}
use Rattle.work_shares.specs.declared.entry.Entry.TheVariants.{End}
use Rattle.work_shares.specs.declared.seat.Seat.{Seat}
use Rattle.work_shares.specs.Cuts.{block_count, numbers_of}
use Rattle.work_shares.specs.Blocks.{extents_of}
use Rattle.work_shares.specs.Entries.{ends, blocks_left, weight_of, entries_of}
use Rattle.work_shares.specs.Rule.{GotApart}
use Rattle.work_shares.specs.Gives.{Gives, weighed, given}
use Rattle.work_shares.specs.Thefts.{deque_into, pushed_into, got_by, left_into, entries_after}
use Rattle.work_shares.specs.Places.{Place}
use Rattle.work_shares.specs.Owners.{HasMark}

-- what a seat knows of its own deque
abbrev pub own_view : Seat → View
own_view s = worker_view s.own

abbrev pub place_of_seat : Seat → Place
place_of_seat s = record {
  total = s.cut.total;
  size = s.cut.size;
  workers = s.workers;
  worker = s.worker;
  deque = worker_deque s.own;
  given = (own_view s).pushed;
  others = map deque_into s.thefts.items;
}

-- the seat has taken an end mark from its own deque, behind which no block stands
abbrev pub HasOwnMark : Seat → Type 0
HasOwnMark s = HasMark s.own

-- how many blocks the deal has
abbrev pub count_of : Seat → ℕ
count_of s = block_count s.cut.total s.cut.size

-- how many blocks the seat may still be given
unfoldable pub seat_left : Seat → ℕ
seat_left s = blocks_left (own_view s) + sum_by left_into s.thefts.items

-- what a seat got, by a weight
abbrev pub seat_got : (Entry → ℕ) → Seat → ℕ
seat_got weight s = sum_by weight (own_view s).got + sum_by (got_by weight) s.thefts.items

-- the marks of a seat: it is over where it got an end mark of its own, and it has not ended before
pub record IsMarked (s : Seat) : Type 0 where
  pub going : s.over ≡ false → ends (own_view s).got ≡ 0
  pub over : s.over ≡ true → HasOwnMark s
  pub ended : s.ended ≡ true → s.over ≡ true

-- a try to take from the seat's own deque gave the number of a block, or none, and then the seat is over
pub record TakesOwn (number : Option ℕ) (old new : Seat) : Type 0 where
  pub gives : Gives number (own_view old) (own_view new)
  pub deque : worker_deque new.own ≡ worker_deque old.own
  pub front : worker_flavor new.own ≡ worker_flavor old.own
  pub rest : new ≡ record old { own = new.own; over = new.over }
  pub marked : IsMarked new
  pub over : IfNone number (new.over ≡ true)

-- the seat stands in a deal, and its deques were given what is theirs
pub record IsStanding (s : Seat) : Type 0 where
  pub worker : s.worker < s.workers
  pub few : s.workers ≤ 8
  pub front : worker_flavor s.own ≡ 0
  pub parts : (own_view s).parts + s.workers ≡ 9
  pub own : (own_view s).pushed ≡ entries_of (count_of s) s.workers s.worker
  pub others : map pushed_into s.thefts.items ≡ entries_after (count_of s) s.workers s.worker
  pub apart : GotApart (own_view s)
  pub marked : IsMarked s

-- besides, what it got is what it noted, and there is room to note what it may still be given
pub record IsSeated (s : Seat) : Type 0 where
  pub stands : IsStanding s
  pub noted : (weight : ℕ × ℕ → ℕ) → sum_by weight (extents_of s.noted.items) ≡ seat_got (weight_of weight s.cut.total s.cut.size) s
  pub room : seat_left s + vec_len s.noted ≤ vec_capacity s.noted

-- the seat got the block of the number, which is not noted yet, or none and is over
pub record Takes (number : Option ℕ) (old new : Seat) : Type 0 where
  pub stands : IsStanding new
  pub place : place_of_seat new ≡ place_of_seat old
  pub noted : new.noted ≡ old.noted
  pub ended : new.ended ≡ old.ended
  pub over : IfNone number (new.over ≡ true)
  pub below : IfSome number (λ n. n < count_of old)
  pub own : IfSome number (λ n. Contains (numbers_of (count_of old) old.workers old.worker) n ⊎ (new.over ≡ true))
  pub got : (weight : Entry → ℕ) → weight End ≡ 0 → seat_got weight new ≡ seat_got weight old + weighed weight number
  pub left : seat_left new + given number ≡ seat_left old
