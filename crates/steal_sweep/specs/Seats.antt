-- The best word and its seats.
use Rattle.std.specs.Prelude.{◌≡◌, List, [], All, sum_by}
use Rattle.atomic_table.specs.Seated.{TableId}
use Rattle.steal_sweep.specs.declared.rule.Known.{Known}
use Rattle.steal_sweep.specs.declared.best.Best.{Best}
use Rattle.steal_sweep.specs.declared.best.BestSeat.{BestSeat}

-- the table that the best word lies in
abbrev pub table_id_of : Best → TableId
table_id_of b = b.table.shared.table_id

-- the table of a seat
abbrev pub seat_table : BestSeat → TableId
seat_table s = s.seat.table_id

-- what a seat knows
abbrev pub known_by : BestSeat → Known
known_by s = s.seat.me.0

-- the seat is one of this word
abbrev pub IsSeatOf : Best → BestSeat → Type 0
IsSeatOf b s = seat_table s ≡ table_id_of b

-- these are all the seats of the word, and none has put a position
pub record AreNewSeatsOf (b : Best) (seats : List BestSeat) : Type 0 where
  pub seat : All (IsSeatOf b) seats
  pub new : All (λ s. (known_by s).put ≡ []) seats
  pub whole : sum_by (λ s. (known_by s).parts) seats ≡ 8
