use Rattle.work_shares.proofs.Moves.{takes-own, takes-then}
use Rattle.work_shares.proofs.seat.Seat.take.Goals as goal

pub returns-in-Some : goal.returns-in-Some
returns-in-Some c = takes-own _ _ _ c.requires c.in-Some.ensures

pub returns-in-None : goal.returns-in-None
returns-in-None c = takes-then _ _ _ _ (takes-own _ _ _ c.requires c.in-None.ensures) c.steal.ensures.steals c.steal.ensures.rest
