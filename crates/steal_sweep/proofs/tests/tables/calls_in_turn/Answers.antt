use Rattle.std.proofs.Common.{◌≡◌, [], Some, refl}
use Rattle.std.proofs.lemmas.List.Elements.{All-pop}
use Rattle.steal_sweep.specs.Seats.{IsSeatOf, known_by}
use Rattle.steal_sweep.proofs.Found.{covers_none}
use Rattle.steal_sweep.proofs.tests.tables.calls_in_turn.Goals as goal

pub turn-requires-3-clause-seat : goal.turn-requires-3-clause-seat
turn-requires-3-clause-seat c =
    let are = c.in_ok-best.ensures.seats in
    let seat = (All-pop (IsSeatOf c.in_ok-best.best) _ _ (Some c.in-Some.seat_b) c.in-Some.ensures.items are.seat).1 in
    let new = (All-pop (λ s. (known_by s).put ≡ []) _ _ (Some c.in-Some.seat_b) c.in-Some.ensures.items are.new).1 in
    (c.turn.ensures.stands [] (refl, seat, covers_none _ _ _ new)).1
