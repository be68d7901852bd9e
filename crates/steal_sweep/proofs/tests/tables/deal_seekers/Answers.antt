use Rattle.std.proofs.Common.{map, refl, sym, ap, ◌∙◌, subst}
use Rattle.steal_sweep.specs.declared.best.BestSeat.{BestSeat}
use Rattle.steal_sweep.specs.declared.search.Seeker.{Seeker}
use Rattle.steal_sweep.specs.declared.tests.tables.Calls.{Calls}
use Rattle.steal_sweep.specs.Seats.{AreNewSeatsOf}
use Rattle.steal_sweep.proofs.Lists.{map_back}
use Rattle.steal_sweep.proofs.tests.tables.deal_seekers.Goals as goal

pub returns-clause-seats : goal.returns-clause-seats
returns-clause-seats c =
    let seat = λ (s : Seeker Calls). s.seat in
    let seekers = λ (s : BestSeat). let x : Seeker Calls = record { seat = s; local = record { 0 = 0 } } in x in
    let seats = c.in_ok-best.seats.items in
    subst (AreNewSeatsOf c.in_ok-best.best) (sym (ap (map seat) (c.in_ok-shares.ensures.loads ∙ c.in_ok-seekers.ensures) ∙ map_back seat seekers seats (λ s. refl))) c.in_ok-best.ensures.seats
