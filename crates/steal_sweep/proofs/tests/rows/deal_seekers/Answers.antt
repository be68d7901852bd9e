use Rattle.std.proofs.Common.{◌≡◌, map, refl, sym, ap, ◌∙◌, subst, slice_index_or}
use Rattle.std.proofs.lemmas.List.Elements.{All-map, All-same}
use Rattle.work_shares.specs.Shares.{load_of}
use Rattle.steal_sweep.specs.declared.best.BestSeat.{BestSeat}
use Rattle.steal_sweep.specs.declared.search.Seeker.{Seeker}
use Rattle.steal_sweep.specs.declared.tests.rows.Kept.{Kept}
use Rattle.steal_sweep.specs.Seats.{AreNewSeatsOf}
use Rattle.steal_sweep.proofs.Lists.{map_back}
use Rattle.steal_sweep.proofs.tests.rows.deal_seekers.Goals as goal

pub returns-clause-fits : goal.returns-clause-fits
returns-clause-fits c =
    let numbers = c.args.numbers.now in
    let first = slice_index_or numbers 0 0 in
    let fits : Seeker Kept → Type 0 = λ s. slice_index_or numbers s.local.row 0 ≡ s.local.number in
    let seekers = λ (s : BestSeat). let x : Seeker Kept = record { seat = s; local = record { row = 0; number = first; reads = 1 } } in x in
    let seats = c.in_ok-best.seats.items in
    All-same fits (map load_of c.in_ok-shares.shares.items) (map seekers seats) (c.in_ok-shares.ensures.loads ∙ c.in_ok-seekers.ensures) (All-map fits seekers seats (λ k d lt. refl))

pub returns-clause-seats : goal.returns-clause-seats
returns-clause-seats c =
    let first = slice_index_or c.args.numbers.now 0 0 in
    let seat = λ (s : Seeker Kept). s.seat in
    let seekers = λ (s : BestSeat). let x : Seeker Kept = record { seat = s; local = record { row = 0; number = first; reads = 1 } } in x in
    let seats = c.in_ok-best.seats.items in
    subst (AreNewSeatsOf c.in_ok-best.best) (sym (ap (map seat) (c.in_ok-shares.ensures.loads ∙ c.in_ok-seekers.ensures) ∙ map_back seat seekers seats (λ s. refl))) c.in_ok-best.ensures.seats
