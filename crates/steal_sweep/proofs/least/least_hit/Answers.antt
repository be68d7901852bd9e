use Rattle.std.proofs.Common.{rules, ℕ, ◌<◌, length, map, ◌∙◌}
use Rattle.std.proofs.lemmas.List.Elements.{All-map, All-same}
use Rattle.work_shares.specs.declared.share.Share.{Share}
use Rattle.work_shares.specs.Shares.{load_of, blocks_of}
use Rattle.steal_sweep.specs.declared.search.Seeker.{Seeker}
use Rattle.steal_sweep.specs.Tests.{fit_for}
use Rattle.steal_sweep.specs.Seats.{IsSeatOf, known_by}
use Rattle.work_shares.proofs.Kept.{AreDeal-size}
use Rattle.steal_sweep.proofs.Found.{stands_for_none, carried_by, parts_whole, no_hit_below, put_hits, word_is_least, none_below}
use Rattle.steal_sweep.proofs.least.least_hit.Goals as goal

pub for_each-requires-clause-deal : goal.for_each-requires-clause-deal
for_each-requires-clause-deal g c κs within = (c.args.sweep.now.total, (c.requires.deal.0, c.requires.deal.1, λ p lt. (lt, c.requires.needs)))

pub for_each-requires-clause-stands : goal.for_each-requires-clause-stands
for_each-requires-clause-stands g c κs within =
    stands_for_none (fit_for g.F.Test.fits g.L.Local.fit c.args.sweep.now.test) c.args.best (g.F.Test.truth c.args.sweep.now.test) c.args.sweep.now.total (map load_of c.args.shares.items) c.requires.fit c.requires.seats

pub settle-requires : goal.settle-requires
settle-requires g c = (c.args.sweep.now.total, (c.requires.deal.0, c.for_each.ensures.deal c.args.sweep.now.total c.requires.deal.0 c.requires.deal.1))

pub join_seats-seat-requires-clause-seats : goal.join_seats-seat-requires-clause-seats
join_seats-seat-requires-clause-seats g c =
    let P = λ (s : Seeker g.row.L.Denot). IsSeatOf c.args.best s.seat in
    let carried = carried_by c.settle.result c.loads.result.items c.for_each.new.shares.items c.loads.ensures c.settle.ensures.loads in
    All-same P c.loads.result.items (map load_of c.for_each.new.shares.items) carried (All-map P load_of c.for_each.new.shares.items (λ k d lt. (c.for_each.ensures.stands k d lt).1))

pub close-word-requires-clause-whole : goal.close-word-requires-clause-whole
close-word-requires-clause-whole g c =
    c.join_seats-seat.ensures.parts ∙ parts_whole c.args.best c.args.shares.items c.for_each.new.shares.items c.loads.result.items c.requires.seats (carried_by c.settle.result c.loads.result.items c.for_each.new.shares.items c.loads.ensures c.settle.ensures.loads) c.for_each.ensures.name

pub returns-then-word-sweep-clause-some : goal.returns-then-word-sweep-clause-some
returns-then-word-sweep-clause-some g c =
    let truth = g.F.Test.truth c.args.sweep.now.test in
    let total = c.args.sweep.now.total in
    let shares = c.for_each.new.shares.items in
    let carried = carried_by c.settle.result c.loads.result.items c.for_each.new.shares.items c.loads.ensures c.settle.ensures.loads in
    let covered = λ (k : ℕ) (d : Share (Seeker g.row.L.Denot)) (lt : k < length shares). (c.for_each.ensures.stands k d lt).2 in
    let once = c.settle.ensures.once total c.requires.deal.0 (c.for_each.ensures.deal total c.requires.deal.0 c.requires.deal.1) c.for_each.ensures.ended in
    word_is_least truth total c.close-word.result (known_by c.join_seats-seat.result).put c.if-word-sweep.true (search rules) c.close-word.ensures.put
    (c.join_seats-seat.ensures.hits truth total (put_hits truth total shares c.loads.result.items carried covered))
    (no_hit_below truth total c.requires.deal.0 c.close-word.result (known_by c.join_seats-seat.result).least shares c.loads.result.items (blocks_of c.settle.result) (AreDeal-size total c.requires.deal.0 c.args.shares.items c.requires.deal.1) carried c.settle.ensures.blocks once covered c.close-word.ensures.least c.join_seats-seat.ensures.least)

pub returns-else-word-sweep-clause-none : goal.returns-else-word-sweep-clause-none
returns-else-word-sweep-clause-none g c =
    let truth = g.F.Test.truth c.args.sweep.now.test in
    let total = c.args.sweep.now.total in
    let shares = c.for_each.new.shares.items in
    let carried = carried_by c.settle.result c.loads.result.items c.for_each.new.shares.items c.loads.ensures c.settle.ensures.loads in
    let covered = λ (k : ℕ) (d : Share (Seeker g.row.L.Denot)) (lt : k < length shares). (c.for_each.ensures.stands k d lt).2 in
    let once = c.settle.ensures.once total c.requires.deal.0 (c.for_each.ensures.deal total c.requires.deal.0 c.requires.deal.1) c.for_each.ensures.ended in
    none_below truth total c.close-word.result c.if-word-sweep.false
    (no_hit_below truth total c.requires.deal.0 c.close-word.result (known_by c.join_seats-seat.result).least shares c.loads.result.items (blocks_of c.settle.result) (AreDeal-size total c.requires.deal.0 c.args.shares.items c.requires.deal.1) carried c.settle.ensures.blocks once covered c.close-word.ensures.least c.join_seats-seat.ensures.least)
