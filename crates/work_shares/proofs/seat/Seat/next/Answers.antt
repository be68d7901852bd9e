use Rattle.std.proofs.Common.{ap, sym, ◌∙◌, subst, Contains, inl, inr, ⊎_elim, arith}
use Rattle.work_shares.specs.Cuts.{block_at, dealt, blocks_for}
use Rattle.work_shares.specs.Places.{Place}
use Rattle.work_shares.specs.Seats.{seat_left}
use Rattle.work_shares.proofs.Moves.{seated-noted, seated-ended, contains-dealt, contains-own}
use Rattle.work_shares.proofs.seat.Seat.next.Goals as goal

pub returns-in-Some-clause-seated : goal.returns-in-Some-clause-seated
returns-in-Some-clause-seated c =
    let e = c.push_reserved.ensures in
    seated-noted c.in-Some.number c.args.self.now c.take.new.self c.push_reserved.new.self c.block-block.result c.requires c.in-Some.ensures c.block-block.ensures e.items e.len e.capacity

pub returns-in-Some-clause-dealt : goal.returns-in-Some-clause-dealt
returns-in-Some-clause-dealt c =
    let s = c.args.self.now in
    let place = c.in-Some.ensures.place in
    let is = c.block-block.ensures ∙ ap (λ (p : Place). block_at p.total p.size c.in-Some.number) place in
    subst (Contains (dealt s.cut.total s.cut.size)) (sym is) (contains-dealt s.cut.total s.cut.size c.in-Some.number c.in-Some.ensures.below)

pub returns-in-Some-clause-fewer : goal.returns-in-Some-clause-fewer
unfolding seat_left
returns-in-Some-clause-fewer c = let l = c.in-Some.ensures.left in omega arith

pub returns-in-None-clause-left : goal.returns-in-None-clause-left
unfolding seat_left
returns-in-None-clause-left c = let l = c.in-None.ensures.left in omega arith

pub returns-in-None-clause-seated : goal.returns-in-None-clause-seated
returns-in-None-clause-seated c = seated-ended c.args.self.now c.take.new.self c.requires c.in-None.ensures

pub returns-in-None-clause-own_end : goal.returns-in-None-clause-own_end
returns-in-None-clause-own_end c = let took = c.in-None.ensures in took.stands.marked.over took.over

pub returns-in-Some-clause-own_first : goal.returns-in-Some-clause-own_first
returns-in-Some-clause-own_first c =
    let s = c.args.self.now in
    let is = c.block-block.ensures ∙ ap (λ (p : Place). block_at p.total p.size c.in-Some.number) c.in-Some.ensures.place in
    ⊎_elim (λ own. inl (subst (Contains (blocks_for s.cut.total s.cut.size s.workers s.worker)) (sym is) (contains-own s.cut.total s.cut.size s.workers s.worker c.in-Some.number own)))
    (λ over. inr (c.in-Some.ensures.stands.marked.over over)) c.in-Some.ensures.own
