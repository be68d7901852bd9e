use Rattle.std.proofs.Common.{ap, arith}
use Rattle.work_shares.specs.Places.{Place}
use Rattle.work_shares.proofs.Kept.{place-size}
use Rattle.steal_sweep.proofs.Dealt.{block_within}
use Rattle.steal_sweep.proofs.each.work.Goals as goal

pub do_positions-requires-clause-own : goal.do_positions-requires-clause-own
do_positions-requires-clause-own g c p low high =
    let within = block_within _ _ _ _ (place-size c.loop-block.share) c.in-Some.ensures.dealt in
    let same = ap (λ (q : Place). q.total) c.loop-block.invariant.place in
    c.requires.own p (omega arith)
