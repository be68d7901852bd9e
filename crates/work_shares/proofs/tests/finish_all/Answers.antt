use Rattle.std.proofs.Common.{ℕ, ap, ◌∙◌}
use Rattle.std.proofs.Math.Seq.{map-set_same}
use Rattle.work_shares.specs.Shares.{place_of}
use Rattle.work_shares.proofs.tests.finish_all.Goals as goal

pub loop-i-preserved : goal.loop-i-preserved
loop-i-preserved c =
    let i = c.loop-i.invariant in
    (map-set_same (place_of {L = ℕ}) c.loop-i.shares.items c.loop-i.i c.finish.new.share c.index_mut.result.now (c.finish.ensures ∙ ap place_of c.index_mut.ensures.value) ∙ i.0, i.1)
