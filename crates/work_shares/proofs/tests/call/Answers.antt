use Rattle.std.proofs.Common.{ℕ, ap, ◌∙◌}
use Rattle.std.proofs.Math.Seq.{map-set_same}
use Rattle.work_shares.specs.Shares.{place_of}
use Rattle.work_shares.proofs.tests.call.Goals as goal

pub returns : goal.returns
returns c = map-set_same (place_of {L = ℕ}) c.args.shares.now.items c.args.at c.next.new.self c.index_mut.result.now (c.next.ensures.place ∙ ap place_of c.index_mut.ensures.value)
