use Rattle.std.proofs.Common.{rules, ◌≡◌, length}
use Rattle.std.proofs.lemmas.List.{nil_from_length}
use Rattle.work_shares.proofs.AllBack.{all_step, all_ends}
use Rattle.work_shares.proofs.returns.take_back_all.Goals as goal

pub loop-last-preserved : goal.loop-last-preserved
loop-last-preserved c =
    let long : c.len.result ≡ length c.pop.new.self.items = search rules in
    let e = c.take_back_from.ensures in
    all_step c.len.result _ _ _ _ _ c.in-Some.last _ c.in-Some.ensures.items long e.live e.marks e.took c.loop-last.invariant

pub returns-clause-took : goal.returns-clause-took
returns-clause-took c = all_ends _ c.loop-last.thefts.items _ _ (nil_from_length c.loop-last.thefts.items (search rules)) c.loop-last.invariant
