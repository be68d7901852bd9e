use Rattle.std.proofs.Common.{rules, ◌+◌, ◌<◌, ◌≤◌, List, Vec, Global, length, sym, ◌∙◌, subst}
use Rattle.work_shares.specs.declared.theft.Theft.{Theft}
use Rattle.work_shares.specs.Lending.{LendsAll}
use Rattle.work_shares.proofs.LendingAll.{lends_all_start, lends_all_room, lends_all_step}
use Rattle.work_shares.proofs.lending.lend_all.Goals as goal

pub loop-worker-init : goal.loop-worker-init
loop-worker-init c =
    let owners = c.args.owners.now.items in
    (subst (λ (l : List (Vec Theft Global)). LendsAll 0 l owners owners) (sym c.in_ok-all.ensures.items) (lends_all_start owners c.requires.untaken), search rules)

pub lend_to-requires-clause-parts : goal.lend_to-requires-clause-parts
lend_to-requires-clause-parts c =
    let few : length c.args.owners.now.items ≤ 8 = search rules in
    let below : c.loop-worker.worker < length c.args.owners.now.items = search rules in
    lends_all_room c.loop-worker.worker c.loop-worker.all.items c.args.owners.now.items c.loop-worker.owners.items c.loop-worker.invariant.0 below few c.requires.whole

pub loop-worker-preserved : goal.loop-worker-preserved
loop-worker-preserved c =
    let i = c.loop-worker.invariant in
    let own = c.in_ok-thefts.thefts in
    let step = lends_all_step c.loop-worker.worker c.loop-worker.all.items own c.args.owners.now.items c.loop-worker.owners.items c.lend_to.new.owners.items i.0 c.in_ok-thefts.ensures in (
      subst (λ (l : List (Vec Theft Global)). LendsAll (c.loop-worker.worker + 1) l c.args.owners.now.items c.lend_to.new.owners.items) (sym c.push_reserved.ensures.items) step,
      c.push_reserved.ensures.capacity ∙ i.1,
    )
