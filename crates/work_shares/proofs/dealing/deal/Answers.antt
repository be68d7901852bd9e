use Rattle.std.proofs.Common.{rules, ◌<◌, ◌≤◌, ℕ, length}
use Rattle.work_shares.specs.Cuts.{block_count}
use Rattle.work_shares.specs.Owners.{AreFilled}
use Rattle.work_shares.proofs.Ready.{owners_ready, ways_given, ways_lead}
use Rattle.work_shares.proofs.dealing.deal.Goals as goal

pub shares_of-requires-clause-owners : goal.shares_of-requires-clause-owners
shares_of-requires-clause-owners g c k o e =
    let workers : ℕ = length c.args.loads.items in
    let few : workers ≤ 8 = search rules in
    let filled : AreFilled (block_count c.args.total c.args.block) workers workers c.in_ok-owners.owners.items = search rules in
    owners_ready (block_count c.args.total c.args.block) workers c.in_ok-owners.owners.items c.lend_all.new.owners.items c.in_ok-thefts.thefts.items filled c.in_ok-thefts.ensures few k o e

pub shares_of-requires-clause-thefts : goal.shares_of-requires-clause-thefts
shares_of-requires-clause-thefts g c k own e =
    let workers : ℕ = length c.args.loads.items in
    let some : 0 < workers = search rules in
    let filled : AreFilled (block_count c.args.total c.args.block) workers workers c.in_ok-owners.owners.items = search rules in
    ways_given (block_count c.args.total c.args.block) workers c.in_ok-owners.owners.items c.lend_all.new.owners.items c.in_ok-thefts.thefts.items filled c.in_ok-thefts.ensures some k own e

pub shares_of-requires-clause-ways : goal.shares_of-requires-clause-ways
shares_of-requires-clause-ways g c =
    let workers : ℕ = length c.args.loads.items in
    let filled : AreFilled (block_count c.args.total c.args.block) workers workers c.in_ok-owners.owners.items = search rules in
    ways_lead (block_count c.args.total c.args.block) workers c.in_ok-owners.owners.items c.lend_all.new.owners.items c.in_ok-thefts.thefts.items filled c.in_ok-thefts.ensures
