use Rattle.work_shares.proofs.Cover.{dealt-cover, dealt-some, dealt-within, dealt-rising}
use Rattle.work_shares.proofs.law.deals_cover.Goals as goal

pub returns-clause-cover : goal.returns-clause-cover
returns-clause-cover c = dealt-cover c.args.total c.args.block c.requires

pub returns-clause-some : goal.returns-clause-some
returns-clause-some c = dealt-some c.args.total c.args.block c.requires

pub returns-clause-within : goal.returns-clause-within
returns-clause-within c = dealt-within c.args.total c.args.block c.requires

pub returns-clause-rising : goal.returns-clause-rising
returns-clause-rising c = dealt-rising c.args.total c.args.block c.requires
