use Rattle.std.specs.Prelude.{◌+ℤ◌}
use Rattle.channel_rep.proofs.Pairs.{lanes_ask, lanes_give}
use Rattle.channel_rep.proofs.lanes.sums.Goals as goal

pub overflow_add-result : goal.overflow_add-result
overflow_add-result c = lanes_ask ◌+ℤ◌ c.args.x c.args.y c.requires.left c.requires.right c.requires.more

pub returns : goal.returns
returns c = lanes_give ◌+ℤ◌ c.args.x c.args.y c.requires.left c.requires.right c.requires.more
