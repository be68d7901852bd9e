use Rattle.std.specs.Prelude.{◌-ℤ◌}
use Rattle.channel_rep.proofs.Pairs.{lanes_ask, lanes_give}
use Rattle.channel_rep.proofs.lanes.differences.Goals as goal

pub overflow_sub-result : goal.overflow_sub-result
overflow_sub-result c = lanes_ask ◌-ℤ◌ c.args.x c.args.y c.requires.left c.requires.right c.requires.less

pub returns : goal.returns
returns c = lanes_give ◌-ℤ◌ c.args.x c.args.y c.requires.left c.requires.right c.requires.less
