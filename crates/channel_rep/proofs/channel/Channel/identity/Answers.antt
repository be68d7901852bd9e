use Rattle.channel_rep.proofs.Grids.{grid_identity}
use Rattle.channel_rep.proofs.channel.Channel.identity.Goals as goal

pub invariant_of-result : goal.invariant_of-result
invariant_of-result c = grid_identity c.args.n c.in_ok-cells.cells.items c.requires.some c.requires.few c.in_ok-cells.ensures.whole c.in_ok-cells.ensures.identity
