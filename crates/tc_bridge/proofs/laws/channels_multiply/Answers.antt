use Rattle.tc_bridge.proofs.Channels.{channel_product}
use Rattle.tc_bridge.proofs.laws.channels_multiply.Goals as goal

pub returns : goal.returns
returns c = channel_product
