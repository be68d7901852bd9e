use Rattle.std.proofs.Common.{false}
use Rattle.tc_bridge.proofs.Rotations.{rotation_channel}
use Rattle.tc_bridge.proofs.laws.rotations_have_channels.Goals as goal

pub returns : goal.returns
returns c = λ n p l. rotation_channel n false p l
