use Rattle.std.proofs.Common.{arith}
use Rattle.channel_rep.proofs.Bytes.{sdg_byte_is}
use Rattle.channel_rep.proofs.conjugation.after_sdg.Goals as goal

pub returns : goal.returns
returns c = sdg_byte_is c.args.q c.args.image c.requires (omega arith)
