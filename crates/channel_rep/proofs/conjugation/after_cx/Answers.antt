use Rattle.std.proofs.Common.{arith}
use Rattle.channel_rep.proofs.Bytes.{cx_byte_is}
use Rattle.channel_rep.proofs.conjugation.after_cx.Goals as goal

pub returns : goal.returns
returns c = cx_byte_is c.args.control c.args.target c.args.image c.requires.control c.requires.target c.requires.apart (omega arith)
