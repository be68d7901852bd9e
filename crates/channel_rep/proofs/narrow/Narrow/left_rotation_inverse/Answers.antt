use Rattle.channel_rep.specs.Cells.{scaled}
use Rattle.channel_rep.specs.Tables.{by_inverse_rotation}
use Rattle.channel_rep.proofs.Built.{built_more}
use Rattle.channel_rep.proofs.narrow.Narrow.left_rotation_inverse.Goals as goal

pub returns-clause-built : goal.returns-clause-built
returns-clause-built c = λ steps. built_more _ steps (by_inverse_rotation c.args.p.code) (scaled c.args.self.now) (scaled c.rotate.new.self) c.rotate.ensures.exponent c.rotate.ensures.table
