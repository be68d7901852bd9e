use Rattle.std.proofs.Common.{◌≡◌, ◌+◌, ◌-◌, arith}
use Rattle.channel_rep.specs.Cells.{cell_of}
use Rattle.channel_rep.specs.Parts.{cells_of}
use Rattle.channel_rep.proofs.OnePower.{not_yet, once_more}
use Rattle.channel_rep.proofs.parts.divide_parts.Goals as goal

pub loop-left-init : goal.loop-left-init
loop-left-init c = record { low = omega arith; cells = λ k l. not_yet c.args.exponent (cell_of (cells_of c.args.a.now c.args.b.now) k) }

pub loop-left-preserved : goal.loop-left-preserved
loop-left-preserved c =
    let low = c.loop-left.invariant.low in
    let one : c.args.exponent - (c.loop-left.left - 1) ≡ c.args.exponent - c.loop-left.left + 1 = omega arith in
    record {
      low = omega arith;
      cells = λ k l. once_more (c.args.exponent - c.loop-left.left) _ (cell_of (cells_of c.loop-left.a c.loop-left.b) k) (cell_of (cells_of c.halve.new.a c.halve.new.b) k) _ one (c.halve.ensures k (omega arith)) (c.loop-left.invariant.cells k l);
    }
