use Rattle.std.proofs.Common.{arith, ◌∙◌}
use Rattle.tc_io.proofs.Pieces.{written_more}
use Rattle.tc_io.proofs.whole.write_all.Goals as goal

pub loop-at-preserved : goal.loop-at-preserved
loop-at-preserved g c = record {
  inside = omega (arith, c.in-Ok.ensures.bound);
  gone = written_more _ (g.K.Sink.written c.loop-at.sink) _ c.in-Ok.count c.loop-at.at c.args.bytes.now c.loop-at.invariant.gone c.in-Ok.ensures.bytes;
  still = c.in-Ok.ensures.cause.still ∙ c.loop-at.invariant.still;
}
