use Rattle.std.proofs.Common.{append_assoc}
use Rattle.tcount_top.specs.Lines.{above_line}
use Rattle.tcount_top.proofs.lines.above.Goals as goal

pub returns : goal.returns
unfolding above_line
returns c = rw c.into_bytes.ensures.value (simp append_assoc c.in_ok-line.ensures.ok)
