use Rattle.std.proofs.Common.{append_assoc}
use Rattle.tcount_top.specs.Lines.{limit_line}
use Rattle.tcount_top.proofs.lines.past_limit.Goals as goal

pub returns : goal.returns
unfolding limit_line
returns c = rw c.into_bytes.ensures.value (simp append_assoc c.in_ok-line.ensures.ok)
