use Rattle.std.proofs.Common.{append_assoc}
use Rattle.tcount_top.specs.Lines.{many_h_line}
use Rattle.tcount_top.proofs.lines.many_h.Goals as goal

pub returns : goal.returns
unfolding many_h_line
returns c = rw c.into_bytes.ensures.value (simp append_assoc c.in_ok-line.ensures.ok)
