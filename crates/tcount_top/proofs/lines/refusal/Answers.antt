use Rattle.std.proofs.Common.{append_assoc}
use Rattle.tcount_top.specs.Lines.{refusal_line}
use Rattle.tcount_top.proofs.lines.refusal.Goals as goal

pub returns : goal.returns
unfolding refusal_line
returns c = rw c.into_bytes.ensures.value (simp append_assoc c.in_ok-line.ensures.ok)
