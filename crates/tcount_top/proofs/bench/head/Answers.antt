use Rattle.std.proofs.Common.{append_assoc}
use Rattle.tcount_top.specs.Bench.{bench_head}
use Rattle.tcount_top.proofs.Letters.{ok_more}
use Rattle.tcount_top.proofs.bench.head.Goals as goal

pub returns : goal.returns
unfolding bench_head
returns c = ok_more c.format.result _ _ (λ line h. simp append_assoc h) c.format.ensures.ok
