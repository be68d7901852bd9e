use Rattle.tcount_top.proofs.Answering.{bench_answer, never_silent, never_usage}
use Rattle.tcount_top.proofs.top.run_bench.Goals as goal

pub returns-in-Ok-clause-unwritten : goal.returns-in-Ok-clause-unwritten
returns-in-Ok-clause-unwritten g c = λ e. absurd (never_silent _ _ _ _ (bench_answer c.args.qubits c.args.letters c.args.seed c.args.bound c.in-Ok.status _ c.in-Ok.ensures) c.respond.ensures.responds e)

pub returns-in-Ok-clause-no_usage : goal.returns-in-Ok-clause-no_usage
returns-in-Ok-clause-no_usage g c = never_usage _ _ _ _ (bench_answer c.args.qubits c.args.letters c.args.seed c.args.bound c.in-Ok.status _ c.in-Ok.ensures) c.respond.ensures.responds
