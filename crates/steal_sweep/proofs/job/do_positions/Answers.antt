use Rattle.std.proofs.Common.{ℕ, ◌-◌, List, ◌++◌, ◌∙◌, subst, arith}
use Rattle.std.specs.List.{range_with_len}
use Rattle.steal_sweep.proofs.Ranges.{one_more}
use Rattle.steal_sweep.proofs.job.do_positions.Goals as goal

pub turn-requires-clause-own : goal.turn-requires-clause-own
turn-requires-clause-own g c = c.requires.own c.loop-position.position c.loop-position.invariant.from (omega arith)

pub loop-position-preserved : goal.loop-position-preserved
loop-position-preserved g c =
    let i = c.loop-position.invariant in
    let from = i.from in
    let e = c.turn.ensures in
    record {
      from = omega arith;
      name = e.name ∙ i.name;
      stands = λ done stood. subst (λ (l : List ℕ). g.J.Job.stands c.args.job.now c.turn.new.local l) (one_more done c.args.first c.loop-position.position from)
          (e.stands (done ++ range_with_len c.args.first (c.loop-position.position - c.args.first)) (i.stands done stood));
    }
