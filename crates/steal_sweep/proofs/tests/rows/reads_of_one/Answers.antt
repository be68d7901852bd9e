use Rattle.std.proofs.Common.{◌≡◌, List, ℕ, true, ◌==◌, ◌&&◌, get_or, map, ap, sym, subst, ◌∙◌, slice_index_or, rules}
use Rattle.work_shares.specs.Shares.{load_of}
use Rattle.steal_sweep.specs.declared.tests.rows.Kept.{Kept}
use Rattle.steal_sweep.specs.declared.tests.rows.Rows.{Rows}
use Rattle.steal_sweep.proofs.Found.{stands_for_none}
use Rattle.steal_sweep.proofs.tests.rows.reads_of_one.Goals as goal

pub for_each-requires-clause-stands : goal.for_each-requires-clause-stands
for_each-requires-clause-stands g c κs within =
    let same : c.new-sweep.result.test.numbers.now ≡ c.args.numbers.now = ap (λ (t : Rows). t.numbers.now) c.new-sweep.ensures.test ∙ c.new.ensures in
    let fit = λ (l : Kept). slice_index_or c.new-sweep.result.test.numbers.now l.row 0 == l.number && true in
    stands_for_none fit c.in_ok-best.best _ _ (map load_of c.in_ok-best.shares.items)
    (λ k d lt.
    let local = (get_or (map load_of c.in_ok-best.shares.items) k d).local in
    let keeps = subst (λ (ns : List ℕ). slice_index_or ns local.row 0 ≡ local.number) (sym same) (c.in_ok-best.ensures.fits k d lt) in
    search rules) c.in_ok-best.ensures.seats
