use Rattle.std.proofs.Common.{◌≡◌, List, ℕ, get_or, map, ap, sym, subst, ◌∙◌, slice_index_or, rules}
use Rattle.work_shares.specs.Shares.{AreDeal, load_of}
use Rattle.steal_sweep.specs.declared.tests.rows.Rows.{Rows}
use Rattle.steal_sweep.proofs.tests.rows.first_in_rows.Goals as goal

pub least_hit-requires-clause-fit : goal.least_hit-requires-clause-fit
least_hit-requires-clause-fit g c κs within =
    λ k d lt.
    let local = (get_or (map load_of c.in_ok-best.shares.items) k d).local in
    let same : c.new-sweep.result.test.numbers.now ≡ c.args.numbers.now = ap (λ (t : Rows). t.numbers.now) c.new-sweep.ensures.test ∙ c.new.ensures in
    let keeps = subst (λ (ns : List ℕ). slice_index_or ns local.row 0 ≡ local.number) (sym same) (c.in_ok-best.ensures.fits k d lt) in
    search rules

pub least_hit-requires-clause-deal : goal.least_hit-requires-clause-deal
least_hit-requires-clause-deal g c κs within = (64, subst (λ (total : ℕ). AreDeal total 64 c.in_ok-best.shares.items) (sym c.new-sweep.ensures.total) c.in_ok-best.ensures.deal)
