use Rattle.std.proofs.Common.{◌≡◌, ◌∙◌, ap, sym, length, rules, List, ℤ, slice_index_or, pos}
use Rattle.std.specs.Cmp.Rules.{signed_items}
use Rattle.ring_laws.specs.Cyclotomic.{number}
use Rattle.count_checker.proofs.Entries.{coordinates_same}
use Rattle.count_checker.proofs.matrices.is_equal.Goals as goal

pub returns : goal.returns
returns c =
    let left : length c.args.a.x ≡ 4 = search rules in
    let right : length c.args.b.x ≡ 4 = search rules in
    let same = signed_items c.args.a.x c.args.b.x in (
      λ t. ap (λ (x : List ℤ). number (slice_index_or x 0 (pos 0)) (slice_index_or x 1 (pos 0)) (slice_index_or x 2 (pos 0)) (slice_index_or x 3 (pos 0))) (same.0 (sym c.eq.ensures ∙ t)),
      λ e. c.eq.ensures ∙ same.1 (coordinates_same c.args.a c.args.b left right e),
    )
