use Rattle.std.proofs.Common.{◌≡◌, ℕ, ◌+◌, ◌-◌, ◌/◌, ◌*◌, ◌^◌, ◌<◌, ◌≤◌, ◌∙◌, ap, arith, to_z, of_z, FitsSigned}
use Rattle.std.specs.Prelude.{ℤ, nat_abs, slice_index_or}
use Rattle.std.specs.Int.{w128}
use Rattle.std.specs.Int.Count.{count_leading_zeros}
use Rattle.std.proofs.lemmas.Int.{to_z-of_z}
use Rattle.quick_label.proofs.WholeNumbers.{bytes_behind}
use Rattle.quick_label.proofs.numbers.lead_of.Goals as goal

-- the place that the code finds: `a` is the number without its sign
place : (a behind : ℕ) (number : ℤ) → FitsSigned w128 number → a < 2 ^ 128 → a ≡ nat_abs (to_z w128 (of_z w128 number)) → 256 ^ behind ≤ 2 * nat_abs number → 2 * nat_abs number < 256 ^ (behind + 1)
    → (128 - count_leading_zeros 128 a) / 8 ≡ behind
place a behind number fits l is low high =
    let same : a ≡ nat_abs number = is ∙ ap nat_abs (to_z-of_z w128 number fits) in bytes_behind a behind l (omega arith) (omega arith)

pub returns-then-behind-rows : goal.returns-then-behind-rows
returns-then-behind-rows c behind low high below =
    ap (λ k. slice_index_or c.args.rows.now k 0) (place c.unsigned_abs.result behind c.args.number c.ranges.number c.unsigned_abs.type_inv c.unsigned_abs.ensures.value low high)

pub returns-else-behind-rows : goal.returns-else-behind-rows
returns-else-behind-rows c behind low high below =
    let at = place c.unsigned_abs.result behind c.args.number c.ranges.number c.unsigned_abs.type_inv c.unsigned_abs.ensures.value low high in
    let over = c.if-behind-rows.false in
    absurd (omega arith)
