use Rattle.std.proofs.Common.{ℕ, ◌*◌, ◌%◌, ◌^◌, ap, ◌∙◌}
use Rattle.coset_label.specs.Sums.{joined_sums}
use Rattle.coset_label.proofs.ColumnSums.{fold_is}
use Rattle.coset_label.proofs.sums.fold_columns.Goals as goal

pub returns : goal.returns
returns c =
    ap (λ x. x % 2 ^ 38) (c.join_sums.ensures ∙ ap (λ (f : ℕ). joined_sums c.column_power.result c.add_rows.new.sums c.args.negative.now f c.args.order.now) c.exponent.ensures.value)
    ∙ fold_is c.args.channel.now c.args.negative.now c.add_rows.new.sums c.column_power.result c.args.order.now c.add_rows.ensures
    (c.column_power.ensures ∙ ap (λ (n : ℕ). 1000003 ^ (2 * 4 ^ n) % 2 ^ 64) c.qubits-n.ensures.value) c.requires.kept.below
