use Rattle.std.proofs.Common.{◌≡◌, ℕ, ◌+◌, ◌-◌, ◌<◌, ◌≤◌, length, slice_index, refl, ap, sym, ◌∙◌, subst, arith, rules, SFits}
use Rattle.std.specs.Int.{w16}
use Rattle.std.proofs.lemmas.Int.{to_z-of_z}
use Rattle.std.specs.Prelude.{ℤ, ◌*ℤ◌, if◌then◌else◌}
use Rattle.ring_laws.specs.Matrix.{sum}
use Rattle.ring_laws.specs.Ring.{integers}
use Rattle.channel_rep.specs.Cells.{table_of}
use Rattle.quick_label.specs.ColumnParts.{IsKeptTo, IsRunOf}
use Rattle.quick_label.proofs.ColumnParts.{kept_twice, kept_none, no_numbers, block_more}
use Rattle.quick_label.proofs.columns.write_run.Goals as goal

pub loop-k-init : goal.loop-k-init
loop-k-init c = record {
  rows = refl;
  values = refl;
  from = omega arith;
  most = omega arith;
  below = c.requires.below;
  kept = kept_none c.args.start c.args.rows.now c.args.values.now;
  sum = λ w. no_numbers w c.args.rows.now c.args.values.now c.args.start _;
}

pub loop-k-preserved : goal.loop-k-preserved
loop-k-preserved c =
    let k = c.loop-k.k in
    let before = c.loop-k.invariant in
    let fits : SFits w16 c.number_at-number.result = search rules in
    record {
      rows = c.write_number-end.ensures.rows ∙ before.rows;
      values = c.write_number-end.ensures.values ∙ before.values;
      from = omega (arith, c.write_number-end.ensures.from, before.from);
      most = omega (arith, c.write_number-end.ensures.most, before.most);
      below = c.write_number-end.ensures.below _ (c.requires.block k (omega arith)) before.below;
      kept = kept_twice c.args.start c.loop-k.end _ _ _ _ _ _ before.from before.kept c.write_number-end.ensures.kept;
      sum = λ w. block_more w (λ row. if c.args.part then (table_of c.args.channel.now row c.args.column).b else (table_of c.args.channel.now row c.args.column).a) c.args.block.now k _ _ _ (before.sum w)
          (c.write_number-end.ensures.sum w c.args.start before.from) (to_z-of_z w16 c.number_at-number.result fits ∙ c.number_at-number.ensures);
    }

pub returns-clause-sum : goal.returns-clause-sum
returns-clause-sum c = λ w.
    let all : c.loop-k.k ≡ length c.args.block.now = omega arith in
    c.loop-k.invariant.sum w
    ∙ ap (λ n. sum integers n (λ j. w (slice_index c.args.block.now j)
    *ℤ (if c.args.part then (table_of c.args.channel.now (slice_index c.args.block.now j) c.args.column).b else (table_of c.args.channel.now (slice_index c.args.block.now j) c.args.column).a))) all
