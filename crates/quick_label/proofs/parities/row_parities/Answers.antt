use Rattle.std.proofs.Common.{◌≡◌, ◌+◌, ◌^◌, ◌<◌, ◌≤◌, ap, sym, ◌∙◌, subst, arith, rules, SFits}
use Rattle.std.specs.Int.{w16, bit_at}
use Rattle.std.proofs.Math.Pow.{pow_mono}
use Rattle.std.proofs.lemmas.Int.{to_z-of_z}
use Rattle.std.proofs.lemmas.Nat.Bits.{bit_at_above}
use Rattle.tc_ring.specs.Surds.{Surd}
use Rattle.channel_rep.specs.Cells.{table_of}
use Rattle.word_laws.specs.Parities.{parity}
use borrow.Author.Count.{below_more}
use Rattle.quick_label.proofs.parities.row_parities.Goals as goal

pub loop-column-preserved : goal.loop-column-preserved
loop-column-preserved c =
    let m = c.args.channel.now in
    let row = c.args.row in
    let column = c.loop-column.column in
    let before = c.loop-column.invariant in
    let whole = c.with_parity-wholes in
    let part = c.with_parity-parts in
    let cell = c.cell-whole.ensures.value in
    let whole_fits : SFits w16 c.cell-whole.result.0 = search rules in
    let part_fits : SFits w16 c.cell-whole.result.1 = search rules in
    let wider : 2 ^ column ≤ 2 ^ (column + 1) = pow_mono {i = column} {j = column + 1} (omega arith) in
    record {
      whole_below = whole.ensures.below (column + 1) (omega arith) (omega (arith, before.whole_below));
      part_below = part.ensures.below (column + 1) (omega arith) (omega (arith, before.part_below));
      wholes = below_more (λ k. bit_at whole.result k ≡ parity (table_of m row k).a) column (λ k l. whole.ensures.kept k (omega arith) ∙ before.wholes k l)
          (whole.ensures.fresh (bit_at_above c.loop-column.wholes column column before.whole_below (omega arith)) ∙ ap parity (to_z-of_z w16 c.cell-whole.result.0 whole_fits) ∙ ap (λ (s : Surd). parity s.a) cell);
      parts = below_more (λ k. bit_at part.result k ≡ parity (table_of m row k).b) column (λ k l. part.ensures.kept k (omega arith) ∙ before.parts k l)
          (part.ensures.fresh (bit_at_above c.loop-column.parts column column before.part_below (omega arith)) ∙ ap parity (to_z-of_z w16 c.cell-whole.result.1 part_fits) ∙ ap (λ (s : Surd). parity s.b) cell);
    }
