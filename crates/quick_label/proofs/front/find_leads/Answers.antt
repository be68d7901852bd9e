use Rattle.std.proofs.Common.{◌≡◌, ◌≢◌, ℕ, ◌+◌, ◌*◌, ◌^◌, ◌<◌, ◌≤◌, ℤ, pos, nat_abs, length, slice_index, slice_index_or, true≢false, not, eqb, of_z, ap, sym, ◌∙◌, subst, arith, rules, SFits}
use Rattle.std.specs.Int.{w128}
use Rattle.std.proofs.lemmas.Bool.{and_parts}
use Rattle.std.proofs.lemmas.Int.{to_z-of_z}
use Rattle.quick_label.specs.Blocks.{block_rows}
use Rattle.quick_label.proofs.SetOne.{one_more}
use Rattle.quick_label.proofs.front.find_leads.Goals as goal

pub loop-column-preserved : goal.loop-column-preserved
loop-column-preserved c = λ span are all.
    let column = c.loop-column.column in
    let numbers = c.args.numbers.now in
    let size = c.args.blocks.now.size in
    let both = and_parts _ _ all in
    let number = slice_index_or numbers column (pos 0) in
    let fits : SFits w128 number = search rules in
    let read = sym (to_z-of_z w128 number fits) in
    one_more
    (λ k lead. (slice_index_or numbers k (pos 0) ≢ pos 0)
    × ((behind : ℕ) → 256 ^ behind ≤ 2 * nat_abs (slice_index_or numbers k (pos 0)) → 2 * nat_abs (slice_index_or numbers k (pos 0)) < 256 ^ (behind + 1)
    → behind < length (block_rows size span k) → lead ≡ slice_index (block_rows size span k) behind))
    c.loop-column.leads column _ 0 (omega arith) (c.loop-column.invariant span are both.0) (
      λ e. absurd (true≢false (sym both.1 ∙ ap (λ (z : ℤ). not (eqb (of_z w128 z) 0)) e)),
      λ behind low high inside.
          let rows = c.rows_of.ensures span are in
          c.lead_of.ensures behind (subst (λ (z : ℤ). 256 ^ behind ≤ 2 * nat_abs z) read low) (subst (λ (z : ℤ). 2 * nat_abs z < 256 ^ (behind + 1)) read high) (subst (λ r. behind < length r) (sym rows) inside) ∙ ap (λ r. slice_index r behind) rows,
    )

pub returns-clause-leads : goal.returns-clause-leads
returns-clause-leads c = λ span are all column l. c.loop-column.invariant span are all column (omega arith)
