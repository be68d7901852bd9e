use Rattle.std.proofs.Common.{refl, sym, ◌∙◌, arith, below_more}
use Rattle.std.proofs.lemmas.Bool.{true≢false}
use Rattle.word_laws.proofs.parity_rows.commuting_even.Goals as goal
use Rattle.word_laws.proofs.parity_rows.commuting_even.Goals.{else-commutes-row-via-then-commutes-row+else-words-row-ne0, else-commutes-row-via-else-commutes-row}

pub loop-row-preserved : goal.loop-row-preserved
loop-row-preserved c = below_more _ _ c.loop-row.invariant (elim c.else-commutes-row.branch [
  | else-commutes-row-via-then-commutes-row+else-words-row-ne0 w ↦ λ e. w.if-words-row-ne0.false
  | else-commutes-row-via-else-commutes-row w ↦ λ e. absurd (true≢false (sym e ∙ w.if-commutes-row.false))
])

pub returns : goal.returns
returns c = (λ _ row l. c.loop-row.invariant row (omega arith), λ _. refl)
