use Rattle.std.proofs.Common.{refl, sym, ◌∙◌, arith, below_more}
use Rattle.std.proofs.lemmas.Bool.{true≢false}
use Rattle.word_laws.proofs.parity_rows.pairs_agree.Goals as goal
use Rattle.word_laws.proofs.parity_rows.pairs_agree.Goals.{else-not-commutes-row-via-then-not-commutes-row+else-words-row, else-not-commutes-row-via-else-not-commutes-row}

pub loop-row-preserved : goal.loop-row-preserved
loop-row-preserved c = below_more _ _ c.loop-row.invariant (elim c.else-not-commutes-row.branch [
  | else-not-commutes-row-via-then-not-commutes-row+else-words-row w ↦ λ e. w.if-words-row.false
  | else-not-commutes-row-via-else-not-commutes-row w ↦ λ e. absurd (true≢false (sym w.if-not-commutes-row.false ∙ e))
])

pub returns : goal.returns
returns c = (λ _ row l. c.loop-row.invariant row (omega arith), λ _. refl)
