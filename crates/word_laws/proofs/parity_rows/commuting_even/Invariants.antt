use Rattle.std.proofs.Common.{◌≡◌, ℕ, ◌<◌, true, false, slice_index, slice_index_or}
use Rattle.word_laws.proofs.parity_rows.commuting_even.Given as goal

abbrev pub invariant-loop-row : goal.invariant-loop-row
invariant-loop-row l = (row : ℕ) → row < l.row → slice_index_or l.commutes row false ≡ true → slice_index l.words row ≡ 0
