use Rattle.std.proofs.Common.{◌≡◌, ℕ, ◌<◌, false, slice_index, slice_index_or}
use Rattle.pauli_basis.specs.Products.{product_code}
use Rattle.word_laws.proofs.parity_rows.pairs_agree.Given as goal

abbrev pub invariant-loop-row : goal.invariant-loop-row
invariant-loop-row l = (row : ℕ) → row < l.row → slice_index_or l.commutes row false ≡ false → slice_index l.words row ≡ slice_index l.words (product_code l.p row)
