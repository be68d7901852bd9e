use Rattle.std.proofs.Common.{ℕ, ◌<◌, ◌⊎◌, ◌↔◌, false, IsTrue, slice_index_or}
use Rattle.pauli_basis.specs.Products.{product_code}
use Rattle.quick_label.proofs.spans.widen.Given as goal

abbrev pub invariant-loop-v : goal.invariant-loop-v
invariant-loop-v l = (k : ℕ) → k < l.v → IsTrue (slice_index_or l.wider k false) ↔ (IsTrue (slice_index_or l.span k false) ⊎ IsTrue (slice_index_or l.span (product_code l.p k) false))
