use Rattle.std.proofs.Common.{◌≡◌, ℕ, ◌<◌, ◌∷◌, List, length, slice_index, slice_index_or, All}
use Rattle.quick_label.specs.Classes.{IsClassRoom, IsClass}
use Rattle.quick_label.specs.Spans.{AreSpan}
use Rattle.quick_label.specs.declared.classes.Class.{Class}
use Rattle.quick_label.proofs.classes.take_classes.Given as goal

abbrev pub invariant-loop-home : goal.invariant-loop-home
invariant-loop-home l = record {
  long : length l.classes ≡ length l.initial.classes;
  rooms : All (IsClassRoom l.n) l.classes;
  done : (letters : List ℕ) → AreSpan l.n letters l.span → (k : ℕ) (d : Class) → k < l.home → slice_index l.blocks.homes k ≡ k → IsClass l.n (k ∷ letters) (slice_index_or l.classes k d);
}
