use Rattle.std.proofs.Common.{◌≡◌, ℕ, ◌<◌, ◌≤◌}
use Rattle.std.specs.Prelude.{slice_index}
use Rattle.channel_rep.proofs.conjugation.change_each.Given as goal

abbrev pub invariant-loop-image : goal.invariant-loop-image
invariant-loop-image g l = record {
  done : (p : ℕ) → p < l.image-index → goal.F-post g l.rule (slice_index l.initial.images p) (slice_index l.images p);
  rest : (p : ℕ) → l.image-index ≤ p → slice_index l.images p ≡ slice_index l.initial.images p;
}
