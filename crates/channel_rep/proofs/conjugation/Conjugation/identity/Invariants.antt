use Rattle.std.proofs.Common.{◌≡◌, ℕ, ◌<◌, length}
use Rattle.std.specs.Prelude.{slice_index}
use Rattle.channel_rep.proofs.conjugation.Conjugation.identity.Given as goal

abbrev pub invariant-loop-code : goal.invariant-loop-code
invariant-loop-code l = record {
  long : length l.images ≡ 64;
  own : (p : ℕ) → p < l.code → slice_index l.images p ≡ p;
}
