use Rattle.std.proofs.Common.{◌≡◌, ℕ, ◌<◌, ◌≤◌}
use Rattle.std.specs.Prelude.{pos, ◌*ℤ◌}
use Rattle.channel_rep.specs.Lanes.{number}
use Rattle.channel_rep.proofs.parts.halve.Given as goal

abbrev pub invariant-loop-k : goal.invariant-loop-k
invariant-loop-k l = record {
  whole : (k : ℕ) → k < l.k → number l.a k ≡ number l.initial.b k;
  root : (k : ℕ) → k < l.k → pos 2 *ℤ number l.b k ≡ number l.initial.a k;
  whole_left : (k : ℕ) → l.k ≤ k → number l.a k ≡ number l.initial.a k;
  root_left : (k : ℕ) → l.k ≤ k → number l.b k ≡ number l.initial.b k;
}
