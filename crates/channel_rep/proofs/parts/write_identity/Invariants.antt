use Rattle.std.proofs.Common.{◌≡◌, ◌≢◌, ◌+◌, ◌*◌, ◌<◌, ℕ}
use Rattle.std.specs.Prelude.{pos}
use Rattle.channel_rep.specs.Lanes.{number}
use Rattle.channel_rep.proofs.parts.write_identity.Given as goal

abbrev pub invariant-loop-row : goal.invariant-loop-row
invariant-loop-row l = record {
  ones : (r : ℕ) → r < l.row → number l.a (r * l.size + r) ≡ pos 1;
  zeros : (r c : ℕ) → r < l.size → c < l.size → r ≢ c → number l.a (r * l.size + c) ≡ pos 0;
}
