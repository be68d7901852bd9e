use Rattle.std.proofs.Common.{◌≡◌, ℕ, map, vec_len}
use Rattle.work_shares.specs.Shares.{place_of}
use Rattle.work_shares.proofs.tests.finish_all.Given as goal

abbrev pub invariant-loop-i : goal.invariant-loop-i
invariant-loop-i l = (map (place_of {L = ℕ}) l.shares.items ≡ map (place_of {L = ℕ}) l.fn.shares.items) × (vec_len l.shares ≡ vec_len l.fn.shares)
