-- A letter before a word, and the channel behind it with its least exponent.
-- Source: Gosset, Kliuchnikov, Mosca and Russo, An algorithm for the T-count, 2014, section 2.3, for rotations of channels.
use Rattle.std.specs.Prelude.{◌≡◌, ℕ, ◌+◌, ◌^◌, ◌<◌, ◌≤◌}
use Rattle.channel_rep.specs.Tables.{ScaledTable, by_rotation, stepped, SameTable}

-- b is the product of the letter's rotation and the word's channel a, divided by √2 so often
pub record IsFront (n p divisions : ℕ) (a b : ScaledTable) : Type 0 where
  pub letter : p < 4 ^ n
  pub same : SameTable n b (stepped n (by_rotation p) a)
  pub few : divisions ≤ 2
  pub exponent : b.exponent + divisions ≡ a.exponent + 1
