-- What a worker keeps of the target from one position to the next.
use Rattle.std.specs.Prelude.{◌≡◌, ℕ, ◌*◌, ◌^◌, ◌<◌, ◌≤◌, Bool}
use Rattle.ring_laws.specs.Ring.{power}
use Rattle.tc_ring.specs.Surds.{surds, surd_times, root2_surd}
use Rattle.channel_rep.specs.Cells.{ChannelGrid, scaled, IsReduced}
use Rattle.channel_rep.specs.Tables.{ScaledTable, IsCircuitChannel}
use Rattle.level_store.specs.declared.level.Level.{Level}
use Rattle.level_store.specs.InOrder.{IsLevelOf}
use Rattle.coset_label.specs.Decided.{at_all, same_surd}
use Rattle.coset_label.specs.Words.{most_letters}
use Rattle.meet_middle.specs.Trails.{HeldTrail}

-- whether two tables have the same entries, both brought to one power of √2
unfoldable pub same_table : ℕ → ScaledTable → ScaledTable → Bool
same_table n a b =
    at_all (λ row. at_all (λ column. same_surd (surd_times (power surds root2_surd b.exponent) (a.table row column)) (surd_times (power surds root2_surd a.exponent) (b.table row column))) (4 ^ n)) (4 ^ n)

-- whether letters are taken off this target
abbrev pub keeps : ℕ → ScaledTable → HeldTrail → Bool
keeps n target trail = same_table n (scaled trail.target) target

-- what holds wherever a front is asked: the target is a circuit's channel with its least exponent, which is at most the letters
-- of the longest words that are looked for, and the level is one of words of half the letters
pub record IsAsked (n half : ℕ) (target : ChannelGrid) (level : Level) : Type 0 where
  pub some : 0 < n
  pub few : n ≤ 3
  pub qubits : target.qubits ≡ n
  pub low : target.exponent ≤ 2 * most_letters n
  pub reduced : IsReduced target
  pub circuit : IsCircuitChannel n (scaled target)
  pub number : IsLevelOf n half level
