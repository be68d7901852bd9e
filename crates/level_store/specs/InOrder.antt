-- Levels in order.
use Rattle.std.specs.Prelude.{◌≡◌, ℕ, ◌+◌, ◌<◌, ◌≤◌, List, length, slice_index_or}
use Rattle.coset_label.specs.Words.{most_letters}
use Rattle.level_store.specs.declared.level.Level.{Level}

-- on how many qubits a level is
abbrev pub qubits_of : Level → ℕ
qubits_of l = l.n

-- how many letters its words have
abbrev pub len_of : Level → ℕ
len_of l = l.len

-- its numbers are those of level k on n qubits, which by its type it then is
pub record IsLevelOf (n k : ℕ) (l : Level) : Type 0 where
  pub qubits : qubits_of l ≡ n
  pub len : len_of l ≡ k

-- level 0 and those above it, in order
pub record AreLevels (n : ℕ) (list : List Level) : Type 0 where
  pub some : 0 < n
  pub few : n ≤ 3
  pub any : 0 < length list
  pub short : length list ≤ most_letters n + 1
  pub each : (k : ℕ) (d : Level) → k < length list → IsLevelOf n k (slice_index_or list k d)
