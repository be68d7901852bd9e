-- What a search for the least word answers.
use Rattle.std.specs.Prelude.{◌≡◌, ℕ, ◌+◌, ◌≤◌, length}
use Rattle.channel_rep.specs.Tables.{ScaledTable}
use Rattle.level_laws.specs.Levels.{IsLeastWord, NoneBelow}
use Rattle.meet_middle.specs.Halves.{spelled}
use Rattle.meet_middle.specs.declared.word2.Word2.{Word2}
use Rattle.meet_middle.specs.declared.answer.Answer.{Answer}
use Rattle.meet_middle.specs.declared.answer.Answer.TheVariants.{Least, Above}

-- the least word of the coset of m, on n qubits, of so many letters at most
pub record IsLeastAnswer (n : ℕ) (m : ScaledTable) (bound : ℕ) (w : Word2) : Type 0 where
  pub qubits : w.first.qubits ≡ n
  pub least : IsLeastWord n m (spelled w.first.letters w.middle w.last.letters)
  pub within : length (spelled w.first.letters w.middle w.last.letters) ≤ bound

-- the least word, or that no word of at most so many letters is in the coset. Both can't be right
abbrev pub IsAnswer : ℕ → ScaledTable → ℕ → Answer → Type 0
IsAnswer n m bound (Least w) = IsLeastAnswer n m bound w
IsAnswer n m bound Above = NoneBelow n m (bound + 1)
