-- What a turn makes, as the code answers it.
use Rattle.std.specs.Prelude.{◌≡◌, ℕ, List, [], ◌∷◌, length, Option, None, Some}
use Rattle.channel_rep.specs.Tables.{SameTable}
use Rattle.coset_label.specs.Words.{RotationWord, word_channel}
use Rattle.level_laws.specs.Levels.{candidate_at}
use Rattle.level_laws.specs.Turns.{partner_at, turn_of}
use Rattle.level_store.specs.declared.partner.Turn.{Turn}
use Rattle.level_store.specs.declared.partner.Turn.TheVariants.{Nothing, One, Two}

-- a word is the candidate of a partner, which the turn makes beside its own
pub record IsPartner (n : ℕ) (words : List (List ℕ)) (position : ℕ) (w : RotationWord) : Type 0 where
  pub partner : ℕ
  pub at : partner_at n words position ≡ Some partner
  pub turn : turn_of n words position ≡ position ∷ partner ∷ []
  pub qubits : w.qubits ≡ n
  pub letters : w.letters ≡ candidate_at n words partner

-- a word that is made beside a candidate: as long, and with the same channel
pub record IsBeside (n len : ℕ) (u : List ℕ) (w : RotationWord) : Type 0 where
  pub qubits : w.qubits ≡ n
  pub long : length w.letters ≡ len
  pub channels : SameTable n (word_channel n u) (word_channel n w.letters)

-- the letters of a word that is made beside another, if there is one
abbrev pub letters_beside : Option RotationWord → List (List ℕ)
letters_beside None = []
letters_beside (Some w) = w.letters ∷ []

-- the answer is what the turn of the position makes
abbrev pub Makes : ℕ → List (List ℕ) → ℕ → Turn → Type 0
Makes n words position Nothing = turn_of n words position ≡ []
Makes n words position One = turn_of n words position ≡ position ∷ []
Makes n words position (Two w) = IsPartner n words position w
