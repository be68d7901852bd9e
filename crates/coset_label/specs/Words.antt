-- Words as values of the code, their channels and their order.
-- Source: Gosset, Kliuchnikov, Mosca and Russo, An algorithm for the T-count, 2014, section 2.2; the packing is ours.
use Rattle.std.specs.Prelude.{ℕ, zero, suc, ◌+◌, ◌*◌, ◌^◌, ◌<◌, ◌≤◌, List, [], ◌∷◌, ◌++◌, length, fold}
use Rattle.channel_rep.specs.Tables.{Step, by_rotation, ScaledTable, built}
use Rattle.channel_rep.specs.Words.{IsWord}

-- what contracts see of a `Word`: how many qubits it has, and its letters, the first one leftmost in the product
pub record RotationWord : Type 0 where
  pub qubits : ℕ
  pub letters : List ℕ

-- how many letters a `Word` keeps at most: 9, 6 and 4 on one, two and three qubits
abbrev pub most_letters : ℕ → ℕ
most_letters (suc zero) = 9
most_letters (suc (suc zero)) = 6
most_letters _ = 4

-- one to three qubits, and a word of at most so many letters
pub record IsShortWord (w : RotationWord) : Type 0 where
  pub some : 0 < w.qubits
  pub few : w.qubits ≤ 3
  pub word : IsWord w.qubits w.letters
  pub short : length w.letters ≤ most_letters w.qubits

-- the letters as one number, 2n bits each, the first letter highest
abbrev pub packed : ℕ → List ℕ → ℕ
packed n letters = fold (λ number letter. number * 4 ^ n + letter) 0 letters

-- the rotations of a word, the last letter's first: the last factor of R(P1)· .. ·R(Pt) acts first
abbrev pub word_steps : List ℕ → List Step
word_steps [] = []
word_steps (p ∷ word) = word_steps word ++ by_rotation p ∷ []

-- the channel of R(P1)· .. ·R(Pt)
abbrev pub word_channel : ℕ → List ℕ → ScaledTable
word_channel n word = built n (word_steps word)
