-- What words of one coset have in common and others mostly don't: the least exponent of a word's channel, and the tag of its
-- label. Marks are this program's own.
use Rattle.std.specs.Prelude.{◌≡◌, ℕ, ◌<◌, ◌≤◌, List}
use Rattle.channel_rep.specs.Words.{IsWord}
use Rattle.coset_label.specs.Cosets.{SameCosetWords}
use Rattle.coset_label.specs.Labels.{Label, IsLabelOfWord}
use Rattle.coset_label.specs.Tags.{tag_of}
use Rattle.coset_words.specs.declared.mark.Mark.{Mark}

-- the mark of a word: the exponent and the tag of its label
pub record IsMarkOf (n : ℕ) (letters : List ℕ) (mark : Mark) : Type 0 where
  pub label : Label
  pub labelled : IsLabelOfWord n letters label
  pub exponent : mark.exponent ≡ label.exponent
  pub tag : mark.tag ≡ tag_of label

-- words of one coset have one mark
abbrev pub CosetsHaveOneMark : Type 0
CosetsHaveOneMark = (n : ℕ) → 0 < n → n ≤ 3 → (v w : List ℕ) → IsWord n v → IsWord n w → SameCosetWords n v w → (mark other : Mark)
    → IsMarkOf n v mark → IsMarkOf n w other → mark ≡ other
