-- Lemmas for the crates above: the channel of a word is a circuit's channel, and so words of one coset have one label.
use Rattle.std.proofs.Common.{◌≡◌, ◌↔◌, ℕ, ◌<◌, ◌≤◌, List, [], ◌∷◌, sym, subst}
use Rattle.std.specs.List.{AllByRecursion}
use Rattle.std.proofs.lemmas.List.Elements.{All-from_recursion, recursion_from_All, All-push}
use Rattle.channel_rep.specs.Tables.{by_rotation, IsStep, ScaledTable, IsBuiltOf, IsCircuitChannel}
use Rattle.channel_rep.specs.Words.{IsWord}
use Rattle.channel_rep.proofs.Independent.{circuit_independent}
use Rattle.coset_label.specs.Cosets.{SameCoset, SameCosetWords}
use Rattle.coset_label.specs.Labels.{Label, IsLabelOf, IsLabelOfWord}
use Rattle.coset_label.specs.Words.{word_steps, word_channel}
use Rattle.coset_label.proofs.OneCoset.{same_coset_sym, same_coset_trans, same_coset_of_same, coset_refl, coset_sym}
use Rattle.coset_label.proofs.OneLabel.{one_coset_of_label, one_label_of_coset}

-- the rotations of a word
pub word_has_steps : (n : ℕ) (word : List ℕ) → IsWord n word → AllByRecursion (IsStep n) (word_steps word)
word_has_steps n [] is = tt
word_has_steps n (p ∷ word) is =
    recursion_from_All (IsStep n) (word_steps (p ∷ word))
    (All-push (IsStep n) (word_steps word) (by_rotation p) (All-from_recursion (IsStep n) (word_steps word) (word_has_steps n word is.1)) is.0)

-- what is built of them is a circuit's channel
pub word_circuit : (n : ℕ) (word : List ℕ) (m : ScaledTable) → IsWord n word → IsBuiltOf n (word_steps word) m → IsCircuitChannel n m
word_circuit n word m is built = (word_steps word, word_has_steps n word is, built)

-- the channel of which a word's label tells lies in the coset of the word's channel
labelled_coset : (n : ℕ) (word : List ℕ) (label : Label) (is : IsLabelOfWord n word label) → SameCoset n is.channel (word_channel n word)
labelled_coset n word label is = same_coset_of_same n is.channel (word_channel n word) is.built

module _ (n : ℕ) (v w : List ℕ) (label other : Label) (is : IsLabelOfWord n v label) (is_other : IsLabelOfWord n w other) where
  -- words of one coset have one label
  pub one_label_of_words : 0 < n → n ≤ 3 → IsWord n v → IsWord n w → SameCosetWords n v w → label ≡ other
  one_label_of_words some few hv hw same =
      one_label_of_coset n is.channel is_other.channel
      (circuit_independent n some few is.channel (word_circuit n v is.channel hv is.built)) (circuit_independent n some few is_other.channel (word_circuit n w is_other.channel hw is_other.built))
      label other is.is is_other.is
      (same_coset_trans n is.channel (word_channel n v) is_other.channel (labelled_coset n v label is)
      (same_coset_trans n (word_channel n v) (word_channel n w) is_other.channel same (same_coset_sym n is_other.channel (word_channel n w) (labelled_coset n w other is_other))))

  -- words of one label lie in one coset
  pub one_coset_of_words : label ≡ other → SameCosetWords n v w
  one_coset_of_words equal =
      same_coset_trans n (word_channel n v) is.channel (word_channel n w) (same_coset_sym n is.channel (word_channel n v) (labelled_coset n v label is))
      (same_coset_trans n is.channel is_other.channel (word_channel n w) (one_coset_of_label n is.channel is_other.channel label other is.is is_other.is equal) (labelled_coset n w other is_other))

-- the label of a circuit's channel is that of a word exactly where the word lies in the channel's coset
pub label_tells_word : (n : ℕ) → 0 < n → n ≤ 3 → (m : ScaledTable) → IsCircuitChannel n m → (w : List ℕ) → IsWord n w → (label other : Label) → IsLabelOf n m label → IsLabelOfWord n w other
    → (label ≡ other) ↔ SameCoset n m (word_channel n w)
label_tells_word n some few m circuit w hw label other is is_other =
    let same = labelled_coset n w other is_other in (
      λ e. same_coset_trans n m is_other.channel _ (one_coset_of_label n m is_other.channel label other is is_other.is e) same,
      λ h.
          one_label_of_coset n m is_other.channel (circuit_independent n some few m circuit) (circuit_independent n some few is_other.channel (word_circuit n w is_other.channel hw is_other.built)) label other is is_other.is
          (same_coset_trans n m _ is_other.channel h (same_coset_sym n _ _ same)),
    )

module _ (n : ℕ) (some : 0 < n) (few : n ≤ 3) (w : List ℕ) (hw : IsWord n w) (label other : Label) (is_other : IsLabelOfWord n w other) where
  -- a label equal to a word's is one of the word, and the word has no other
  pub equal_is_label : (label ≡ other) ↔ IsLabelOfWord n w label
  equal_is_label = (λ e. subst (IsLabelOfWord n w) (sym e) is_other, λ is. one_label_of_words n w w label other is is_other some few hw hw (coset_refl n w))

  -- a label equal to a word's is one of the words of its coset alone
  pub equal_is_coset : (v : List ℕ) → IsWord n v → IsLabelOfWord n v label → (label ≡ other) ↔ SameCosetWords n w v
  equal_is_coset v hv is = (
    λ e. coset_sym n v w (one_coset_of_words n v w label other is is_other e),
    λ h. one_label_of_words n v w label other is is_other some few hv hw (coset_sym n w v h),
  )
