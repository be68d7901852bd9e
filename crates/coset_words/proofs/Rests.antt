-- A letter is taken off a channel, and off the front of a word: whether they lie in one coset stays.
use Rattle.std.proofs.Common.{◌≡◌, ◌≢◌, ◌↔◌, ℕ, ◌+◌, ◌^◌, ◌<◌, ◌≤◌, Bool, true, false, IsTrue, List, [], ◌∷◌, ◌++◌, length, refl, sym, subst, inl, inr}
use Rattle.std.proofs.lemmas.List.Elements.{All-from_recursion, recursion_from_All, All-push}
use Rattle.ring_laws.specs.Matrix.{product, Agree}
use Rattle.tc_ring.specs.Surds.{surds}
use Rattle.channel_rep.specs.Cells.{ChannelGrid, table_of, scaled, IsReduced, IsSignedPermutation}
use Rattle.channel_rep.specs.Tables.{ScaledTable, by_rotation, by_inverse_rotation, rotation_table, IsStep, stepped, SameTable, IsBuiltOf, IsCircuitChannel}
use Rattle.channel_rep.specs.Words.{IsWord}
use Rattle.channel_rep.proofs.Built.{same_table_refl, same_table_sym, same_table_trans, same_step, built_more, built_same}
use Rattle.channel_rep.proofs.Undone.{step_undone}
use Rattle.coset_label.specs.Cosets.{SameCoset, SameCosetWords, IsSignedPermutationTable}
use Rattle.coset_label.specs.Labels.{HasLeastExponent}
use Rattle.coset_label.specs.Words.{word_steps, word_channel}
use Rattle.coset_label.proofs.Exponents.{least_of_words}
use Rattle.coset_label.proofs.InFront.{step_coset, coset_before, coset_after}
use Rattle.coset_label.proofs.WordChannels.{word_circuit}
use Rattle.word_laws.proofs.Rests.{coset_of_rest, rest_of_coset}
use Rattle.word_laws.proofs.Sparse.{word_channel-front}

-- ---- a letter more
module _ (n p : ℕ) (lp : p < 4 ^ n) (d : p ≢ 0) (m rest : ScaledTable) (same : SameTable n rest (stepped n (by_inverse_rotation p) m)) where
  taken : ScaledTable
  taken = stepped n (by_inverse_rotation p) m

  -- what is left of a circuit's channel is one
  pub circuit_left : IsCircuitChannel n m → IsCircuitChannel n rest
  unfolding taken
  circuit_left circuit = (
    circuit.0 ++ by_inverse_rotation p ∷ [],
    recursion_from_All (IsStep n) (circuit.0 ++ by_inverse_rotation p ∷ []) (All-push (IsStep n) circuit.0 (by_inverse_rotation p) (All-from_recursion (IsStep n) circuit.0 circuit.1) (lp, d)),
    built_same n (circuit.0 ++ by_inverse_rotation p ∷ []) taken rest same (built_more n circuit.0 (by_inverse_rotation p) m taken refl (λ r c l k. refl) circuit.2),
  )

  -- the rotation on what is left gives the channel back
  given_back : SameTable n m (stepped n (by_rotation p) rest)
  unfolding taken
  given_back =
      same_table_sym n (stepped n (by_rotation p) rest) m
      (same_table_trans n (stepped n (by_rotation p) rest) (stepped n (by_rotation p) taken) m
      (same_step n (by_rotation p) rest taken (stepped n (by_rotation p) rest) same refl (λ r c l k. refl))
      (step_undone n false p lp d m))

  -- a word with the letter in front lies in the channel's coset exactly where the letters behind it lie in that of what is left
  pub coset_left : (word : List ℕ) → SameCoset n m (word_channel n (p ∷ word)) ↔ SameCoset n rest (word_channel n word)
  unfolding taken
  coset_left word = (
    λ h. coset_before n rest taken (word_channel n word) same
        (coset_after n taken (stepped n (by_inverse_rotation p) (stepped n (by_rotation p) (word_channel n word))) (word_channel n word)
        (step_coset n (by_inverse_rotation p) m (stepped n (by_rotation p) (word_channel n word)) (subst (SameCoset n m) front h)) (step_undone n true p lp d (word_channel n word))),
    λ h. coset_before n m (stepped n (by_rotation p) rest) (word_channel n (p ∷ word)) given_back
        (subst (SameCoset n (stepped n (by_rotation p) rest)) (sym front) (step_coset n (by_rotation p) rest (word_channel n word) h)),
  )
    where
      front : word_channel n (p ∷ word) ≡ stepped n (by_rotation p) (word_channel n word)
      front = word_channel-front n p word

-- what a rotation's inverse and a reduction make of a channel
pub letter_taken : (n p : ℕ) (before turned after : ChannelGrid) → before.qubits ≡ n → turned.qubits ≡ before.qubits → turned.exponent ≡ 1 + before.exponent
    → Agree surds (4 ^ before.qubits) (table_of turned) (product surds (4 ^ before.qubits) (rotation_table before.qubits true p) (table_of before)) → SameTable turned.qubits (scaled after) (scaled turned)
    → SameTable n (scaled after) (stepped n (by_inverse_rotation p) (scaled before))
letter_taken n p before turned after at same exponent agree value =
    let q = before.qubits in
    subst (λ k. SameTable k (scaled after) (stepped k (by_inverse_rotation p) (scaled before))) at
    (same_table_trans q (scaled after) (scaled turned) (stepped q (by_inverse_rotation p) (scaled before))
    (subst (λ k. SameTable k (scaled after) (scaled turned)) same value)
    (same_step q (by_inverse_rotation p) (scaled before) (scaled before) (scaled turned) (same_table_refl q (scaled before)) exponent agree))

-- ---- channels that are reduced
least_of : (n : ℕ) (g : ChannelGrid) → g.qubits ≡ n → IsReduced g → HasLeastExponent n (scaled g)
least_of n g at reduced = subst (λ k. HasLeastExponent k (scaled g)) at (elim reduced [
  | inl none ↦ inl none
  | inr odd ↦ inr (record { row = odd.row; column = odd.column; row_below = odd.row_below; column_below = odd.column_below; odd = odd.odd })
])

-- their exponent is at most the number of letters of each word of the coset
pub exponent_low : (n : ℕ) (g : ChannelGrid) → g.qubits ≡ n → IsReduced g → (word : List ℕ) → SameCoset n (scaled g) (word_channel n word) → g.exponent ≤ length word
exponent_low n g at reduced word same = least_of_words n (scaled g) (least_of n g at reduced) word same

-- those of the empty word's coset are the signed permutations
pub permutation_coset : (n : ℕ) → 0 < n → n ≤ 3 → (g : ChannelGrid) → g.qubits ≡ n → IsReduced g → IsCircuitChannel n (scaled g) → IsSignedPermutation g ↔ SameCoset n (scaled g) (word_channel n [])
permutation_coset n some few g at reduced circuit = (
  λ is. coset_of_rest n some few [] tt (scaled g) circuit (scaled g) (same_table_refl n (scaled g)) is.exponent (subst (λ k. IsSignedPermutationTable k (table_of g)) at (record { rows = is.rows; columns = is.columns })),
  λ h. told (rest_of_coset n some few [] tt (scaled g) circuit (scaled g) (same_table_refl n (scaled g)) (least_of n g at reduced) h),
)
  where
    told : (g.exponent ≡ 0) × IsSignedPermutationTable n (table_of g) → IsSignedPermutation g
    told rest = let is = subst (λ k. IsSignedPermutationTable k (table_of g)) (sym at) rest.1 in record { exponent = rest.0; rows = is.rows; columns = is.columns }

-- ---- two words
-- what is told of the channel of one is told of the word
pub words_told : (n : ℕ) (v w : List ℕ) → IsWord n v → (m : ScaledTable) → IsBuiltOf n (word_steps v) m → (answer : Bool) → (IsCircuitChannel n m → IsTrue answer ↔ SameCoset n m (word_channel n w)) → IsTrue answer ↔ SameCosetWords n v w
words_told n v w hv m built answer tells = let t = tells (word_circuit n v m hv built) in (
  λ a. coset_before n (word_channel n v) m (word_channel n w) (same_table_sym n m (word_channel n v) built) (t.0 a),
  λ s. t.1 (coset_before n m (word_channel n v) (word_channel n w) built s),
)
