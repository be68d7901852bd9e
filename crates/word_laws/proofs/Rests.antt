-- Lemmas for the crates above: a word's inverse before a channel leaves a signed permutation exactly where the channel is in the word's coset.
use Rattle.std.proofs.Common.{◌≡◌, ℕ, ◌^◌, ◌<◌, ◌≤◌, true, false, List, [], ◌∷◌, refl, ap, sym, ◌∙◌, subst, arith, inl, inr}
use Rattle.ring_laws.specs.Matrix.{product}
use Rattle.tc_ring.specs.Surds.{surds, surd_times}
use Rattle.tc_ring.proofs.Surds.{cancel_root2_power}
use Rattle.channel_rep.specs.Tables.{ScaledTable, Step, by_rotation, by_inverse_rotation, stepped, SameTable, IsCircuitChannel}
use Rattle.channel_rep.specs.Words.{IsWord}
use Rattle.channel_rep.specs.Products.{table_product, table_of_step}
use Rattle.channel_rep.proofs.Built.{root2_to, same_table_sym, same_table_trans}
use Rattle.channel_rep.proofs.Products.{same_of, tables_right, tables_assoc, identity-table}
use Rattle.channel_rep.proofs.Least.{odd_has_least}
use Rattle.channel_rep.proofs.OneUnit.{one_unit_to}
use Rattle.coset_label.specs.Words.{word_channel}
use Rattle.coset_label.specs.Cosets.{SameCoset, IsSignedPermutationTable, DiffersByPermutation}
use Rattle.coset_label.specs.Labels.{HasLeastExponent}
use Rattle.coset_label.proofs.Permutations.{permutation_of_coset, coset_of_permutation}
use Rattle.coset_label.proofs.WordChannels.{word_circuit}
use Rattle.channel_rep.proofs.Independent.{circuit_independent}
use Rattle.word_laws.specs.Rests.{taken_off}
use Rattle.word_laws.proofs.Sparse.{word_channel-front}
use Rattle.word_laws.proofs.Rotations.{undone}

-- a step keeps tables the same
step_same : (n : ℕ) (s : Step) (a b : ScaledTable) → SameTable n a b → SameTable n (stepped n s a) (stepped n s b)
step_same n s a b h = tables_right n (table_of_step n s) a b h

-- and so does a word's inverse
taken_same : (n : ℕ) (word : List ℕ) (a b : ScaledTable) → SameTable n a b → SameTable n (taken_off n word a) (taken_off n word b)
taken_same n [] a b h = h
taken_same n (p ∷ word) a b h = taken_same n word (stepped n (by_inverse_rotation p) a) (stepped n (by_inverse_rotation p) b) (step_same n (by_inverse_rotation p) a b h)

-- a word before a table
word_on : ℕ → List ℕ → ScaledTable → ScaledTable
word_on n [] m = m
word_on n (p ∷ word) m = stepped n (by_rotation p) (word_on n word m)

word_same : (n : ℕ) (word : List ℕ) (a b : ScaledTable) → SameTable n a b → SameTable n (word_on n word a) (word_on n word b)
unfolding word_on
word_same n [] a b h = h
word_same n (p ∷ word) a b h = step_same n (by_rotation p) (word_on n word a) (word_on n word b) (word_same n word a b h)

-- a word and then its inverse
taken_word : (n : ℕ) (word : List ℕ) → IsWord n word → (m : ScaledTable) → SameTable n (taken_off n word (word_on n word m)) m
unfolding word_on
taken_word n [] is m = λ r c l h. refl
taken_word n (p ∷ word) is m =
    same_table_trans n _ (taken_off n word (word_on n word m)) _
    (taken_same n word _ (word_on n word m) (undone n false p is.0.0 is.0.1 (word_on n word m)))
    (taken_word n word is.1 m)

-- and the other way round
word_taken : (n : ℕ) (word : List ℕ) → IsWord n word → (m : ScaledTable) → SameTable n (word_on n word (taken_off n word m)) m
unfolding word_on
word_taken n [] is m = λ r c l h. refl
word_taken n (p ∷ word) is m =
    let off = stepped n (by_inverse_rotation p) m in
    same_table_trans n _ (stepped n (by_rotation p) off) _
    (step_same n (by_rotation p) (word_on n word (taken_off n word off)) off (word_taken n word is.1 off))
    (undone n true p is.0.0 is.0.1 m)

-- a word before a table is the word's channel times it
word_is : (n : ℕ) (word : List ℕ) (m : ScaledTable) → SameTable n (word_on n word m) (table_product n (word_channel n word) m)
unfolding word_on
word_is n [] m = same_table_sym n _ m (identity-table n m)
word_is n (p ∷ word) m =
    same_table_trans n _ (stepped n (by_rotation p) (table_product n (word_channel n word) m)) _
    (step_same n (by_rotation p) (word_on n word m) (table_product n (word_channel n word) m) (word_is n word m))
    (subst (λ w. SameTable n (stepped n (by_rotation p) (table_product n (word_channel n word) m)) (table_product n w m)) (sym (word_channel-front n p word))
    (same_table_sym n _ _ (tables_assoc n (table_of_step n (by_rotation p)) (word_channel n word) m)))

module _ (n : ℕ) (some : 0 < n) (few : n ≤ 3) (word : List ℕ) (is : IsWord n word) (m : ScaledTable) (circuit : IsCircuitChannel n m) (rest : ScaledTable) (same : SameTable n rest (taken_off n word m)) where
  -- a rest that is a signed permutation means one coset
  pub coset_of_rest : rest.exponent ≡ 0 → IsSignedPermutationTable n rest.table → SameCoset n m (word_channel n word)
  coset_of_rest none permutation = coset_of_permutation n m (word_channel n word) (record { permutation = rest.table; is = permutation; product_is = whole })
    where
      whole : SameTable n m (record { table = product surds (4 ^ n) (word_channel n word).table rest.table; exponent = (word_channel n word).exponent })
      whole =
          same_table_trans n m (word_on n word (taken_off n word m)) _ (same_table_sym n _ _ (word_taken n word is m))
          (same_table_trans n _ (word_on n word rest) _ (word_same n word (taken_off n word m) rest (same_table_sym n _ _ same))
          (same_table_trans n _ (table_product n (word_channel n word) rest) _ (word_is n word rest)
          (same_of n _ _ (omega (arith, none)) (λ r c l h. refl))))

  -- and one coset means that the rest, with the least exponent, is one
  pub rest_of_coset : HasLeastExponent n rest → SameCoset n m (word_channel n word) → (rest.exponent ≡ 0) × IsSignedPermutationTable n rest.table
  rest_of_coset least coset = (none, record { rows = λ row l. one_unit_to (4 ^ n) _ _ (λ k h. sym (cells row k l h)) (differs.is.rows row l); columns = λ column l. one_unit_to (4 ^ n) _ _ (λ k h. sym (cells k column h l)) (differs.is.columns column l) })
    where
      differs : DiffersByPermutation n m (word_channel n word)
      differs = permutation_of_coset n m (word_channel n word) (circuit_independent n some few m circuit) (circuit_independent n some few (word_channel n word) (word_circuit n word (word_channel n word) is (λ r c l h. refl))) coset

      permutation : ScaledTable
      permutation = record { table = differs.permutation; exponent = 0 }

      is_permutation : SameTable n rest permutation
      is_permutation =
          same_table_trans n rest (taken_off n word m) _ same
          (same_table_trans n _ (taken_off n word (word_on n word permutation)) _
          (taken_same n word m (word_on n word permutation)
          (same_table_trans n m (table_product n (word_channel n word) permutation) _
          (same_table_trans n m (record { table = product surds (4 ^ n) (word_channel n word).table differs.permutation; exponent = (word_channel n word).exponent }) _ differs.product_is
          (same_of n _ _ (omega arith) (λ r c l h. refl)))
          (same_table_sym n _ _ (word_is n word permutation))))
          (taken_word n word is permutation))

      none : rest.exponent ≡ 0
      none = elim least [
        | inl e ↦ e
        | inr odd ↦ (let low = odd_has_least 0 rest.exponent (differs.permutation odd.row odd.column) (rest.table odd.row odd.column) odd.odd (sym (is_permutation odd.row odd.column odd.row_below odd.column_below)) in omega arith)
      ]

      cells : (r c : ℕ) → r < 4 ^ n → c < 4 ^ n → rest.table r c ≡ differs.permutation r c
      cells r c l h = cancel_root2_power 0 _ _ (is_permutation r c l h ∙ ap (λ k. surd_times (root2_to k) (differs.permutation r c)) none)
