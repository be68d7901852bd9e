-- Lemmas for the crates above: a letter before a word in which it comes again, behind none but letters that commute with it.
use Rattle.std.proofs.Common.{◌≡◌, ◌≢◌, ℕ, true, false, ◌+◌, ◌^◌, ◌<◌, ◌≤◌, List, [], ◌∷◌, ◌++◌, length, ap, sym, subst, arith, length-append}
use Rattle.std.specs.List.{AllByRecursion}
use Rattle.std.proofs.lemmas.List.Elements.{recursion_from_All}
use Rattle.tc_circuit.specs.Gate as circuit
use Rattle.tc_circuit.specs.Model.{ScaledMatrix}
use Rattle.tc_circuit.specs.declared.circuit.Gate.{Gate}
use Rattle.pauli_basis.specs.Products.{commute}
use Rattle.channel_rep.specs.Tables.{built, SameTable}
use Rattle.channel_rep.specs.Words.{IsWord}
use Rattle.channel_rep.specs.Products.{table_product}
use Rattle.channel_rep.proofs.Built.{same_table_sym, same_table_trans}
use Rattle.channel_rep.proofs.Products.{tables_right, tables_left, tables_assoc}
use Rattle.channel_rep.proofs.Undone.{turned}
use Rattle.coset_label.specs.Cosets.{SameCosetWords}
use Rattle.coset_label.specs.Words.{word_channel}
use Rattle.coset_label.proofs.InFront.{coset_before}
use Rattle.coset_label.proofs.OneCoset.{coset_refl, coset_trans}
use Rattle.word_laws.proofs.Exchanges.{cosets_exchange}
use Rattle.tc_bridge.specs.Block.{opening, highest, conjugated_gates, word_gates}
use Rattle.tc_bridge.specs.Rotation.{rotation, scaled_product, AreEqual}
use Rattle.tc_bridge.specs.Steps.{steps_of}
use Rattle.tc_bridge.proofs.Channels.{channel_product}
use Rattle.tc_bridge.proofs.Conjugations.{all-append}
use Rattle.tc_circuit.proofs.Counts.{t_count-append}
use Rattle.tc_bridge.proofs.Counts.{word_count, word_circuit}
use Rattle.tc_bridge.proofs.Matrices.{multiple}
use Rattle.tc_bridge.proofs.Rotations.{turned_axis, rotation_channel}
use Rattle.tc_bridge.proofs.ScaledMatrices.{Equal, near}
use Rattle.tc_bridge.proofs.Squares.{square_circuit}
use Rattle.level_laws.specs.Levels.{IsInCoset, IsOffered, ComesAgain}
use Rattle.level_laws.proofs.Circuits.{near_built, word_built, circuits_joined, circuit_word}
use Rattle.level_laws.proofs.Cosets.{behind_coset, word_front, word_behind, word_both}
use Rattle.level_laws.proofs.Growth.{candidate_word, offered_stands}
use Rattle.level_laws.proofs.Inverses.{word-cons}
use Rattle.level_laws.proofs.LeastWords.{least_of_level}

-- matrices that are equal entry by entry
equal_from : (n : ℕ) (a b : ScaledMatrix) → AreEqual (2 ^ n) a b → Equal n a b
unfolding multiple
equal_from n a b h = record { is = record { at = h } }

module _ (n : ℕ) (some : 0 < n) (few : n ≤ 3) where
  -- ---- two equal letters in front
  module _ (p : ℕ) (letter : (p < 4 ^ n) × (p ≢ 0)) where
    -- the gates of R(P)², none of which is a T gate
    abbrev square : List Gate
    square = conjugated_gates (opening n p) (Gate.S (highest n p))

    square_built : SameTable n (built n (steps_of square)) (table_product n (turned n false p) (turned n false p))
    square_built =
        let once = rotation_channel n false p letter.0 in
        let c = square_circuit n some few p letter.0 letter.1 in
        near_built n some few square c.fits (scaled_product n (rotation n p) (rotation n p)) _ (near (equal_from n _ _ c.equal))
        (channel_product n (turned_axis n false p) (turned_axis n false p) (turned n false p) (turned n false p) once once)

    module _ (v : List ℕ) (word : IsWord n v) where
      -- behind the gates of a word they have the channel of p·p and the word
      gates_are : SameTable n (word_channel n (p ∷ p ∷ v)) (built n (steps_of (word_gates n v ++ square)))
      gates_are =
          let r = turned n false p in
          let w = word_channel n v in
          let g = built n (steps_of (word_gates n v)) in
          same_table_trans n _ (table_product n r (word_channel n (p ∷ v))) _ (word-cons n p (p ∷ v))
          (same_table_trans n _ (table_product n r (table_product n r w)) _ (tables_right n r _ _ (word-cons n p v))
          (same_table_trans n _ (table_product n (table_product n r r) w) _ (same_table_sym n _ _ (tables_assoc n r r w))
          (same_table_sym n _ _
          (same_table_trans n _ (table_product n (built n (steps_of square)) g) _ (circuits_joined n some few (word_gates n v) square)
          (same_table_trans n _ (table_product n (table_product n r r) g) _ (tables_left n _ _ g square_built) (tables_right n _ g w (word_built n some few v word)))))))

      -- so a word as long as the one behind is in its coset
      square_shortens : (y : List ℕ) × (length y ≡ length v) × IsInCoset n (word_channel n (p ∷ p ∷ v)) y
      square_shortens =
          let c = square_circuit n some few p letter.0 letter.1 in
          let y = circuit_word n some few (word_gates n v ++ square) (all-append (circuit.Fits n) (word_gates n v) square (word_circuit n some few v word) c.fits) in
          (y.word, omega (arith, y.long, t_count-append (word_gates n v) square, word_count n v, c.no_t), record { word = y.is_word; coset = coset_before n _ _ _ gates_are y.coset })

  -- ---- letters between
  -- past letters that commute with it a letter comes before its equal
  brought : (p : ℕ) (front back : List ℕ) → AllByRecursion (λ q. commute n p q ≡ true) front → IsWord n (p ∷ (front ++ p ∷ back)) → SameCosetWords n (p ∷ (front ++ p ∷ back)) (front ++ p ∷ p ∷ back)
  brought p [] back h word = coset_refl n (p ∷ p ∷ back)
  brought p (q ∷ front) back h word =
      coset_trans n (p ∷ q ∷ (front ++ p ∷ back)) (q ∷ p ∷ (front ++ p ∷ back)) (q ∷ (front ++ p ∷ p ∷ back))
      (cosets_exchange n p q [] (front ++ p ∷ back) h.0 word)
      (behind_coset n (q ∷ []) (p ∷ (front ++ p ∷ back)) (front ++ p ∷ p ∷ back) (brought p front back h.1 (word.0, word.1.1)))

  -- and a word of two letters fewer is in the coset
  pub repeat_shortens : (p : ℕ) (word : List ℕ) → IsWord n (p ∷ word) → ComesAgain n p word → (v : List ℕ) × (length v + 1 ≡ length word) × IsInCoset n (word_channel n (p ∷ word)) v
  repeat_shortens p word is again =
      let front = again.front in
      let back = again.back in
      let whole : IsWord n (p ∷ (front ++ p ∷ back)) = subst (λ w. IsWord n (p ∷ w)) again.is is in
      let behind = word_behind n front (p ∷ back) whole.1 in
      let y = square_shortens p is.0 back behind.1 in (
        front ++ y.0,
        omega (arith, y.1, length-append front y.0, ap length again.is, length-append front (p ∷ back)),
        record {
          word = word_both n front y.0 (word_front n front (p ∷ back) whole.1) y.2.word;
          coset =
              subst (λ w. SameCosetWords n (p ∷ w) (front ++ y.0)) (sym again.is)
              (coset_trans n (p ∷ (front ++ p ∷ back)) (front ++ p ∷ p ∷ back) (front ++ y.0)
              (brought p front back (recursion_from_All (λ q. commute n p q ≡ true) front again.commuting) whole)
              (behind_coset n front (p ∷ p ∷ back) y.0 y.2.coset));
        },
      )

  -- so it isn't offered
  pub repeat_not_offered : (k p : ℕ) (word : List ℕ) → ComesAgain n p word → IsOffered n k (p ∷ word) → ⊥
  repeat_not_offered k p word again offered =
      let c = offered.candidate in
      let s = offered_stands n some few k (p ∷ word) offered in
      let least = least_of_level n (k + 1) (word_channel n (p ∷ word)) s.0 s.1.level s.1.same in
      let v = repeat_shortens p word (candidate_word n some few k (p ∷ word) c) again in
      omega (arith, least.shortest v.0 v.2, v.1, s.1.level.letters, c.level.letters, ap length c.is)
