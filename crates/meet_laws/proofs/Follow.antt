-- Words before others: where one is exchanged for another of its coset, as many letters as before can follow.
use Rattle.std.proofs.Common.{◌≡◌, ℕ, ◌<◌, ◌≤◌, List, ◌++◌, length}
use Rattle.channel_rep.specs.Tables.{built_on, SameTable}
use Rattle.channel_rep.specs.Words.{IsWord}
use Rattle.channel_rep.proofs.Built.{same_table_sym, same_table_trans}
use Rattle.channel_rep.specs.Products.{table_product}
use Rattle.channel_rep.proofs.Products.{tables_left, tables_assoc}
use Rattle.coset_label.specs.Cosets.{SameCosetWords}
use Rattle.coset_label.specs.Words.{word_channel}
use Rattle.coset_label.proofs.InFront.{coset_before, coset_after, product_coset}
use Rattle.level_laws.specs.Levels.{undo}
use Rattle.level_laws.proofs.Cosets.{word-append}
use Rattle.level_laws.proofs.Inverses.{put_back}
use Rattle.level_laws.proofs.Follow.{word_is_circuit}
use Rattle.meet_laws.proofs.Cliffords.{HasClifford}
use Rattle.meet_laws.proofs.Between.{clifford_behind, word_past}

module _ (n : ℕ) (some : 0 < n) (few : n ≤ 3) where
  -- as many letters can follow
  pub follow : (a v x : List ℕ) → IsWord n a → IsWord n v → IsWord n x → SameCosetWords n a v
      → (y : List ℕ) × IsWord n y × (length y ≡ length x) × SameCosetWords n (a ++ x) (v ++ y)
  follow a v x ha hv hx same = from (clifford_behind n some few (word_channel n a) v hv (word_is_circuit n some few a ha) same)
    where
      from : HasClifford n (built_on n (word_channel n a) (undo v)) → (y : List ℕ) × IsWord n y × (length y ≡ length x) × SameCosetWords n (a ++ x) (v ++ y)
      from d =
          let u = built_on n (word_channel n a) (undo v) in
          let w = word_past n some few u d x hx in
          let whole : SameTable n (table_product n (word_channel n v) (table_product n u (word_channel n x))) (word_channel n (a ++ x)) =
          same_table_trans n _ (table_product n (table_product n (word_channel n v) u) (word_channel n x)) _ (same_table_sym n _ _ (tables_assoc n _ _ _))
          (same_table_trans n _ (table_product n (word_channel n a) (word_channel n x)) _ (tables_left n _ _ _ (put_back n v hv (word_channel n a))) (same_table_sym n _ _ (word-append n a x))) in (
            w.word,
            w.is_word,
            w.long,
            coset_before n _ _ _ (same_table_sym n _ _ whole)
                (coset_after n _ _ _ (product_coset n (word_channel n v) _ _ w.coset) (same_table_sym n _ _ (word-append n v w.word))),
          )
