-- What is left of a target behind a front.
use Rattle.std.proofs.Common.{◌≡◌, ℕ, true, ◌+◌, ◌^◌, ◌<◌, ◌≤◌, List, [], ◌∷◌, ◌++◌, Option, Some, None, refl, ap, sym, ◌∙◌, subst}
use Rattle.ring_laws.specs.Matrix.{product, Agree}
use Rattle.tc_ring.specs.Surds.{surds}
use Rattle.channel_rep.specs.Cells.{ChannelGrid, scaled, table_of}
use Rattle.channel_rep.specs.Tables.{ScaledTable, rotation_table, SameTable, IsCircuitChannel, built}
use Rattle.channel_rep.specs.Words.{IsWord}
use Rattle.channel_rep.proofs.Built.{same_table_sym, same_table_trans}
use Rattle.coset_label.specs.Labels.{Label, IsLabelOf}
use Rattle.coset_label.specs.Words.{RotationWord}
use Rattle.level_laws.specs.Levels.{removed}
use Rattle.level_laws.proofs.Follow.{off_circuit}
use Rattle.level_laws.proofs.Finding.{found_of_same}
use Rattle.level_laws.proofs.Removed.{removed_step}
use Rattle.level_store.specs.declared.level.Level.{Level}
use Rattle.level_store.specs.InOrder.{qubits_of, len_of, IsLevelOf}
use Rattle.level_store.specs.Stored.{Finds, FindsLabel}
use Rattle.meet_middle.proofs.Removing.{remove_letter}

-- a look tells of each table of the same value
pub finds_of_same : (n k : ℕ) (a b : ScaledTable) → SameTable n a b → (r : Option RotationWord) → Finds n k a r → Finds n k b r
finds_of_same n k a b same (Some w) h = (h.0, found_of_same n k a b w.letters same h.1)
finds_of_same n k a b same None h = λ found. h (found.0, found_of_same n k b a found.0 (same_table_sym n a b same) found.1)

-- a rest is a circuit's channel
pub rest_circuit : (n : ℕ) → 0 < n → n ≤ 3 → (rest target : ScaledTable) (word : List ℕ) → IsWord n word → SameTable n rest (removed n target word) → IsCircuitChannel n target → IsCircuitChannel n rest
rest_circuit n some few rest target word good same circuit =
    let off = off_circuit n some few target word good circuit in
    (off.0, off.1, same_table_trans n rest (removed n target word) (built n off.0) same off.2)

-- one letter more taken off, without the channel's own work
pub one_letter_off : (n : ℕ) (kept target : ScaledTable) (word : List ℕ) (p : ℕ) → SameTable n kept (removed n target word) → SameTable n (removed n kept (p ∷ [])) (removed n target (word ++ p ∷ []))
one_letter_off n kept target word p same = removed_step n target kept (removed n kept (p ∷ [])) word p same refl (λ row column l m. refl)

-- a letter taken off a copy of what is kept, which is then brought to the least exponent
pub letter_off : (n : ℕ) (kept copied off rest : ChannelGrid) (p : ℕ) → kept.qubits ≡ n → copied ≡ kept → off.qubits ≡ copied.qubits → off.exponent ≡ 1 + copied.exponent
    → Agree surds (4 ^ copied.qubits) (table_of off) (product surds (4 ^ copied.qubits) (rotation_table copied.qubits true p) (table_of copied))
    → SameTable off.qubits (scaled rest) (scaled off)
    → (target : ScaledTable) (word : List ℕ) → SameTable n (scaled kept) (removed n target word) → SameTable n (scaled rest) (removed n target (word ++ p ∷ []))
letter_off n kept copied off rest p q is q1 e table value target word same =
    let at : copied.qubits ≡ n = ap (λ (c : ChannelGrid). c.qubits) is ∙ q in
    let before : SameTable n (scaled copied) (removed n target word) = subst (λ (c : ChannelGrid). SameTable n (scaled c) (removed n target word)) (sym is) same in
    let after : SameTable n (scaled off) (removed n target (word ++ p ∷ [])) = remove_letter copied.qubits n target (scaled copied) (scaled off) word p at before e table in
    same_table_trans n (scaled rest) (scaled off) _ (subst (λ (k : ℕ). SameTable k (scaled rest) (scaled off)) (q1 ∙ at) value) after

-- a look into a level, by the level's own numbers
pub finds_named : (l : Level) (n k : ℕ) → IsLevelOf n k l → (label : Label) (r : Option RotationWord) → FindsLabel (qubits_of l) (len_of l) label r → (m : ScaledTable) → IsCircuitChannel n m → IsLabelOf n m label
    → Finds n k m r
finds_named l n k is label r finds m =
    let at : FindsLabel n (len_of l) label r = subst (λ (q : ℕ). FindsLabel q (len_of l) label r) is.qubits finds in
    let both : FindsLabel n k label r = subst (λ (j : ℕ). FindsLabel n j label r) is.len at in
    both m
