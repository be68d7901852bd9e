-- The target without the first letters of a word, and without one letter more.
use Rattle.std.proofs.Common.{◌≡◌, ◌≢◌, ℕ, true, ◌+◌, ◌-◌, ◌^◌, ◌<◌, ◌≤◌, List, [], ◌∷◌, ◌++◌, All, length, length-append, length-drop, length-set, length-take, take, drop, Some, slice_get, get_or, set, refl, ap, sym, ◌∙◌, subst, inl, inr, arith}
use Rattle.std.proofs.Math.Seq.{take-length}
use Rattle.std.proofs.lemmas.List.{get_or-set_same, get_or-set_other, get_or_read, take_more, take-append-le, take-append-drop}
use Rattle.std.proofs.lemmas.Option.{get_or_from_slice_get, slice_get_within}
use Rattle.std.proofs.lemmas.Bool.{cases_eq}
use Rattle.ring_laws.specs.Matrix.{product, Agree}
use Rattle.tc_ring.specs.Surds.{surds}
use Rattle.channel_rep.specs.Cells.{ChannelGrid, scaled, table_of, IsReduced}
use Rattle.channel_rep.specs.Tables.{ScaledTable, rotation_table, SameTable, IsCircuitChannel}
use Rattle.channel_rep.specs.Words.{IsWord}
use Rattle.channel_rep.proofs.Built.{same_table_refl}
use Rattle.coset_label.specs.Words.{RotationWord, IsShortWord, most_letters}
use Rattle.level_laws.specs.Levels.{removed}
use Rattle.quick_label.specs.Letters.{HeldTurns}
use Rattle.meet_middle.specs.Remainders.{IsLeastExponentOf}
use Rattle.meet_middle.specs.Trails.{HeldTrail, no_grid, without, IsTrail, IsRest, IsPast, HasPast}
use Rattle.meet_middle.proofs.Passing.{least_of_same}
use Rattle.meet_middle.proofs.Resting.{rest_circuit, one_letter_off, letter_off}

-- what is left of the target without a word
pub record IsKept (n : ℕ) (target : ScaledTable) (word : List ℕ) (kept : ChannelGrid) : Type 0 where
  pub qubits : kept.qubits ≡ n
  pub circuit : IsCircuitChannel n (scaled kept)
  pub same : SameTable n (scaled kept) (removed n target word)

module _ (rests : List ChannelGrid) (word : RotationWord) (rest : ChannelGrid) (turns : HeldTurns) (is : IsTrail rests word rest turns) (good : IsWord word.qubits word.letters) (short : length word.letters ≤ most_letters word.qubits) where
  -- without the whole word
  pub kept_last : IsKept word.qubits (scaled (without rests 0)) word.letters (without rests (length word.letters))
  kept_last =
      let n = word.qubits in
      let kept = without rests (length word.letters) in
      let target = scaled (without rests 0) in
      let same : SameTable n (scaled kept) (removed n target word.letters) =
      subst (λ (w : List ℕ). SameTable n (scaled kept) (removed n target w)) (take-length word.letters) (is.kept (length word.letters) (omega arith)) in
      record {
        qubits = is.qubits (length word.letters) (omega (arith, is.long));
        circuit = rest_circuit n is.some is.few (scaled kept) target word.letters good same is.circuit;
        same = same;
      }

-- one letter more, by the least exponent alone
pub past_one : (n left p e : ℕ) (target : ScaledTable) (word : List ℕ) (kept : ChannelGrid) → IsKept n target word kept → IsLeastExponentOf kept.qubits (removed kept.qubits (scaled kept) (p ∷ [])) e → left < e
    → IsPast n target (word ++ p ∷ []) left
past_one n left p e target word kept is least past =
    let here : IsLeastExponentOf n (removed n (scaled kept) (p ∷ [])) e = subst (λ q. IsLeastExponentOf q (removed q (scaled kept) (p ∷ [])) e) is.qubits least in
    record { exponent = e; least = least_of_same n _ _ e (one_letter_off n (scaled kept) target word p is.same) here; past = past }

-- one letter more, taken off a copy of what is kept, which is then brought to the least exponent
pub rest_one : (n p : ℕ) (target : ScaledTable) (word : List ℕ) (kept copied off rest : ChannelGrid) → 0 < n → n ≤ 3 → (p < 4 ^ n) × (p ≢ 0) → IsKept n target word kept
    → copied ≡ kept → off.qubits ≡ copied.qubits → off.exponent ≡ 1 + copied.exponent
    → Agree surds (4 ^ copied.qubits) (table_of off) (product surds (4 ^ copied.qubits) (rotation_table copied.qubits true p) (table_of copied))
    → rest.qubits ≡ off.qubits → SameTable off.qubits (scaled rest) (scaled off) → IsReduced rest → IsRest n target (word ++ p ∷ []) rest
rest_one n p target word kept copied off rest some few good is same q e table r value reduced =
    let at : rest.qubits ≡ n = r ∙ (q ∙ (ap (λ (m : ChannelGrid). m.qubits) same ∙ is.qubits)) in
    record {
      qubits = at;
      reduced = reduced;
      circuit = rest_circuit n some few (scaled rest) (scaled kept) (p ∷ []) (good, tt) (letter_off n kept copied off rest p is.qubits same q e table value (scaled kept) [] (λ row column l m. refl)) is.circuit;
      same = letter_off n kept copied off rest p is.qubits same q e table value target word is.same;
    }

-- the first letters of a word that begins as another does
begins_alike : (j : ℕ) (first word : List ℕ) → first ≡ take (length first) word → j ≤ length first → take j first ≡ take j word
begins_alike j first word e l = sym (take-append-le j first (drop (length first) word) l) ∙ ap (take j) (ap (λ (x : List ℕ). x ++ drop (length first) word) e ∙ take-append-drop (length first) word)

-- the letters that stay off where the word is another one that begins with them
pub turned_back : (rests : List ChannelGrid) (word : RotationWord) (rest : ChannelGrid) (turns : HeldTurns) (other : RotationWord) → IsTrail rests word rest turns
    → other.qubits ≡ word.qubits → other.letters ≡ take (length other.letters) word.letters → IsTrail rests other rest turns
turned_back rests word rest turns other is same e =
    let first = other.letters in
    let n = word.qubits in
    let l : length first ≤ length word.letters = omega (arith, ap length e, length-take (length first) word.letters) in
    let back : IsTrail rests (record { qubits = n; letters = first }) rest turns = record {
      some = is.some;
      few = is.few;
      long = is.long;
      qubits = is.qubits;
      rest_qubits = is.rest_qubits;
      turns_qubits = is.turns_qubits;
      circuit = is.circuit;
      kept = λ j below.
          subst (λ (w : List ℕ). SameTable n (scaled (without rests j)) (removed n (scaled (without rests 0)) w)) (sym (begins_alike j first word.letters e below)) (is.kept j (omega arith));
    } in
    subst (λ (w : RotationWord). IsTrail rests w rest turns) (λ i. record { qubits = sym same i; letters = first }) back

-- one letter more off, whose rest stands at the next place
pub pushed : (rests : List ChannelGrid) (rest : ChannelGrid) (turns : HeldTurns) (n p : ℕ) (letters : List ℕ) → IsTrail rests (record { qubits = n; letters = letters }) rest turns
    → length letters < most_letters n → IsRest n (scaled (without rests 0)) (letters ++ p ∷ []) rest
    → IsTrail (set rests (length letters + 1) rest) (record { qubits = n; letters = letters ++ p ∷ [] }) rest turns
pushed rests rest turns n p letters is room new =
    let place = length letters + 1 in
    let first : without (set rests place rest) 0 ≡ without rests 0 = get_or-set_other rests place 0 rest no_grid (λ e. omega arith) in
    let there : without (set rests place rest) place ≡ rest = get_or-set_same rests place rest no_grid (omega (arith, is.long)) in
    record {
      some = is.some;
      few = is.few;
      long = length-set rests place rest ∙ is.long;
      qubits = λ j below. elim (cases_eq j place) [
        | inl e ↦ subst (λ k. (without (set rests place rest) k).qubits ≡ n) (sym e) (ap (λ (m : ChannelGrid). m.qubits) there ∙ new.qubits)
        | inr d ↦ ap (λ (m : ChannelGrid). m.qubits) (get_or-set_other rests place j rest no_grid d) ∙ is.qubits j (omega (arith, below, length-set rests place rest))
      ];
      rest_qubits = is.rest_qubits;
      turns_qubits = is.turns_qubits;
      circuit = subst (λ (m : ChannelGrid). IsCircuitChannel n (scaled m)) (sym first) is.circuit;
      kept = λ j below. subst (λ (m : ChannelGrid). SameTable n (scaled (without (set rests place rest) j)) (removed n (scaled m) (take j (letters ++ p ∷ [])))) (sym first)
          (elim (cases_eq j place) [
            | inl e ↦ (
                let whole : take j (letters ++ p ∷ []) ≡ letters ++ p ∷ [] = ap (λ k. take k (letters ++ p ∷ [])) (e ∙ sym (length-append letters (p ∷ []))) ∙ take-length (letters ++ p ∷ []) in
                let here : without (set rests place rest) j ≡ rest = ap (λ k. without (set rests place rest) k) e ∙ there in
                subst (λ (m : ChannelGrid). SameTable n (scaled m) (removed n (scaled (without rests 0)) (take j (letters ++ p ∷ [])))) (sym here)
                (subst (λ (w : List ℕ). SameTable n (scaled rest) (removed n (scaled (without rests 0)) w)) (sym whole) new.same))
            | inr d ↦ (
                let l : j ≤ length letters = omega (arith, below, d, length-append letters (p ∷ [])) in
                let here : without (set rests place rest) j ≡ without rests j = get_or-set_other rests place j rest no_grid d in
                subst (λ (m : ChannelGrid). SameTable n (scaled m) (removed n (scaled (without rests 0)) (take j (letters ++ p ∷ [])))) (sym here)
                (subst (λ (w : List ℕ). SameTable n (scaled (without rests j)) (removed n (scaled (without rests 0)) w)) (sym (take-append-le j letters (p ∷ []) l)) (is.kept j l)))
          ]);
    }

-- another rest
pub rest_replaced : (rests : List ChannelGrid) (word : RotationWord) (rest next : ChannelGrid) (turns : HeldTurns) → IsTrail rests word rest turns → next.qubits ≡ word.qubits → IsTrail rests word next turns
rest_replaced rests word rest next turns is q = record {
  some = is.some;
  few = is.few;
  long = is.long;
  qubits = is.qubits;
  rest_qubits = q;
  turns_qubits = is.turns_qubits;
  circuit = is.circuit;
  kept = is.kept;
}

-- nothing taken off yet
pub started : (rests : List ChannelGrid) (target : ChannelGrid) (turns : HeldTurns) (n : ℕ) → target.qubits ≡ n → 0 < n → n ≤ 3 → length rests ≡ most_letters n + 1 → All (λ (r : ChannelGrid). r ≡ target) rests → turns.qubits ≡ n
    → IsCircuitChannel n (scaled target) → IsTrail rests (record { qubits = n; letters = [] }) target turns
started rests target turns n q some few long all turned circuit =
    let first : without rests 0 ≡ target = all 0 no_grid (omega (arith, long)) in
    record {
      some = some;
      few = few;
      long = long;
      qubits = λ j below. ap (λ (m : ChannelGrid). m.qubits) (all j no_grid below) ∙ q;
      rest_qubits = q;
      turns_qubits = turned;
      circuit = subst (λ (m : ChannelGrid). IsCircuitChannel n (scaled m)) (sym first) circuit;
      kept = λ j below.
          let none : j ≡ 0 = omega arith in
          subst (λ k. SameTable n (scaled (without rests k)) (removed n (scaled (without rests 0)) (take k []))) (sym none) (same_table_refl n (scaled (without rests 0)));
    }

-- ---- as callers see it
module _ (rests : List ChannelGrid) (word : RotationWord) (rest : ChannelGrid) (turns : HeldTurns) (held : HeldTrail) (is : IsTrail rests word rest turns) (view : record { target = without rests 0; word = word; rest = rest } ≡ held) where
  pub held_some : 0 < held.word.qubits
  held_some = subst (λ (h : HeldTrail). 0 < h.word.qubits) view is.some

  pub held_few : held.word.qubits ≤ 3
  held_few = subst (λ (h : HeldTrail). h.word.qubits ≤ 3) view is.few

  -- what is left without the whole word
  pub held_kept : IsShortWord word → (k : ℕ) → k ≡ length word.letters → (kept : ChannelGrid) → kept ≡ get_or rests k kept → IsKept held.word.qubits (scaled held.target) held.word.letters kept
  held_kept short k long kept read =
      let at : kept ≡ without rests (length word.letters) = get_or_read rests k kept (omega (arith, long, is.long, short.short)) read no_grid ∙ ap (without rests) long in
      subst (λ (h : HeldTrail). IsKept h.word.qubits (scaled h.target) h.word.letters kept) view
      (subst (λ (m : ChannelGrid). IsKept word.qubits (scaled (without rests 0)) word.letters m) (sym at) (kept_last rests word rest turns is short.word short.short))

-- ---- words letter by letter
-- the first letters, and one more
pub take_letter : (letters : List ℕ) (i p : ℕ) → slice_get letters i ≡ Some p → take (i + 1) letters ≡ take i letters ++ p ∷ []
take_letter letters i p at = take_more letters i p (slice_get_within letters i p at) ∙ ap (λ x. take i letters ++ x ∷ []) (get_or_from_slice_get letters i p p at)

-- a part of what is left after a word's first part was taken off
pub part_past : (n left behind i p : ℕ) (target : ScaledTable) (letters first : List ℕ) → first ≡ take i letters → slice_get letters i ≡ Some p → left ≡ length letters - 1 - i + behind
    → IsPast n target (first ++ p ∷ []) left → HasPast n target letters behind
part_past n left behind i p target letters first begins at is past =
    let inside = slice_get_within letters i p at in
    let taken : first ++ p ∷ [] ≡ take (i + 1) letters = ap (λ (w : List ℕ). w ++ p ∷ []) begins ∙ sym (take_letter letters i p at) in
    let many : left ≡ length (drop (i + 1) letters) + behind = omega (arith, length-drop (i + 1) letters) in
    record {
      first = take (i + 1) letters;
      others = drop (i + 1) letters;
      parts = take-append-drop (i + 1) letters;
      past = subst (λ (k : ℕ). IsPast n target (take (i + 1) letters) k) many (subst (λ (w : List ℕ). IsPast n target w left) taken past);
    }
