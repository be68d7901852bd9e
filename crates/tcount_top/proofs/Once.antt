-- What is printed is a function of the channel: one least word, and one rest of what is left without it.
use Rattle.std.proofs.Common.{◌≡◌, ℕ, ◌+◌, ◌*◌, ◌/◌, ◌%◌, ◌^◌, ◌<◌, false, List, [], ◌∷◌, ◌++◌, length, refl, ap, sym, ◌∙◌, subst, inl, inr, arith}
use Rattle.std.proofs.lemmas.Bool.{cases_lt}
use Rattle.std.proofs.lemmas.List.{get_or_past}
use Rattle.std.proofs.lemmas.Nat.{div-add-mod'}
use Rattle.std.proofs.Math.Nat.{mod-lt, div-lt_iff_lt-mul}
use Rattle.coset_label.specs.Packing.{four_pos}
use Rattle.ring_laws.specs.Ring.{RingLaws, power}
use Rattle.tc_ring.specs.Surds.{Surd, surds, surd_times, root2_surd}
use Rattle.tc_ring.specs.Root2.{surd_of}
use Rattle.tc_ring.specs.declared.root2.Root2.{Root2}
use Rattle.tc_circuit.specs.Circuit.{Gates, IsSmallCircuit}
use Rattle.tc_circuit.specs.Model.{Same}
use Rattle.tc_circuit.specs.declared.circuit.Gate.{Gate}
use Rattle.channel_rep.specs.Cells.{ChannelGrid, scaled, table_of, entries, cell_of, no_cell}
use Rattle.channel_rep.specs.Laws.{TablesCompare}
use Rattle.channel_rep.specs.Tables.{SurdTable, ScaledTable, SameTable, IsCircuitChannel, built, signed, stepped, by_inverse_rotation}
use Rattle.coset_label.specs.Cosets.{SameCoset, HasColumnsOf}
use Rattle.coset_label.specs.Laws.{TablesAreClasses}
use Rattle.tc_bridge.specs.Block.{as_gates, undone, word_gates}
use Rattle.tc_bridge.specs.Laws.{BuiltTablesAreChannels, CircuitsHaveChannels, OneChannelWhereSame}
use Rattle.tc_bridge.specs.Steps.{steps_of}
use Rattle.clifford_rest.specs.Rest.{sent_to, rest_of}
use Rattle.clifford_rest.specs.Sweep.{undo_list}
use Rattle.circuit_writer.specs.Shown.{shown}
use Rattle.level_laws.specs.Levels.{IsInCoset, IsLeastWord, removed}
use Rattle.level_laws.specs.Laws.{LeastWordsAreUnique, LettersComeOff}
use Rattle.meet_laws.specs.Laws.{RestsArePermutations}
use Rattle.tcount_top.specs.Printed.{IsLeft, IsRestThenWord, IsPrinted, word_texts}
use Rattle.tcount_top.proofs.Printing.{left_permutes}

-- ---- tables of the same entries
-- lie in one coset
columns_same : (n : ℕ) (a b : ScaledTable) → SameTable n a b → HasColumnsOf n b a
unfolding signed
columns_same n a b h = λ column l. (column, l, record { negative = false; cells = λ row below. h row column below l })

coset_of_same : TablesCompare → (n : ℕ) (a b : ScaledTable) → SameTable n a b → SameCoset n a b
coset_of_same tables n a b h = record { there = columns_same n a b h; back = columns_same n b a ((tables n).symmetric a b h) }

-- so they have one least word
pub least_of_same : TablesCompare → TablesAreClasses → (n : ℕ) (a b : ScaledTable) → SameTable n a b → (w : List ℕ) → IsLeastWord n a w → IsLeastWord n b w
least_of_same tables classes n a b h w least = record {
  member = to a b h w least.member;
  shortest = λ v hv. least.shortest v (to b a back v hv);
  first = λ v hv long earlier. least.first v (to b a back v hv) long earlier;
}
  where
    back : SameTable n b a
    back = (tables n).symmetric a b h

    to : (c d : ScaledTable) → SameTable n c d → (v : List ℕ) → IsInCoset n c v → IsInCoset n d v
    to c d same v is = record { word = is.word; coset = (classes n).transitive d c _ ((classes n).symmetric c d (coset_of_same tables n c d same)) is.coset }

-- and the same is left of them without a word
left_of_same : LettersComeOff → (n : ℕ) (a b : ScaledTable) → SameTable n a b → (w : List ℕ) → SameTable n (removed n a w) (removed n b w)
left_of_same off n a b h [] = h
left_of_same off n a b h (p ∷ w) =
    let s = by_inverse_rotation p in left_of_same off n (stepped n s a) (stepped n s b) (off n b a (stepped n s a) [] p h refl (λ row column low below. refl)) w

-- ---- grids of the same entries
-- with no power of √2 their numbers are the same
plain : RingLaws surds → (x : Surd) → surd_times (power surds root2_surd 0) x ≡ x
unfolding power
plain laws x = laws.mul_comm _ x ∙ laws.mul-one x

same_entry : RingLaws surds → (x y : Surd) (j k : ℕ) → j ≡ 0 → k ≡ 0 → surd_times (power surds root2_surd j) x ≡ surd_times (power surds root2_surd k) y → x ≡ y
same_entry laws x y j k e f h =
    sym (ap (λ (i : ℕ). surd_times (power surds root2_surd i) x) e ∙ plain laws x) ∙ h ∙ ap (λ (i : ℕ). surd_times (power surds root2_surd i) y) f ∙ plain laws y

-- a place is in a row
row_below : (size place : ℕ) → 0 < size → place < size * size → place / size < size
row_below size place some l = (div-lt_iff_lt-mul some).1 l

-- the cells of two grids of one size whose entries are the same
same_cells : (size : ℕ) (xs ys : List Root2) → 0 < size → length xs ≡ size * size → length ys ≡ size * size
    → ((row column : ℕ) → row < size → column < size → entries size xs row column ≡ entries size ys row column) → (place : ℕ) → cell_of xs place ≡ cell_of ys place
same_cells size xs ys some e f h place = elim (cases_lt place (size * size)) [
  | inl l ↦
      let at : place / size * size + place % size ≡ place = div-add-mod' place size in
      sym (ap (cell_of xs) at) ∙ h (place / size) (place % size) (row_below size place some l) (mod-lt place some) ∙ ap (cell_of ys) at
  | inr l ↦ ap surd_of (get_or_past xs place no_cell (omega (arith, e, l)) ∙ sym (get_or_past ys place no_cell (omega (arith, f, l))))
]

-- the circuit of a table
abbrev rest_from : ℕ → SurdTable → List Gate
rest_from n t = as_gates (undone (undo_list n (sent_to n t) n))

module _ (tables : TablesCompare) (ring : RingLaws surds) (permutes : RestsArePermutations) (n : ℕ) (a b : ScaledTable) (ha : IsCircuitChannel n a) (hb : IsCircuitChannel n b) (same : SameTable n a b) (w : List ℕ) (wa : IsLeastWord n a w) (wb : IsLeastWord n b w)
    (x y : ChannelGrid) (left_x : IsLeft n a w x) (left_y : IsLeft n b w y) (off : LettersComeOff) where
  -- what is left of tables of the same entries has one table
  same_entries : (row column : ℕ) → row < 4 ^ n → column < 4 ^ n → table_of x row column ≡ table_of y row column
  same_entries row column l m =
      same_entry ring _ _ y.exponent x.exponent (left_permutes n b hb w wb y left_y permutes).exponent (left_permutes n a ha w wa x left_x permutes).exponent
      ((tables n).transitive (scaled x) (removed n a w) (scaled y) left_x.table
      ((tables n).transitive (removed n a w) (removed n b w) (scaled y) (left_of_same off n a b same w) ((tables n).symmetric (scaled y) (removed n b w) left_y.table)) row column l m)

  of_n : (z : ChannelGrid) → z.qubits ≡ n → table_of z ≡ entries (4 ^ n) z.cells
  of_n z e = ap (λ (k : ℕ). entries (4 ^ k) z.cells) e

  same_place : (place : ℕ) → cell_of x.cells place ≡ cell_of y.cells place
  same_place =
      let whole : (z : ChannelGrid) → z.qubits ≡ n → length z.cells ≡ 4 ^ z.qubits * 4 ^ z.qubits → length z.cells ≡ 4 ^ n * 4 ^ n = λ z e h. h ∙ ap (λ (k : ℕ). 4 ^ k * 4 ^ k) e in
      same_cells (4 ^ n) x.cells y.cells (four_pos n) (whole x left_x.qubits left_x.grid.whole) (whole y left_y.qubits left_y.grid.whole)
      (λ row column l m. (λ i. sym (of_n x left_x.qubits) i row column) ∙ same_entries row column l m ∙ (λ i. of_n y left_y.qubits i row column))

  same_tables : table_of x ≡ table_of y
  same_tables = of_n x left_x.qubits ∙ (λ i row column. same_place (row * 4 ^ n + column) i) ∙ sym (of_n y left_y.qubits)

  -- so it has one rest
  pub same_rest : rest_of x ≡ rest_of y
  same_rest = ap (λ (k : ℕ). rest_from k (table_of x)) (left_x.qubits ∙ sym left_y.qubits) ∙ ap (rest_from y.qubits) same_tables

-- ---- one print
-- the laws that it rests on
pub record Laws : Type 0 where
  pub tables : TablesCompare
  pub built : BuiltTablesAreChannels
  pub ring : RingLaws surds
  pub classes : TablesAreClasses
  pub have : CircuitsHaveChannels
  pub one : OneChannelWhereSame
  pub unique : LeastWordsAreUnique
  pub off : LettersComeOff
  pub permutes : RestsArePermutations

-- circuits of one channel have one word and one printed circuit
pub same_print : Laws → (n : ℕ) (c d : List Gate) → IsSmallCircuit (record { qubits = n; gates = c }) → IsSmallCircuit (record { qubits = n; gates = d }) → Same n c d → (v w : List ℕ) (x y : List Gate)
    → IsRestThenWord (record { qubits = n; gates = c }) v x → IsRestThenWord (record { qubits = n; gates = d }) w y → shown n x (word_texts n v) ≡ shown n y (word_texts n w)
same_print laws n c d small_c small_d same v w x y hx hy =
    let one : SameTable n (built n (steps_of c)) (built n (steps_of d)) =
    (laws.one n small_c.some small_c.few c d small_c.fit small_d.fit (built n (steps_of c)) (built n (steps_of d)) (laws.have n small_c.some small_c.few c small_c.fit) (laws.have n small_d.some small_d.few d small_d.fit)).1 same in
    let tables : SameTable n hx.channel hy.channel =
    (laws.tables n).transitive hx.channel (built n (steps_of c)) hy.channel hx.built
    ((laws.tables n).transitive (built n (steps_of c)) (built n (steps_of d)) hy.channel one ((laws.tables n).symmetric hy.channel (built n (steps_of d)) hy.built)) in
    let words : v ≡ w = laws.unique n hy.channel v w (least_of_same laws.tables laws.classes n hx.channel hy.channel tables v hx.least) hy.least in
    let channel_x : IsCircuitChannel n hx.channel = laws.built n c small_c.fit hx.channel hx.built in
    let channel_y : IsCircuitChannel n hy.channel = laws.built n d small_d.fit hy.channel hy.built in
    let least_y : IsLeastWord n hy.channel v = subst (IsLeastWord n hy.channel) (sym words) hy.least in
    let left_y : IsLeft n hy.channel v hy.left = subst (λ (u : List ℕ). IsLeft n hy.channel u hy.left) (sym words) hy.is_left in
    let rests : rest_of hx.left ≡ rest_of hy.left = same_rest laws.tables laws.ring laws.permutes n hx.channel hy.channel channel_x channel_y tables v hx.least least_y hx.left hy.left hx.is_left left_y laws.off in
    let gates : x ≡ y = hx.gates ∙ ap (λ (l : List Gate). l ++ word_gates n v) rests ∙ ap (λ (u : List ℕ). rest_of hy.left ++ word_gates n u) words ∙ sym hy.gates in
    ap (λ (l : List Gate). shown n l (word_texts n v)) gates ∙ ap (λ (u : List ℕ). shown n y (word_texts n u)) words

-- and one list of bytes
pub printed_once : Laws → (c d : Gates) → IsSmallCircuit c → IsSmallCircuit d → c.qubits ≡ d.qubits → Same c.qubits c.gates d.gates → (a b : List ℕ) → IsPrinted c a → IsPrinted d b → a ≡ b
printed_once laws c d small_c small_d e same a b ha hb =
    let small : IsSmallCircuit (record { qubits = c.qubits; gates = d.gates }) = subst (λ (k : ℕ). IsSmallCircuit (record { qubits = k; gates = d.gates })) (sym e) small_d in
    let hd : IsPrinted (record { qubits = c.qubits; gates = d.gates }) b = subst (λ (k : ℕ). IsPrinted (record { qubits = k; gates = d.gates }) b) (sym e) hb in
    ha.shows ∙ same_print laws c.qubits c.gates d.gates small_c small same ha.word hd.word ha.gates hd.gates ha.is hd.is ∙ sym hd.shows
