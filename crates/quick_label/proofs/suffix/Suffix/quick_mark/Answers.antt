use Rattle.std.proofs.Common.{◌≡◌, ℕ, false, ◌+◌, ◌-◌, ◌*◌, ◌^◌, ◌<◌, ◌≤◌, ◌∷◌, length, slice_index, slice_index_or, refl, ap, sym, ◌∙◌, subst, arith}
use Rattle.std.specs.Prelude.{nat_lt, if◌then◌else◌}
use Rattle.std.proofs.lemmas.List.{with_items_is}
use Rattle.pauli_basis.specs.Products.{commute, anti_sign}
use Rattle.channel_rep.proofs.Squares.{codes_few}
use Rattle.channel_rep.specs.Cells.{table_of, scaled}
use Rattle.coset_label.specs.Words.{RotationWord}
use Rattle.coset_words.specs.Marks.{IsMarkOf}
use Rattle.label_laws.specs.Congruence.{IsCongruent}
use Rattle.label_laws.specs.Fronts.{halved}
use Rattle.label_laws.specs.Totals.{column_power, tag_from}
use Rattle.quick_label.specs.Classes.{IsClass}
use Rattle.quick_label.specs.Columns.{HoldsColumns}
use Rattle.quick_label.specs.FrontRooms.{IsFrontRoom, AreFrontSums, AreHalves, AreLedBy}
use Rattle.quick_label.specs.Places.{AreColumnNumbers, AreLeadRows, ArePlaces, ArePlacePowers, TellSigns}
use Rattle.quick_label.specs.Rooms.{AreBlocks, HasSmallBlocks}
use Rattle.quick_label.specs.Weights.{IsLetterOf}
use Rattle.quick_label.proofs.LetterClasses.{class_of_letter}
use Rattle.quick_label.proofs.QuickMarks.{least_exponent, mark_is}
use Rattle.quick_label.proofs.SuffixFacts.{letter_rows, divisions_fit}
use Rattle.quick_label.proofs.suffix.Suffix.quick_mark.Goals as goal

pub overflow_sub-exponent : goal.overflow_sub-exponent
overflow_sub-exponent c =
    let inv = c.self.invariant in
    let n = c.self.inside.word.qubits in
    let own : c.args.letter.qubits ≡ n = c.requires.same ∙ ap (λ (w : RotationWord). w.qubits) (sym c.self.view_is) in
    let code = c.code-p.ensures.value in
    let lp : c.args.letter.code < 4 ^ n = subst (λ k. c.args.letter.code < 4 ^ k) own (subst (λ k. k < 4 ^ c.args.letter.qubits) code c.code-p.ensures.below) in
    let count = c.divisions-divisions.ensures n false (table_of c.self.inside.narrow) inv.parities (letter_rows commute n _ c.args.letter.code c.code-p.result _ inv.constants.turns code c.commuting-commuting.ensures.value) in
    let low = divisions_fit inv c.args.letter.code lp c.requires.other c.divisions-divisions.result count in
    subst (λ k. c.divisions-divisions.result ≤ k + 1) (sym c.exponent.ensures.value) low

pub placed_sum-sum-requires-clause-below : goal.placed_sum-sum-requires-clause-below
placed_sum-sum-requires-clause-below c = λ k d l.
    let inv = c.self.invariant in
    let n = c.self.inside.word.qubits in
    let f = c.weigh_front.new.front in
    let room : IsFrontRoom n f = subst (λ j. IsFrontRoom j f) c.qubits.ensures.value c.weigh_front.ensures.room in
    let long : length c.find_places.new.places ≡ f.places.len = c.find_places.auto.places ∙ c.deref_mut-3.ensures.len in
    let items : c.deref-8.result.now ≡ c.find_places.new.places = c.deref-8.ensures.value ∙ with_items_is f.places c.find_places.new.places long in
    let below = c.find_places.ensures.below k d (subst (λ p. k < length p) items l) in
    let size : length c.find_places.new.places ≡ length c.deref-9.result.now =
    c.find_places.auto.places ∙ ap length c.deref_mut-3.ensures.value ∙ room.places ∙ sym inv.constants.powers.long ∙ sym (ap length c.deref-9.ensures.value) in
    subst (λ p. slice_index_or p k d < length c.deref-9.result.now) (sym items) (subst (λ j. slice_index_or c.find_places.new.places k d < j) size below)

pub find_places-requires-clause-few : goal.find_places-requires-clause-few
find_places-requires-clause-few c =
    let f = c.weigh_front.new.front in
    let room : IsFrontRoom c.self.inside.word.qubits f = subst (λ j. IsFrontRoom j f) c.qubits.ensures.value c.weigh_front.ensures.room in
    let long : length c.deref-4.result.now ≡ 4 ^ c.self.inside.word.qubits =
    ap length (c.deref-4.ensures.value ∙ with_items_is f.numbers c.number_columns.new.numbers (c.number_columns.ensures.long ∙ c.deref_mut.ensures.len))
    ∙ c.number_columns.ensures.long ∙ ap length c.deref_mut.ensures.value ∙ room.numbers in
    omega (arith, codes_few c.self.inside.word.qubits c.self.invariant.word.few)

pub returns-clause-mark : goal.returns-clause-mark
returns-clause-mark c =
    let inv = c.self.invariant in
    let word = c.self.inside.word in
    let n = word.qubits in
    let p = c.args.letter.code in
    let d = c.divisions-divisions.result in
    let table = table_of c.self.inside.narrow in
    let own : c.args.letter.qubits ≡ n = c.requires.same ∙ ap (λ (w : RotationWord). w.qubits) (sym c.self.view_is) in
    let code = c.code-p.ensures.value in
    let lp : p < 4 ^ n = subst (λ k. p < 4 ^ k) own (subst (λ k. k < 4 ^ c.args.letter.qubits) code c.code-p.ensures.below) in
    let count = c.divisions-divisions.ensures n false table inv.parities (letter_rows commute n _ p c.code-p.result _ inv.constants.turns code c.commuting-commuting.ensures.value) in
    let q = c.qubits.ensures.value in
    let f = c.weigh_front.new.front in
    let room : IsFrontRoom n f = subst (λ j. IsFrontRoom j f) q c.weigh_front.ensures.room in
    let class = c.index-class.result.now in
    let span = class.span.items in
    let its : IsClass n (p ∷ word.letters) class =
    class_of_letter n word.letters c.self.inside.span.items c.self.inside.blocks c.self.inside.classes.items p c.code-p.result c.home.result class inv.span inv.blocks inv.classes
    inv.constants.classes code (subst (λ k. k < 4 ^ n) (sym code) lp) c.home.ensures.value (subst (λ k. c.home.result < k) inv.constants.blocks c.home.ensures.below) c.index-class.ensures in
    let few_rows : HasSmallBlocks (4 ^ n) span = its.small c.if-not-class.false in
    let letter : IsLetterOf c.qubits.result c.code-p.result c.commuting-commuting.result.now c.negative-negative.result.now =
    record {
      commutes = letter_rows commute c.qubits.result _ c.code-p.result c.code-p.result _ (inv.constants.turns ∙ sym q) refl c.commuting-commuting.ensures.value;
      signs = letter_rows anti_sign c.qubits.result _ c.code-p.result c.code-p.result _ (inv.constants.turns ∙ sym q) refl c.negative-negative.ensures.value;
    } in
    let weighed_sums = c.weigh_front.ensures.sums table (p ∷ word.letters) letter (subst (λ k. HoldsColumns (4 ^ k) table c.self.inside.columns) (sym q) inv.columns)
    (subst (λ k. IsClass k (p ∷ word.letters) class) (sym q) its) in
    let sums : AreFrontSums n p d span table f.folds.items f.highs.items f.lows.items = subst (λ x. x) (λ i. AreFrontSums (q i) (code i) d span table f.folds.items f.highs.items f.lows.items) weighed_sums in
    let numbers = c.number_columns.new.numbers in
    let leads = c.find_leads.new.leads in
    let places = c.find_places.new.places in
    let size : length c.deref_mut.result.now ≡ 4 ^ n = ap length c.deref_mut.ensures.value ∙ room.numbers in
    let numbers_items = with_items_is f.numbers numbers (c.number_columns.ensures.long ∙ c.deref_mut.ensures.len) in
    let leads_items = with_items_is f.leads leads (c.find_leads.auto.leads ∙ c.deref_mut-2.ensures.len) in
    let places_items = with_items_is f.places places (c.find_places.auto.places ∙ c.deref_mut-3.ensures.len) in
    let numbers_led : c.deref-3.result.now ≡ numbers = c.deref-3.ensures.value ∙ numbers_items in
    let numbers_placed : c.deref-4.result.now ≡ numbers = c.deref-4.ensures.value ∙ numbers_items in
    let numbers_summed : c.deref-7.result.now ≡ numbers = c.deref-7.ensures.value ∙ numbers_items in
    let leads_placed : c.deref-5.result.now ≡ leads = c.deref-5.ensures.value ∙ leads_items in
    let places_summed : c.deref-8.result.now ≡ places = c.deref-8.ensures.value ∙ places_items in
    let low = subst (λ k. k + 1 - d ≤ (if nat_lt 0 d then 5 else 6)) c.exponent.ensures.value
    (subst (λ k. c.exponent.result + 1 - d ≤ k) c.most_exponent_behind.ensures c.if-exponent-most_exponent_behind.false) in
    let led : AreLedBy (4 ^ n) span numbers leads =
    subst (λ x. x) (λ i. AreLedBy (its.blocks.long i) span (numbers_led i) leads)
    (c.find_leads.ensures.leads span (subst (λ k. AreBlocks k span class.blocks) (sym its.blocks.long) its.blocks) c.if-not-find_leads.false) in
    subst (λ (w : RotationWord). IsMarkOf w.qubits (p ∷ w.letters) (record { exponent = c.exponent.result + 1 - d; tag = c.tag_of_sum-tag.result })) c.self.view_is
    (mark_is n inv.word.some inv.word.few word.letters p ((lp, c.requires.other), inv.word.word) (scaled c.self.inside.narrow) inv.built
    (least_exponent n c.self.inside.narrow inv.qubits inv.reduced) d count span its.span low few_rows
    f.folds.items f.highs.items f.lows.items sums numbers
    (λ x y z halves column l. c.number_columns.ensures.numbers x y z
    (subst (λ t. t) (λ i. AreHalves (sym size i) (sym c.deref.ensures.value i) (sym c.deref-2.ensures.value i) (nat_lt 0 d) x y z) halves) column (subst (λ k. column < k) (sym size) l))
    leads led places
    (λ m packable are lead. c.find_places.ensures.places n span m (ap length numbers_placed ∙ c.number_columns.ensures.long ∙ size) packable
    (subst (AreColumnNumbers n span m) (sym numbers_placed) are) (subst (AreLeadRows n m) (sym leads_placed) lead))
    c.placed_sum-sum.result
    (λ m z signs placed folds. c.placed_sum-sum.ensures n m z (ap length c.deref-6.ensures.value ∙ room.folds) (subst (ArePlacePowers n) (sym c.deref-9.ensures.value) inv.constants.powers)
    (subst (TellSigns n m) (sym numbers_summed) signs) (subst (ArePlaces n m) (sym places_summed) placed)
    (subst (λ l. (column : ℕ) → column < 4 ^ n → IsCongruent (2 ^ 64) (z column) (slice_index l column)) (sym c.deref-6.ensures.value) folds))
    _ (ap (λ k. k + 1 - d) c.exponent.ensures.value)
    (c.tag_of_sum-tag.ensures (column_power n ^ 4 ^ n) d inv.constants.top refl
    ∙ ap (λ k. tag_from ((k + 1 - d) * column_power n ^ 4 ^ n + halved d c.placed_sum-sum.result)) c.exponent.ensures.value))
