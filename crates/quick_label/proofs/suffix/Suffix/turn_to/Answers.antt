use Rattle.std.proofs.Common.{◌≡◌, ◌%◌, ◌^◌, ◌≤◌, List, All, arith, length, ap, sym, ◌∙◌, subst}
use Rattle.std.proofs.lemmas.List.{take_at, with_items_is}
use Rattle.channel_rep.proofs.Squares.{codes_some}
use Rattle.channel_rep.specs.Cells.{ChannelGrid, table_of, scaled, IsReduced}
use Rattle.channel_rep.specs.Tables.{IsBuiltOf}
use Rattle.coset_label.specs.Words.{RotationWord, word_steps}
use Rattle.label_laws.specs.Totals.{column_power}
use Rattle.quick_label.specs.Classes.{IsClassRoom, AreClasses}
use Rattle.quick_label.specs.Columns.{HoldsColumns}
use Rattle.quick_label.specs.Folds.{AreFolds}
use Rattle.quick_label.specs.ParityWords.{HoldsParities}
use Rattle.quick_label.specs.Places.{ArePlacePowers}
use Rattle.quick_label.specs.Rooms.{AreBlocks}
use Rattle.quick_label.specs.Spans.{AreSpan}
use Rattle.quick_label.specs.Tables.{IsSparseTable}
use Rattle.quick_label.specs.declared.classes.Class.{Class}
use Rattle.quick_label.proofs.PackableWords.{word_sparse}
use Rattle.quick_label.proofs.SuffixFacts.{span_subspace}
use Rattle.quick_label.proofs.suffix.Suffix.turn_to.Goals as goal

pub take-requires : goal.take-requires
take-requires c =
    let inv = c.self.invariant in
    let word = c.args.word in
    let own : word.qubits ≡ c.self.inside.word.qubits = c.requires ∙ ap (λ (w : RotationWord). w.qubits) (sym c.self.view_is) in
    let span = c.span_of.new.span in
    let long : length span ≡ c.self.inside.span.len = c.span_of.ensures.span.long ∙ ap (λ k. 4 ^ k) own ∙ sym inv.span.long ∙ sym (ap length c.deref_mut.ensures.value) ∙ c.deref_mut.ensures.len in
    let read : c.deref.result.now ≡ span = c.deref.ensures.value ∙ take_at span _ _ long in
    span_subspace word.qubits word.letters c.deref.result.now (codes_some word.qubits) (subst (AreSpan word.qubits word.letters) (sym read) c.span_of.ensures.span)
    c.self.inside.blocks.size (inv.constants.blocks ∙ sym (ap (λ k. 4 ^ k) own))

pub take_within-requires-clause-blocks : goal.take_within-requires-clause-blocks
take_within-requires-clause-blocks c =
    let inv = c.self.invariant in
    let word = c.args.word in
    let n = word.qubits in
    let own : n ≡ c.self.inside.word.qubits = c.requires ∙ ap (λ (w : RotationWord). w.qubits) (sym c.self.view_is) in
    let qn : c.reduce.new.self.qubits ≡ n = c.reduce.ensures.qubits ∙ c.narrow_of_word.ensures.qubits ∙ inv.qubits ∙ sym own in
    (c.deref.result.now, subst (λ k. AreBlocks k c.deref.result.now c.take.new.self) (inv.constants.blocks ∙ ap (λ k. 4 ^ k) (sym own ∙ sym qn)) c.take.ensures.blocks)

pub take-requires-2-clause-held : goal.take-requires-2-clause-held
take-requires-2-clause-held c =
    let inv = c.self.invariant in
    let word = c.args.word in
    let n = word.qubits in
    let own : n ≡ c.self.inside.word.qubits = c.requires ∙ ap (λ (w : RotationWord). w.qubits) (sym c.self.view_is) in
    let qn : c.reduce.new.self.qubits ≡ n = c.reduce.ensures.qubits ∙ c.narrow_of_word.ensures.qubits ∙ inv.qubits ∙ sym own in
    (c.deref.result.now, subst (λ k. AreBlocks k c.deref.result.now c.take.new.self) (inv.constants.blocks ∙ ap (λ k. 4 ^ k) (sym own ∙ sym qn)) c.take.ensures.blocks)

pub take_classes-requires-clause-span : goal.take_classes-requires-clause-span
take_classes-requires-clause-span c =
    let inv = c.self.invariant in
    let word = c.args.word in
    let own : word.qubits ≡ c.self.inside.word.qubits = c.requires ∙ ap (λ (w : RotationWord). w.qubits) (sym c.self.view_is) in
    let span = c.span_of.new.span in
    let long : length span ≡ c.self.inside.span.len = c.span_of.ensures.span.long ∙ ap (λ k. 4 ^ k) own ∙ sym inv.span.long ∙ sym (ap length c.deref_mut.ensures.value) ∙ c.deref_mut.ensures.len in
    let read : c.deref-2.result.now ≡ span = c.deref-2.ensures.value ∙ take_at span _ _ long in
    (word.letters, subst (λ x. x) (λ i. AreSpan (sym c.qubits.ensures.value i) word.letters (sym read i)) c.span_of.ensures.span)

pub invariant_of-self : goal.invariant_of-self
invariant_of-self c =
    let inv = c.self.invariant in
    let word = c.args.word in
    let n = word.qubits in
    let own : n ≡ c.self.inside.word.qubits = c.requires ∙ ap (λ (w : RotationWord). w.qubits) (sym c.self.view_is) in
    let more = ap (λ k. 4 ^ k) (sym own) in
    let span = c.span_of.new.span in
    let spanned : AreSpan n word.letters span = c.span_of.ensures.span in
    let long : length span ≡ c.self.inside.span.len = spanned.long ∙ ap (λ k. 4 ^ k) own ∙ sym inv.span.long ∙ sym (ap length c.deref_mut.ensures.value) ∙ c.deref_mut.ensures.len in
    let kept = take_at span _ _ long in
    let classes = c.take_classes.new.classes in
    let classes_long : length classes ≡ c.self.inside.classes.len = c.take_classes.ensures.long ∙ c.deref_mut-3.ensures.len in
    let classes_kept = take_at classes _ _ classes_long in
    let q = c.qubits.ensures.value in
    let blocks : AreBlocks c.self.inside.blocks.size c.deref.result.now c.take.new.self = c.take.ensures.blocks in
    let steps = word_steps word.letters in
    let narrow = c.reduce.new.self in
    let made = c.narrow_of_word.new.narrow in
    let made_n : made.qubits ≡ n = c.narrow_of_word.ensures.qubits ∙ inv.qubits ∙ sym own in
    let narrow_n : narrow.qubits ≡ n = c.reduce.ensures.qubits ∙ made_n in
    let built : IsBuiltOf n steps (scaled narrow) =
    subst (λ k. IsBuiltOf k steps (scaled narrow)) made_n (c.reduce.ensures.built steps (subst (λ k. IsBuiltOf k steps (scaled made)) (sym c.narrow_of_word.ensures.qubits) c.narrow_of_word.ensures.built)) in
    let valid = c.narrow_of_word.ensures.valid in
    let read_span : c.deref.result.now ≡ span = c.deref.ensures.value ∙ kept in
    let held : AreBlocks (4 ^ n) span c.take.new.self = subst (λ x. x) (λ i. AreBlocks ((inv.constants.blocks ∙ more) i) (read_span i) c.take.new.self) blocks in
    let held_narrow : AreBlocks (4 ^ narrow.qubits) span c.take.new.self = subst (λ k. AreBlocks (4 ^ k) span c.take.new.self) (sym narrow_n) held in
    let sparse : IsSparseTable (4 ^ narrow.qubits) span (table_of narrow) =
    subst (λ k. IsSparseTable (4 ^ k) span (table_of narrow)) (sym narrow_n) (word_sparse n word.letters valid.word span spanned (scaled narrow) built) in
    let columns : HoldsColumns (4 ^ n) (table_of narrow) c.take-2.new.self =
    subst (λ k. HoldsColumns (4 ^ k) (table_of narrow) c.take-2.new.self) narrow_n (c.take-2.ensures.columns span held_narrow sparse) in
    record {
      word = valid;
      qubits = narrow_n;
      reduced = c.reduce.ensures.reduced;
      built = built;
      exponent = omega (arith, c.reduce.ensures.exponent, c.narrow_of_word.ensures.exponent);
      size = columns.as_many;
      columns = columns;
      parities = subst (λ k. HoldsParities k (table_of narrow) c.take_within.new.self) narrow_n (c.take_within.ensures span held_narrow sparse);
      span = subst (AreSpan n word.letters) (sym kept) spanned;
      blocks = subst (λ x. x) (λ i. AreBlocks ((inv.constants.blocks ∙ more) i) (c.deref.ensures.value i) c.take.new.self) blocks;
      classes = subst (AreClasses n word.letters c.take.new.self.homes) (sym classes_kept)
          (subst (λ k. AreClasses k word.letters c.take.new.self.homes classes) q
          (c.take_classes.ensures.classes word.letters (subst (λ x. x) (λ i. AreSpan (sym q i) word.letters (sym (c.deref-2.ensures.value ∙ kept) i)) spanned)));
      constants = record {
        turns = inv.constants.turns ∙ sym own;
        folds = subst (λ k. AreFolds k c.self.inside.folds) (sym own) inv.constants.folds;
        powers = subst (λ k. ArePlacePowers k c.self.inside.powers.items) (sym own) inv.constants.powers;
        top = subst (λ k. c.self.inside.top ≡ column_power k ^ 4 ^ k % 2 ^ 64) (sym own) inv.constants.top;
        blocks = c.take.ensures.size ∙ inv.constants.blocks ∙ more;
        classes = ap length classes_kept ∙ c.take_classes.ensures.long ∙ ap length c.deref_mut-3.ensures.value ∙ inv.constants.classes ∙ more;
        rooms = subst (λ (xs : List Class). All (IsClassRoom n) xs) (sym classes_kept) (subst (λ k. All (IsClassRoom k) classes) q c.take_classes.ensures.rooms);
        front = record {
          span = ap length (with_items_is c.self.inside.front.span c.span_of.new.room (c.span_of.ensures.room ∙ c.deref_mut-2.ensures.len)) ∙ c.span_of.ensures.room ∙ ap length c.deref_mut-2.ensures.value ∙ inv.constants.front.span ∙ more;
          fold_before = inv.constants.front.fold_before ∙ more;
          high_before = inv.constants.front.high_before ∙ more;
          low_before = inv.constants.front.low_before ∙ more;
          folds = inv.constants.front.folds ∙ more;
          highs = inv.constants.front.highs ∙ more;
          lows = inv.constants.front.lows ∙ more;
          numbers = inv.constants.front.numbers ∙ more;
          leads = inv.constants.front.leads ∙ more;
          places = inv.constants.front.places ∙ more;
        };
        slow = inv.constants.slow ∙ sym own;
      };
    }
