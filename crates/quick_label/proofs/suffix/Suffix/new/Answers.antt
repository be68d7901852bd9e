use Rattle.std.proofs.Common.{◌≡◌, ◌^◌, ◌∙◌, [], ◌++◌, All, length, take, drop, ap, sym, subst}
use Rattle.std.proofs.lemmas.List.{take_at}
use Rattle.channel_rep.specs.Cells.{ChannelGrid, table_of, scaled}
use Rattle.channel_rep.specs.Tables.{IsBuiltOf}
use Rattle.channel_rep.proofs.Squares.{codes_some}
use Rattle.quick_label.specs.Classes.{IsClassRoom, AreClasses}
use Rattle.quick_label.specs.Columns.{HoldsColumns}
use Rattle.quick_label.specs.Letters.{HeldTurns}
use Rattle.quick_label.specs.ParityWords.{HoldsParities}
use Rattle.quick_label.specs.Rooms.{HeldBlocks, AreBlocks}
use Rattle.quick_label.specs.Spans.{AreSpan}
use Rattle.quick_label.specs.Tables.{IsSparseTable}
use Rattle.quick_label.proofs.PackableWords.{word_sparse}
use Rattle.quick_label.proofs.SuffixFacts.{span_subspace}
use Rattle.quick_label.proofs.SuffixStarts.{suffix_starts, no_letters}
use Rattle.quick_label.proofs.suffix.Suffix.new.Goals as goal

pub take-requires : goal.take-requires
take-requires c =
    let empty : length c.empty_span.new.span ≡ 4 ^ c.args.n = c.empty_span.auto.span ∙ c.deref_mut.ensures.len ∙ c.in_ok-span.ensures.len ∙ c.codes.ensures.value in
    let read : c.deref.result.now ≡ c.empty_span.new.span = c.deref.ensures.value ∙ take_at c.empty_span.new.span _ _ (c.empty_span.auto.span ∙ c.deref_mut.ensures.len) in
    span_subspace c.args.n [] c.deref.result.now (codes_some c.args.n) (subst (AreSpan c.args.n []) (sym read) (c.empty_span.ensures c.args.n (c.deref_mut.ensures.len ∙ c.in_ok-span.ensures.len ∙ c.codes.ensures.value)))
    _ c.in_ok-blocks.ensures

pub take_within-requires-clause-blocks : goal.take_within-requires-clause-blocks
take_within-requires-clause-blocks c =
    (c.deref.result.now, subst (λ k. AreBlocks k c.deref.result.now c.take.new.self) (c.in_ok-blocks.ensures ∙ sym (ap (λ k. 4 ^ k) c.in_ok-narrow.ensures.qubits)) c.take.ensures.blocks)

pub take-requires-2-clause-held : goal.take-requires-2-clause-held
take-requires-2-clause-held c =
    (c.deref.result.now, subst (λ k. AreBlocks k c.deref.result.now c.take.new.self) (c.in_ok-blocks.ensures ∙ sym (ap (λ k. 4 ^ k) c.in_ok-narrow.ensures.qubits)) c.take.ensures.blocks)

pub take_classes-requires-clause-span : goal.take_classes-requires-clause-span
take_classes-requires-clause-span c =
    let read : c.deref-2.result.now ≡ c.empty_span.new.span = c.deref-2.ensures.value ∙ take_at c.empty_span.new.span _ _ (c.empty_span.auto.span ∙ c.deref_mut.ensures.len) in
    ([], subst (AreSpan c.args.n []) (sym read) (c.empty_span.ensures c.args.n (c.deref_mut.ensures.len ∙ c.in_ok-span.ensures.len ∙ c.codes.ensures.value)))

pub invariant_of-result-6 : goal.invariant_of-result-6
invariant_of-result-6 c = suffix_starts c.args.n c.requires.some c.requires.few _ (
    let narrow = c.in_ok-narrow.narrow in
    let q = c.in_ok-narrow.ensures.qubits in
    let held : AreBlocks (4 ^ narrow.qubits) c.deref.result.now c.take.new.self =
    subst (λ k. AreBlocks k c.deref.result.now c.take.new.self) (c.in_ok-blocks.ensures ∙ sym (ap (λ k. 4 ^ k) q)) c.take.ensures.blocks in
    let sparse : IsSparseTable (4 ^ narrow.qubits) c.deref.result.now (table_of narrow) =
    subst (λ k. IsSparseTable (4 ^ k) c.deref.result.now (table_of narrow)) (sym q)
    (word_sparse c.args.n [] (no_letters c.args.n) c.deref.result.now
    (subst (AreSpan c.args.n []) (sym (c.deref.ensures.value ∙ take_at c.empty_span.new.span _ _ (c.empty_span.auto.span ∙ c.deref_mut.ensures.len)))
    (c.empty_span.ensures c.args.n (c.deref_mut.ensures.len ∙ c.in_ok-span.ensures.len ∙ c.codes.ensures.value)))
    (scaled narrow) c.in_ok-narrow.ensures.built) in
    record {
      word = c.empty.ensures;
      qubits = ap (λ (g : ChannelGrid). g.qubits) c.narrow.view_is ∙ q;
      exponent = ap (λ (g : ChannelGrid). g.exponent) c.narrow.view_is ∙ c.in_ok-narrow.ensures.exponent;
      built = subst (λ (g : ChannelGrid). IsBuiltOf c.args.n [] (scaled g)) (sym c.narrow.view_is) c.in_ok-narrow.ensures.built;
      columns =
          subst (HoldsColumns _ _) (sym c.columns.view_is)
          (subst (λ (g : ChannelGrid). HoldsColumns (4 ^ g.qubits) (table_of g) c.take-2.new.self) (sym c.narrow.view_is)
          (c.take-2.ensures.columns c.deref.result.now held sparse));
      parities =
          subst (HoldsParities _ _) (sym c.parities.view_is)
          (subst (λ (g : ChannelGrid). HoldsParities g.qubits (table_of g) c.take_within.new.self) (sym c.narrow.view_is)
          (c.take_within.ensures c.deref.result.now held sparse));
      span =
          subst (AreSpan c.args.n []) (sym (take_at c.empty_span.new.span _ _ (c.empty_span.auto.span ∙ c.deref_mut.ensures.len)))
          (c.empty_span.ensures c.args.n (c.deref_mut.ensures.len ∙ c.in_ok-span.ensures.len ∙ c.codes.ensures.value));
      blocks = subst (λ x. x) (λ i. AreBlocks (c.in_ok-blocks.ensures i) (c.deref.ensures.value i) (sym c.blocks-2.view_is i)) c.take.ensures.blocks;
      classes =
          subst (λ (b : HeldBlocks). AreClasses c.args.n [] b.homes (take c.in_ok-classes.classes.len (c.take_classes.new.classes ++ drop (length c.take_classes.new.classes) c.in_ok-classes.classes.items))) (sym c.blocks-2.view_is)
          (subst (AreClasses c.args.n [] c.take.new.self.homes) (sym (take_at c.take_classes.new.classes (drop (length c.take_classes.new.classes) c.in_ok-classes.classes.items) _ (c.take_classes.ensures.long ∙ c.deref_mut-2.ensures.len)))
          (c.take_classes.ensures.classes []
          (subst (AreSpan c.args.n []) (sym (c.deref-2.ensures.value ∙ take_at c.empty_span.new.span _ _ (c.empty_span.auto.span ∙ c.deref_mut.ensures.len)))
          (c.empty_span.ensures c.args.n (c.deref_mut.ensures.len ∙ c.in_ok-span.ensures.len ∙ c.codes.ensures.value)))));
      constants = record {
        turns = ap (λ (t : HeldTurns). t.qubits) c.turns.view_is ∙ c.in_ok-turns.ensures;
        folds = c.in_ok-folds.ensures;
        powers = c.in_ok-place_powers.ensures;
        top = c.top_power.ensures;
        blocks = ap (λ (b : HeldBlocks). b.size) c.blocks-2.view_is ∙ c.take.ensures.size ∙ c.in_ok-blocks.ensures;
        classes = ap length (take_at c.take_classes.new.classes (drop (length c.take_classes.new.classes) c.in_ok-classes.classes.items) _ (c.take_classes.ensures.long ∙ c.deref_mut-2.ensures.len)) ∙ c.take_classes.ensures.long ∙ ap length c.deref_mut-2.ensures.value ∙ c.in_ok-classes.ensures.long;
        rooms = subst (All (IsClassRoom c.args.n)) (sym (take_at c.take_classes.new.classes (drop (length c.take_classes.new.classes) c.in_ok-classes.classes.items) _ (c.take_classes.ensures.long ∙ c.deref_mut-2.ensures.len))) c.take_classes.ensures.rooms;
        front = c.in_ok-new.ensures;
        slow = c.in_ok-slow.ensures.qubits;
      };
    })
