use Rattle.std.proofs.Common.{◌≡◌, ℕ, ◌^◌, ◌<◌, ◌∷◌, Bool, true, List, length, refl, ap, sym, ◌∙◌, subst, arith}
use Rattle.std.proofs.lemmas.List.{with_items_is}
use Rattle.channel_rep.proofs.Squares.{codes_some}
use Rattle.label_laws.specs.Sparse.{AreWeights}
use Rattle.quick_label.specs.Classes.{IsClass}
use Rattle.quick_label.specs.Numbers.{high_weights, low_weights}
use Rattle.quick_label.specs.Rooms.{AreBlocks, HasSmallBlocks}
use Rattle.quick_label.specs.Spans.{AreSpan}
use Rattle.quick_label.proofs.Closed.{closed_by}
use Rattle.quick_label.proofs.SuffixFacts.{span_subspace, span_widened}
use Rattle.quick_label.proofs.classes.Class.take.Goals as goal

pub widen-requires-clause-closed : goal.widen-requires-clause-closed
widen-requires-clause-closed c = closed_by c.args.n c.args.letter _ c.requires.span.1.long c.requires.letter

pub take-self-requires : goal.take-self-requires
take-self-requires c =
    let room = c.requires.room in
    let letters = c.requires.span.0 in
    let widened = span_widened c.args.n c.args.letter c.args.letter letters c.args.span.now _ c.widen.new.wider c.deref.result.now refl c.requires.span.1 refl c.widen.ensures
    (λ long. c.deref.ensures.value ∙ with_items_is c.args.self.now.span c.widen.new.wider
    (long ∙ sym room.span ∙ sym (ap length c.deref_mut.ensures.value) ∙ c.deref_mut.ensures.len)) in
    span_subspace c.args.n (c.args.letter ∷ letters) c.deref.result.now (codes_some c.args.n) widened c.args.self.now.blocks.size room.blocks

pub returns-clause-class : goal.returns-clause-class
returns-clause-class c letters are =
    let n = c.args.n in
    let room = c.requires.room in
    let span = c.deref.result.now in
    let read = c.deref.ensures.value in
    let widened : AreSpan n (c.args.letter ∷ letters) span = span_widened n c.args.letter c.args.letter letters c.args.span.now _ c.widen.new.wider span refl are refl c.widen.ensures
    (λ long. read ∙ with_items_is c.args.self.now.span c.widen.new.wider
    (long ∙ sym room.span ∙ sym (ap length c.deref_mut.ensures.value) ∙ c.deref_mut.ensures.len)) in
    let blocks = c.take-self.new.self in
    let size = c.take-self.ensures.size in
    let held : AreBlocks c.args.self.now.blocks.size span blocks = c.take-self.ensures.blocks in
    let same : blocks.size ≡ 4 ^ n = size ∙ room.blocks in
    let own : AreBlocks blocks.size span blocks = subst (λ k. AreBlocks k span blocks) (sym size) held in
    record {
      span = subst (AreSpan n (c.args.letter ∷ letters)) read widened;
      blocks = subst (λ x. x) (λ i. AreBlocks (same i) (read i) blocks) own;
      small = λ is. subst (λ x. x) (λ i. HasSmallBlocks (room.blocks i) (read i)) (c.take-self.ensures.small is);
      high = subst (λ x. x) (λ i. AreWeights (same i) (high_weights (same i) (read i)) c.take_high.new.self.wholes c.take_high.new.self.parts) (c.take_high.ensures.are span own);
      low = subst (λ x. x) (λ i. AreWeights (same i) (low_weights (same i) (read i)) c.take_low.new.self.wholes c.take_low.new.self.parts) (c.take_low.ensures.are span own);
    }
