use Rattle.std.proofs.Common.{ℕ, ◌-◌, ◌^◌, ◌<◌, Bool, List, ◌∷◌, ◌∙◌, drop, ap, sym, subst, arith}
use Rattle.quick_label.specs.Spans.{AreSpan}
use Rattle.quick_label.proofs.Closed.{closed_by}
use Rattle.quick_label.proofs.SuffixWords.{letter_more}
use Rattle.quick_label.proofs.suffix.span_of.Goals as goal

pub widen-requires-clause-closed : goal.widen-requires-clause-closed
widen-requires-clause-closed c =
    closed_by c.args.word.qubits c.code.result _ c.loop-left.invariant.span.long
    (subst (λ (n : ℕ). c.code.result < 4 ^ n) c.letter.ensures.qubits c.code.ensures.below)

pub loop-left-preserved : goal.loop-left-preserved
loop-left-preserved c = record {
  left = omega arith;
  room = c.widen.auto.wider ∙ c.loop-left.invariant.room;
  span =
      subst (λ (span : List Bool). AreSpan c.args.word.qubits (drop (c.loop-left.left - 1) c.args.word.letters) span) (sym c.copy_from_slice.ensures.after)
      (subst (λ (word : List ℕ). AreSpan c.args.word.qubits word c.widen.new.wider)
      (ap (λ code. code ∷ drop c.loop-left.left c.args.word.letters) c.code.ensures.value ∙ letter_more c.args.word.letters c.loop-left.left c.letter.result.code (omega arith) c.letter.ensures.code)
      (c.widen.ensures c.args.word.qubits (drop c.loop-left.left c.args.word.letters) c.loop-left.invariant.span));
}
