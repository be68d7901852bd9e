use Rattle.std.proofs.Common.{ℕ, List, ◌-◌, ◌∙◌, drop, sym, subst, arith}
use Rattle.channel_rep.specs.Cells.{scaled}
use Rattle.channel_rep.specs.Tables.{Step, IsBuiltOf}
use Rattle.coset_label.specs.Words.{word_steps}
use Rattle.coset_label.proofs.WordSteps.{steps_more}
use Rattle.coset_label.proofs.scratch.narrow_of_word.Goals as goal

pub loop-left-preserved : goal.loop-left-preserved
loop-left-preserved c = record {
  qubits = c.left_rotation.ensures.qubits ∙ c.loop-left.invariant.qubits;
  exponent = omega arith;
  built =
      subst (λ (n : ℕ). IsBuiltOf n (word_steps (drop (c.loop-left.left - 1) c.args.word.letters)) (scaled c.left_rotation.new.self)) c.loop-left.invariant.qubits
      (subst (λ (steps : List Step). IsBuiltOf c.loop-left.narrow.qubits steps (scaled c.left_rotation.new.self)) (steps_more c.args.word.letters c.loop-left.left c.letter.result.code (omega arith) c.letter.ensures.code)
      (c.left_rotation.ensures.built (word_steps (drop c.loop-left.left c.args.word.letters))
      (subst (λ (n : ℕ). IsBuiltOf n (word_steps (drop c.loop-left.left c.args.word.letters)) (scaled c.loop-left.narrow)) (sym c.loop-left.invariant.qubits) c.loop-left.invariant.built)));
}
