use Rattle.std.proofs.Common.{refl, ap, subst, inl}
use Rattle.tcount_top.specs.declared.command.Command.{Command}
use Rattle.tcount_top.specs.Words.{texts_of, Spell, SpellText, IsLevels, IsBench}
use Rattle.tcount_top.specs.Lines.{usage_line}
use Rattle.tcount_top.proofs.Answering.{usage_answers, levels_answers, bench_answers}
use Rattle.tcount_top.proofs.top.run.Goals as goal

pub returns-in-Some-OverText-clause-answers : goal.returns-in-Some-OverText-clause-answers
returns-in-Some-OverText-clause-answers g c =
    let words = texts_of c.args.words.now in
    let is : SpellText words c.in-Some-OverText.command = subst (λ (x : Command). Spell words x) c.in-Some-OverText.field-0-is c.in-Some-OverText.ensures.some in c.run_over_text.ensures.answers words is

pub returns-in-Some-Levels-clause-answers : goal.returns-in-Some-Levels-clause-answers
returns-in-Some-Levels-clause-answers g c =
    let words = texts_of c.args.words.now in
    let is : IsLevels words c.in-Some-Levels.qubits c.in-Some-Levels.top c.in-Some-Levels.workers = subst (λ (x : Command). Spell words x) c.in-Some-Levels.field-0-is c.in-Some-Levels.ensures.some in
    levels_answers words _ _ _ refl refl (λ e. ap (g.K.Sink.written) (c.run_levels.ensures.unwritten e)) c.in-Some-Levels.qubits c.in-Some-Levels.top c.in-Some-Levels.workers is c.run_levels.ensures.answers

pub returns-in-Some-Bench-clause-answers : goal.returns-in-Some-Bench-clause-answers
returns-in-Some-Bench-clause-answers g c =
    let words = texts_of c.args.words.now in
    let at = c.in-Some-Bench in
    let is : IsBench words at.qubits at.letters at.seed at.bound at.workers = subst (λ (x : Command). Spell words x) at.field-0-is at.ensures.some in
    bench_answers words _ _ _ refl refl (λ e. ap (g.K.Sink.written) (c.run_bench.ensures.unwritten (inl e))) at.qubits at.letters at.seed at.bound at.workers is c.run_bench.ensures.answers

pub returns-in-None-clause-answers : goal.returns-in-None-clause-answers
unfolding usage_line
returns-in-None-clause-answers g c = usage_answers (texts_of c.args.words.now) _ _ c.in-None.ensures.none _ refl refl c.respond.ensures.responds

pub returns-in-None-clause-no_command : goal.returns-in-None-clause-no_command
unfolding usage_line
returns-in-None-clause-no_command g c = λ _. c.respond.ensures.responds

pub returns-in-Some-OverText-clause-complete : goal.returns-in-Some-OverText-clause-complete
returns-in-Some-OverText-clause-complete g c = c.answers_are_complete.ensures (texts_of c.args.words.now) _ _ _ (returns-in-Some-OverText-clause-answers g c)

pub returns-in-Some-Levels-clause-complete : goal.returns-in-Some-Levels-clause-complete
returns-in-Some-Levels-clause-complete g c = c.answers_are_complete.ensures (texts_of c.args.words.now) _ _ _ (returns-in-Some-Levels-clause-answers g c)

pub returns-in-Some-Bench-clause-complete : goal.returns-in-Some-Bench-clause-complete
returns-in-Some-Bench-clause-complete g c = c.answers_are_complete.ensures (texts_of c.args.words.now) _ _ _ (returns-in-Some-Bench-clause-answers g c)

pub returns-in-None-clause-complete : goal.returns-in-None-clause-complete
returns-in-None-clause-complete g c = c.answers_are_complete.ensures (texts_of c.args.words.now) _ _ _ (returns-in-None-clause-answers g c)
