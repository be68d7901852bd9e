use Rattle.std.proofs.Common.{ℕ, List, sym, ap, subst, refl, Err}
use Rattle.tcount_top.specs.declared.command.Command.TheVariants.{OverText}
use Rattle.tcount_top.specs.Lines.{too_long_line}
use Rattle.tcount_top.specs.Out.{TextOut}
use Rattle.tcount_top.proofs.Answering.{no_memory, read_answers, past_answers, takes_all, text_answer, never_silent, never_usage}
use Rattle.tcount_top.proofs.top.run_over_text.Goals as goal

pub returns-in-Err-TooLong-clause-answers : goal.returns-in-Err-TooLong-clause-answers
unfolding too_long_line
returns-in-Err-TooLong-clause-answers g c = λ words is.
    let sound = c.in-Err-TooLong.ensures.still (λ e. let t = c.in-Err-TooLong.field-0-is in cc) in
    past_answers words _ _ c.args.command is _ sound (c.in-Err-TooLong.ensures.too_long (ap (λ x. Err x) c.in-Err-TooLong.field-0-is)) c.respond.ensures.responds

pub returns-in-Err-Memory-clause-answers : goal.returns-in-Err-Memory-clause-answers
returns-in-Err-Memory-clause-answers g c = λ words is. no_memory words _ _ (OverText c.args.command, is) refl c.in-Err-Memory.ensures.part

pub returns-in-Ok-answer-clause-answers : goal.returns-in-Ok-answer-clause-answers
returns-in-Ok-answer-clause-answers g c = λ words is.
    let sound = c.in-Ok.ensures.still (λ e. cc) in
    let due = subst (λ (bytes : List ℕ). TextOut c.args.command c.in-Ok.text.items c.in-Ok-answer.status bytes) (sym c.deref-in-Ok-answer.ensures.value)
    (subst (λ (text : List ℕ). TextOut c.args.command text c.in-Ok-answer.status c.in-Ok-answer.bytes.items) c.deref.ensures.value c.in-Ok-answer.ensures) in
    read_answers words _ _ c.args.command is c.in-Ok-answer.status _ c.in-Ok.text.items _ sound c.in-Ok.ensures.ok due c.respond-in-Ok-answer.ensures.responds

pub returns-in-Ok-answer-clause-unwritten : goal.returns-in-Ok-answer-clause-unwritten
returns-in-Ok-answer-clause-unwritten g c = λ e. absurd (never_silent _ _ _ _ (text_answer c.args.command _ c.in-Ok-answer.status _ c.in-Ok-answer.ensures) c.respond-in-Ok-answer.ensures.responds e)

pub returns-in-Ok-answer-clause-no_usage : goal.returns-in-Ok-answer-clause-no_usage
returns-in-Ok-answer-clause-no_usage g c = never_usage _ _ _ _ (text_answer c.args.command _ c.in-Ok-answer.status _ c.in-Ok-answer.ensures) c.respond-in-Ok-answer.ensures.responds

pub returns-clause-answers : goal.returns-clause-answers
returns-clause-answers g c = λ words is. no_memory words _ _ (OverText c.args.command, is) refl (takes_all _ _ c.in-Ok.text.items c.in-Ok.ensures.ok)
