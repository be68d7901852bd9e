use Rattle.tcount_top.proofs.Outcomes.{refused_out}
use Rattle.tcount_top.proofs.synth.synth.Goals as goal

pub returns-in_ok-line-in-Err-Refused : goal.returns-in_ok-line-in-Err-Refused
returns-in_ok-line-in-Err-Refused g c =
    refused_out c.args.bound c.args.text.now c.in_ok-line-in-Err-Refused.line.items c.in-Err-Refused.number c.in-Err-Refused.place c.requires.short (rw c.in-Err-Refused.field-0-is at c.in-Err-Refused.ensures.err) c.in_ok-line-in-Err-Refused.ensures
