use Rattle.std.proofs.Common.{sym, subst}
use Rattle.tcount_top.specs.declared.top.Status.TheVariants.{Found, Above, Refused}
use Rattle.tcount_top.specs.Lines.{same_line, different_line, no_halves_line}
use Rattle.tcount_top.specs.Out.{CheckOut}
use Rattle.tcount_top.specs.Compared.{IsVerdict, IsReason}
use Rattle.tcount_top.proofs.check.check.Goals as goal

pub returns-in_ok-from_slice-in-Ok-true : goal.returns-in_ok-from_slice-in-Ok-true
unfolding same_line
returns-in_ok-from_slice-in-Ok-true c = subst (CheckOut c.args.text.now Found) (sym c.in_ok-from_slice-in-Ok-true.ensures.items) (subst (IsVerdict c.args.text.now) c.in-Ok-true.field-0-test c.in-Ok-true.ensures.ok)

pub returns-in_ok-from_slice-in-Ok-false : goal.returns-in_ok-from_slice-in-Ok-false
unfolding different_line
returns-in_ok-from_slice-in-Ok-false c = subst (CheckOut c.args.text.now Above) (sym c.in_ok-from_slice-in-Ok-false.ensures.items) (subst (IsVerdict c.args.text.now) c.in-Ok-false.field-0-test c.in-Ok-false.ensures.ok)

pub returns-in_ok-from_slice-in-Err-NoHalves : goal.returns-in_ok-from_slice-in-Err-NoHalves
unfolding no_halves_line
returns-in_ok-from_slice-in-Err-NoHalves c = subst (CheckOut c.args.text.now Refused) (sym c.in_ok-from_slice-in-Err-NoHalves.ensures.items) (subst (IsReason c.args.text.now) c.in-Err-NoHalves.field-0-is c.in-Err-NoHalves.ensures.err)
