use Rattle.std.proofs.Common.{subst, arith}
use Rattle.std.proofs.lemmas.Result.{err_from_is_err_and}
use Rattle.qasm_reader.specs.Halves.{HasHalves, AreHalves}
use Rattle.tcount_top.specs.Out.{no_halves}
use Rattle.tcount_top.proofs.Comparing.{bad_reason, first_reason, many_reason, verdict}
use Rattle.tcount_top.proofs.check.is_same.Goals as goal
use Rattle.tcount_top.proofs.check.is_same.Goals.{In-Some}

-- the halves of the text
halves : (c : In-Some) → HasHalves c.args.text.now c.in-Some.cut
halves c = subst (AreHalves c.args.text.now) c.in-Some.is c.in_ok-cut.ensures.ok

pub returns-in_err-cut-clause-err : goal.returns-in_err-cut-clause-err
returns-in_err-cut-clause-err c =
    let e = err_from_is_err_and c.from_residual.result c.from_residual.ensures.1 in
    rw (e.1, e.2) (bad_reason c.args.text.now c.requires.short c.in_err-cut.field-0.0 c.in_err-cut.ensures.err)

pub returns-in_default-clause-err : goal.returns-in_default-clause-err
returns-in_default-clause-err c = no_halves c.requires.short (subst (AreHalves c.args.text.now) c.in_default.is c.in_ok-cut.ensures.ok)

pub returns-in_err-first-clause-err : goal.returns-in_err-first-clause-err
returns-in_err-first-clause-err c =
    let e = err_from_is_err_and c.from_residual-in_err-first.result c.from_residual-in_err-first.ensures.1 in
    rw (e.1, e.2) (first_reason c.args.text.now c.requires.short c.in-Some.cut (halves (goal.at.returns-in_err-first-clause-err c).In-Some) c.in_err-first.field-0.0 c.in_err-first.ensures.err)

pub same-requires-clause-first : goal.same-requires-clause-first
same-requires-clause-first c = omega (arith, c.read_circuits_are_small.ensures.short _ c.in_ok-first.first c.in_ok-first.ensures.ok)

pub same-requires-clause-second : goal.same-requires-clause-second
same-requires-clause-second c = omega (arith, c.read_circuits_are_small.ensures.short _ c.in_ok-second.second c.in_ok-second.ensures.ok)

pub returns-in_err-is_same-clause-err : goal.returns-in_err-is_same-clause-err
returns-in_err-is_same-clause-err c =
    let e = err_from_is_err_and c.from_residual-in_err-is_same.result c.from_residual-in_err-is_same.ensures.1 in
    rw (e.1, e.2) (many_reason c.args.text.now c.requires.short c.in-Some.cut (halves (goal.at.returns-in_err-is_same-clause-err c).In-Some) c.in_ok-first.first c.in_ok-second.second c.in_ok-first.ensures.ok c.in_ok-second.ensures.ok c.in_err-is_same.field-0.0 c.in_err-is_same.ensures.err)

pub returns-clause-ok : goal.returns-clause-ok
returns-clause-ok c =
    verdict c.args.text.now c.requires.short c.in-Some.cut (halves (goal.at.returns-clause-ok c).In-Some) c.in_ok-first.first c.in_ok-second.second c.in_ok-first.ensures.ok c.in_ok-second.ensures.ok
    c.in_ok-is_same.ensures.few c.in_ok-is_same.is_same c.in_ok-is_same.ensures.ok
