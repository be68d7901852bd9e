use Rattle.std.proofs.Common.{◌≡◌, ◌+◌, ◌-◌, List, [], Option, length, take, drop, arith, ◌∙◌, ap, sym, subst, length-drop, length-take}
use Rattle.std.proofs.lemmas.List.{drop_all}
use Rattle.std.proofs.lemmas.Result.{err_from_is_err_and}
use Rattle.qasm_lex.specs.declared.token.Token.{Token}
use Rattle.qasm_reader.specs.declared.refusal.Refusal.{Refusal}
use Rattle.qasm_reader.specs.Lexemes.{Lexeme, statements}
use Rattle.qasm_reader.specs.Parse.{form_of}
use Rattle.qasm_reader.specs.State.{State, after}
use Rattle.qasm_reader.specs.Read.{scan, refused_or, place_of}
use Rattle.qasm_reader.specs.Run.{stated, Takes, IsRowFault}
use Rattle.qasm_reader.specs.View.{lexemes, state}
use Rattle.qasm_reader.proofs.Cut.{of, scan_step, nothing, fault_from}
use Rattle.qasm_reader.proofs.reading.scan_all.Goals as goal
use Rattle.qasm_reader.proofs.reading.scan_all.Goals.{After-take_statement}

-- the statement that was taken, as the tokens say it
same : (c : After-take_statement) → lexemes c.deref.result.now ≡ of c.args.text.now (take (c.statements.at + c.first_len-size.result - c.statements.at) (drop c.statements.at c.args.tokens.now))
same c = ap lexemes c.deref.ensures.value ∙ c.in_ok-statement.ensures

pub returns-in_err-scan-clause-err : goal.returns-in_err-scan-clause-err
returns-in_err-scan-clause-err c =
    let text = c.args.text.now in
    let ts = c.args.tokens.now in
    let at = c.statements.at in
    let size = c.first_len-size.result in
    let s = state c.statements.scan in
    let p = of text (take (at + size - at) (drop at ts)) in
    let row : IsRowFault s p c.in_err-scan.field-0.0 =
    subst (λ (ws : List Lexeme). IsRowFault s ws c.in_err-scan.field-0.0) (same (goal.at.returns-in_err-scan-clause-err c).After-take_statement) c.in_err-scan.ensures.err in
    let from = c.statements.invariant.rest ∙ scan_step text ts at size s c.statements-test.true c.first_len-size.ensures.value in
    let e = err_from_is_err_and c.from_residual-in_err-scan.result c.from_residual-in_err-scan.ensures.1 in
    rw (e.1, e.2) (fault_from (of text ts) s p _ c.in_err-scan.field-0.0 from row)

pub statements-preserved : goal.statements-preserved
statements-preserved c =
    let text = c.args.text.now in
    let ts = c.args.tokens.now in
    let at = c.statements.at in
    let size = c.first_len-size.result in
    let s = state c.statements.scan in
    let p = of text (take (at + size - at) (drop at ts)) in
    let rest = stated (statements (of text (drop (at + size) ts))) in
    let takes : Takes s p c.in_ok-scan.scan = subst (λ (ws : List Lexeme). Takes s ws c.in_ok-scan.scan) (same (goal.at.statements-preserved c).After-take_statement) c.in_ok-scan.ensures.ok in
    record {
      within = omega (arith, c.first_len-size.ensures.within, length-take (length ts - at) (drop at ts), length-drop at ts, c.statements.invariant.within);
      rest = c.statements.invariant.rest
          ∙ scan_step text ts at size s c.statements-test.true c.first_len-size.ensures.value
          ∙ ap (λ (o : Option Refusal). refused_or o (place_of 0 p) (scan (after s (form_of p)) rest)) takes.0
          ∙ ap (λ (t : State). scan t rest) (sym takes.1);
      kept = takes.2;
    }

pub returns-clause-ok : goal.returns-clause-ok
returns-clause-ok c =
    let none : drop c.statements.at c.args.tokens.now ≡ [] = drop_all _ _ c.statements-test.false in
    c.statements.invariant.rest ∙ ap (λ (l : List Token). scan (state c.statements.scan) (stated (statements (of c.args.text.now l)))) none
    ∙ ap (λ (l : List (List Lexeme)). scan (state c.statements.scan) (stated l)) nothing
