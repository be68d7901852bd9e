use Rattle.std.proofs.Common.{◌≡◌, ◌∙◌, List, Option, None, length, ap, sym, refl, subst}
use Rattle.std.specs.Prelude.{All, option_map}
use Rattle.std.proofs.lemmas.Result.{err_from_is_err_and}
use Rattle.qasm_lex.specs.declared.token.Token.{Token}
use Rattle.qasm_reader.specs.declared.refusal.Refusal.TheVariants.{Header, Qubits}
use Rattle.qasm_lex.specs.Tokens.{IsWithin}
use Rattle.qasm_lex.proofs.Spans.{within}
use Rattle.qasm_reader.specs.Lexemes.{statements}
use Rattle.qasm_reader.specs.Parse.{headed_at}
use Rattle.qasm_reader.specs.Read.{place_of, HasLexemes, HasStatements, IsHeadless, IsEmpty, IsFault}
use Rattle.qasm_reader.specs.Run.{stated}
use Rattle.qasm_reader.specs.View.{state}
use Rattle.qasm_reader.proofs.Cut.{of}
use Rattle.qasm_reader.proofs.Outcomes.{is_headed, stated_behind, lex_fault, scan_fault}
use Rattle.qasm_reader.proofs.reading.read.Goals as goal
use Rattle.qasm_reader.proofs.reading.read.Goals.{After-behind_header, In-Some}

-- the lexemes of the text
has : (c : After-behind_header) → HasLexemes c.args.text.now (of c.args.text.now c.deref.result.now)
has c = (c.in_ok-tokens.tokens.items, c.in_ok-tokens.ensures.ok, ap (of c.args.text.now) c.deref.ensures.value)

-- the statements behind the header
are : (c : In-Some) → HasStatements c.args.text.now (stated (statements (of c.args.text.now c.in-Some.statements.now)))
are c =
    let text = c.args.text.now in
    stated_behind text (of text c.deref.result.now) (of text c.in-Some.statements.now) (has (goal.at.In-Some c).After-behind_header)
    (sym c.behind_header.ensures.value ∙ ap (λ (o : Option _). option_map (λ b. of text b.now) o) c.in-Some.is)

pub behind_header-requires : goal.behind_header-requires
behind_header-requires c = subst (All (IsWithin c.args.text.now)) (sym c.deref.ensures.value) (within c.args.text.now 0 c.in_ok-tokens.tokens.items c.in_ok-tokens.ensures.spans)

pub returns-in_err-tokens-clause-err : goal.returns-in_err-tokens-clause-err
returns-in_err-tokens-clause-err c =
    let e = err_from_is_err_and c.from_residual.result c.from_residual.ensures.1 in
    rw (e.1, e.2) (lex_fault c.args.text.now c.in_err-tokens.field-0.0 c.in_err-tokens.ensures.err)

pub returns-in_default-clause-err : goal.returns-in_default-clause-err
returns-in_default-clause-err c =
    let h = (goal.at.returns-in_default-clause-err c).After-behind_header in
    let text = c.args.text.now in
    let ws = of text c.deref.result.now in
    let none : headed_at ws ≡ None = sym c.behind_header.ensures.value ∙ ap (λ (o : Option _). option_map (λ b. of text b.now) o) c.in_default.is in
    let place = c.first_place.ensures ∙ ap (λ (l : List Token). place_of (length text) (of text l)) (c.deref-in_default.ensures.value ∙ sym c.deref.ensures.value) in
    subst (IsFault text) (sym c.refusal_at.ensures) (Header, IsHeadless ws (has h) (λ rest r. absurd (cc (is_headed ws rest r, none))) refl place, refl)

pub returns-in_err-scan-clause-err : goal.returns-in_err-scan-clause-err
returns-in_err-scan-clause-err c =
    let e = err_from_is_err_and c.from_residual-in_err-scan.result c.from_residual-in_err-scan.ensures.1 in
    rw (e.1, e.2) (scan_fault c.args.text.now (of c.args.text.now c.in-Some.statements.now) c.in_err-scan.field-0.0 (are (goal.at.returns-in_err-scan-clause-err c).In-Some) c.in_err-scan.ensures.err)

pub returns-in_default-circuit_of-clause-err : goal.returns-in_default-circuit_of-clause-err
returns-in_default-circuit_of-clause-err c =
    let text = c.args.text.now in
    let h = are (goal.at.returns-in_default-circuit_of-clause-err c).In-Some in
    subst (IsFault text) (sym c.refusal_at-in_default-circuit_of.ensures) (Qubits, IsEmpty _ h (state c.in_ok-scan.scan) c.in_ok-scan.ensures.ok c.in_default-circuit_of.ensures.none refl refl, refl)

pub returns-clause-ok : goal.returns-clause-ok
returns-clause-ok c =
    let made = c.in-Some-circuit_of.ensures in
    record {
      list = stated (statements (of c.args.text.now c.in-Some.statements.now));
      are = are (goal.at.returns-clause-ok c).In-Some;
      state = state c.in_ok-scan.scan;
      unrefused = c.in_ok-scan.ensures.ok;
      some = made.some;
      qubits = made.same.0;
      gates = made.same.1;
    }
