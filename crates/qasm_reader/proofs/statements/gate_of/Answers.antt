use Rattle.std.proofs.Common.{Some, sym, subst}
use Rattle.qasm_reader.specs.declared.forms.Form.{Form as CodeForm}
use Rattle.qasm_reader.specs.Known.{known}
use Rattle.qasm_reader.specs.State.{gate_in}
use Rattle.qasm_reader.specs.Pieces.{IsSource}
use Rattle.qasm_reader.specs.View.{form, known_behind, meanings_behind}
use Rattle.qasm_reader.proofs.statements.gate_of.Goals as goal

pub returns-in-Turn-clause-source : goal.returns-in-Turn-clause-source
returns-in-Turn-clause-source c =
    let ds = c.args.scan.now.definitions.list.items in
    let gs = meanings_behind known ds in
    subst (λ (f : CodeForm). IsSource gs ds (gate_in (known_behind known ds) (Some (form f))) c.found_by_value.result.source) (sym c.in-Turn.is) (c.found_by_value.ensures.source gs ds)
