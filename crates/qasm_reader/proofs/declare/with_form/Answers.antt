use Rattle.std.proofs.Common.{◌≡◌, ◌++◌, ◌∙◌, true, List, ℕ, Option, Some, ap, sym, subst, refl}
use Rattle.std.specs.Prelude.{IfOk, option_map}
use Rattle.tc_circuit.specs.declared.circuit.Gate.{Gate}
use Rattle.qasm_reader.specs.declared.forms.Form.{Form as CodeForm}
use Rattle.qasm_reader.specs.Known.{known}
use Rattle.qasm_reader.specs.State.{State, gates_in, declared}
use Rattle.qasm_reader.specs.Run.{IsTakeable, AreTakeable, AreAddable}
use Rattle.qasm_reader.specs.Pieces.{source_gates}
use Rattle.qasm_reader.specs.View.{form, gates_with, meanings_behind, state}
use Rattle.qasm_reader.proofs.Kept.{addable, added_gates}
use Rattle.qasm_reader.proofs.declare.with_form.Goals as goal

pub with_gates-requires-clause-addable : goal.with_gates-requires-clause-addable
with_gates-requires-clause-addable c =
    let s = state c.args.scan in
    let ds = c.args.scan.definitions.list.items in
    let gs = meanings_behind known ds in
    let p = c.args.statement in
    let is = c.in-Some-Apply.is ∙ ap (λ (f : CodeForm). Some f) c.in-Some-Apply.field-0-is in
    let takeable = subst (λ (o : Option CodeForm). AreTakeable s (option_map form o)) (sym is) (subst (λ (o : Option CodeForm). IsTakeable s (option_map form o)) is c.requires.fits) in
    subst (λ (qs : List ℕ). AreAddable s gs ds p.source p.size qs) (sym c.deref.ensures.value) (addable s gs ds p takeable c.requires.behind c.requires.source)

pub with_gates-requires-in-Some-Turn-clause-addable : goal.with_gates-requires-in-Some-Turn-clause-addable
with_gates-requires-in-Some-Turn-clause-addable c =
    let s = state c.args.scan in
    let ds = c.args.scan.definitions.list.items in
    let gs = meanings_behind known ds in
    let p = c.args.statement in
    let is = c.in-Some-Turn.is ∙ ap (λ (f : CodeForm). Some f) c.in-Some-Turn.field-0-is in
    let takeable = subst (λ (o : Option CodeForm). AreTakeable s (option_map form o)) (sym is) (subst (λ (o : Option CodeForm). IsTakeable s (option_map form o)) is c.requires.fits) in
    subst (λ (qs : List ℕ). AreAddable s gs ds p.source p.size qs) (sym c.deref-in-Some-Turn.ensures.value) (addable s gs ds p takeable c.requires.behind c.requires.source)

pub returns-in-Some-Apply-clause-value : goal.returns-in-Some-Apply-clause-value
returns-in-Some-Apply-clause-value c =
    let s = state c.args.scan in
    let ds = c.args.scan.definitions.list.items in
    let gs = meanings_behind known ds in
    let p = c.args.statement in
    let is = c.in-Some-Apply.is ∙ ap (λ (f : CodeForm). Some f) c.in-Some-Apply.field-0-is in
    let added = ap (gates_with p.size (source_gates gs p.source)) c.deref.ensures.value ∙ added_gates s gs ds p c.requires.behind c.requires.source in
    let after : record s { began = true; gates = s.gates ++ gates_in s (option_map form p.form) } ≡ declared s (option_map form p.form) =
    subst (λ (o : Option CodeForm). record s { began = true; gates = s.gates ++ gates_in s (option_map form o) } ≡ declared s (option_map form o)) (sym is) refl in
    subst (λ (t : State). IfOk c.with_gates.result (λ r. state r ≡ t)) (ap (λ (l : List Gate). record s { began = true; gates = s.gates ++ l }) added ∙ after) c.with_gates.ensures.value
