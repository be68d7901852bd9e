use Rattle.std.proofs.Common.{◌-◌, ◌||◌, Bool, drop, ap, ◌∙◌, sym}
use Rattle.qasm_reader.specs.Rows.{has_twin_names}
use Rattle.qasm_reader.specs.View.{name_list}
use Rattle.qasm_reader.proofs.Twins.{twins_less, twins_whole}
use Rattle.qasm_reader.proofs.bodies.has_twin_names.Goals as goal

pub returns-then-contains_name : goal.returns-then-contains_name
returns-then-contains_name c =
    let list = c.args.list.now in
    let at = c.names.at in
    let here = sym (c.names.invariant.seen _) ∙ sym c.contains_name.ensures ∙ c.if-contains_name.true in
    sym (twins_whole list (at - 1) (twins_less list at _ c.names-test.true c.names.invariant.within ∙ ap (λ (t : Bool). t || has_twin_names (name_list (drop at list))) here))
