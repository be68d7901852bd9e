use Rattle.std.proofs.Common.{◌≤◌, ◌∙◌, ap, sym, subst}
use Rattle.qasm_reader.specs.declared.gates.Size.{Size}
use Rattle.qasm_reader.specs.Limits.{most_gates_defined}
use Rattle.qasm_reader.specs.Known.{known}
use Rattle.qasm_reader.specs.View.{known_behind, size_or_nothing}
use Rattle.qasm_reader.specs.Known.{turned}
use Rattle.qasm_reader.proofs.Kept.{kept_few, size_small}
use Rattle.qasm_reader.proofs.Takeable.{turned_few}
use Rattle.qasm_reader.proofs.bodies.entry_size.Goals as goal

pub returns-in-Call-clause-few : goal.returns-in-Call-clause-few
returns-in-Call-clause-few c =
    let list = c.args.list.now.list.items in
    let small = size_small (known_behind known list c.in-Call.name.now) (kept_few list c.requires.list c.in-Call.name.now) in
    subst (λ (z : Size). z.length ≤ most_gates_defined) (sym (c.size_or_nothing.ensures ∙ ap size_or_nothing c.size_by_name.ensures)) small.0

pub returns-in-Call-clause-low : goal.returns-in-Call-clause-low
returns-in-Call-clause-low c =
    let list = c.args.list.now.list.items in
    let small = size_small (known_behind known list c.in-Call.name.now) (kept_few list c.requires.list c.in-Call.name.now) in
    subst (λ (z : Size). z.t_count ≤ most_gates_defined) (sym (c.size_or_nothing.ensures ∙ ap size_or_nothing c.size_by_name.ensures)) small.1

pub returns-in-Spin-clause-few : goal.returns-in-Spin-clause-few
returns-in-Spin-clause-few c =
    let small = size_small (turned c.in-Spin.rotation.value) (turned_few c.in-Spin.rotation.value) in
    subst (λ (z : Size). z.length ≤ most_gates_defined) (sym (c.size_or_nothing-in-Spin.ensures ∙ ap size_or_nothing c.size_by_value.ensures)) small.0

pub returns-in-Spin-clause-low : goal.returns-in-Spin-clause-low
returns-in-Spin-clause-low c =
    let small = size_small (turned c.in-Spin.rotation.value) (turned_few c.in-Spin.rotation.value) in
    subst (λ (z : Size). z.t_count ≤ most_gates_defined) (sym (c.size_or_nothing-in-Spin.ensures ∙ ap size_or_nothing c.size_by_value.ensures)) small.1
