use Rattle.std.proofs.Common.{◌∙◌, sym}
use Rattle.count_checker.proofs.Tested.{test_of_circuits}
use Rattle.count_checker.proofs.compare.same.Goals as goal

pub returns-clause-ok : goal.returns-clause-ok
returns-clause-ok c =
    test_of_circuits _ _ _ _ _ _ _ _ c.in_ok-first.ensures.qubits (sym c.qubits.ensures.value ∙ c.if-qubits.false ∙ c.qubits-2.ensures.value)
    c.in_ok-first.ensures.matrix c.in_ok-second.ensures.matrix c.is_same.ensures
