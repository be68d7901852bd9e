use Rattle.std.proofs.Common.{◌≡◌, ◌++◌, sym, ◌∙◌, subst}
use Rattle.std.specs.List.{AllByRecursion}
use Rattle.channel_rep.specs.Gates.{GateFits}
use Rattle.tc_bridge.proofs.Conjugations.{all-append}
use Rattle.clifford_rest.specs.Sweep.{undo_list}
use Rattle.clifford_rest.proofs.Lists.{undo_list_more}
use Rattle.clifford_rest.proofs.circuit.undo_gates.Goals as goal

pub loop-q-init : goal.loop-q-init
unfolding undo_list
loop-q-init c = let none = c.in_ok-gates.ensures.items in (none, subst (AllByRecursion (GateFits c.args.c.now.qubits)) (sym none) tt)

pub loop-q-preserved : goal.loop-q-preserved
loop-q-preserved c =
    let n = c.args.c.now.qubits in
    let gates = c.loop-q.gates.items in
    let more = c.gates.result.now in
    let new : c.extend_from_slice.new.self.items ≡ gates ++ more = c.in_ok-extend_from_slice.ensures.items in
    let fit : AllByRecursion (GateFits n) more = subst (λ m. AllByRecursion (GateFits m) more) c.in_ok-swept.ensures.qubits c.gates.ensures.fit in (
      undo_list_more c.args.c.now c.loop-q.q gates c.deref.result.now more _ c.loop-q.invariant.0 c.deref.ensures.value (c.gates.ensures.value ∙ c.in_ok-swept.ensures.gates) new,
      subst (AllByRecursion (GateFits n)) (sym new) (all-append (GateFits n) gates more c.loop-q.invariant.1 fit),
    )
