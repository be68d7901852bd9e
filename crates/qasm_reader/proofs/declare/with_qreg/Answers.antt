use Rattle.std.proofs.Common.{◌≡◌, ◌+◌, ◌<◌, ◌≤◌, List, true, arith, sym, subst, ◌∙◌}
use Rattle.std.specs.List.{list_all}
use Rattle.qasm_reader.specs.declared.scan.Register.{Register}
use Rattle.qasm_reader.specs.State.{value}
use Rattle.qasm_reader.proofs.Registers.{is_inside, inside_push}
use Rattle.qasm_reader.proofs.declare.with_qreg.Goals as goal

pub invariant_of-scan-2-clause-inside : goal.invariant_of-scan-2-clause-inside
invariant_of-scan-2-clause-inside c =
    let n = c.args.scan.qubits in
    let size = c.small_value-size.result in
    let same : size ≡ value c.args.size.now = c.small_value-size.ensures ∙ omega (arith, c.requires.few) in
    let some : 0 < size = omega (arith, same, c.requires.some) in
    let within : n + size ≤ n + size = omega arith in
    subst (λ (rs : List Register). list_all (is_inside (n + size)) rs ≡ true) (sym c.in_ok-push.ensures.items) (inside_push n size c.args.scan.registers.items _ c.args.scan.inside some within)
