use Rattle.std.proofs.Common.{◌≡◌}
use Rattle.tc_bridge.specs.Block.{highest}
use Rattle.tc_bridge.proofs.block.highest.Given as goal

abbrev pub invariant-loop-qubit : goal.invariant-loop-qubit
invariant-loop-qubit l = l.top ≡ highest l.qubit l.p.code
