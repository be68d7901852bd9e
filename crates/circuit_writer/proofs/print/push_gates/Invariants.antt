use Rattle.std.proofs.Common.{◌≡◌, ◌++◌, take}
use Rattle.std.specs.Prelude.{string_bytes}
use Rattle.std.specs.List.{flat_map}
use Rattle.circuit_writer.specs.Shown.{gate_line}
use Rattle.circuit_writer.proofs.print.push_gates.Given as goal

abbrev pub invariant-loop-gate : goal.invariant-loop-gate
invariant-loop-gate l = string_bytes l.out ≡ string_bytes l.initial.out ++ flat_map gate_line (take l.gate-index l.gates)
