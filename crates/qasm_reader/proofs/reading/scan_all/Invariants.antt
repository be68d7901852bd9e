use Rattle.std.proofs.Common.{◌≡◌, ◌-◌, ◌≤◌, length, drop}
use Rattle.qasm_reader.specs.Lexemes.{statements}
use Rattle.qasm_reader.specs.State.{start}
use Rattle.qasm_reader.specs.Read.{scan}
use Rattle.qasm_reader.specs.Run.{stated}
use Rattle.qasm_reader.specs.View.{state, AreKept}
use Rattle.qasm_reader.proofs.Cut.{of}
use Rattle.qasm_reader.proofs.reading.scan_all.Given as goal

abbrev pub invariant-statements : goal.invariant-statements
invariant-statements l = record {
  within : l.at ≤ length l.tokens;
  rest : scan start (stated (statements (of l.text l.tokens))) ≡ scan (state l.scan) (stated (statements (of l.text (drop l.at l.tokens))));
  kept : AreKept l.scan.definitions;
}

abbrev pub decreases-statements : goal.decreases-statements
decreases-statements l = length l.tokens - l.at
