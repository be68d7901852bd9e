use Rattle.std.proofs.Common.{◌≡◌, ◌+◌, ◌-◌, ◌≤◌, length, drop}
use Rattle.qasm_reader.specs.Parse.{arguments_at}
use Rattle.qasm_reader.specs.View.{lexemes, arguments}
use Rattle.qasm_reader.proofs.Splits.{with_front}
use Rattle.qasm_reader.proofs.forms.arguments_at.Given as goal

abbrev pub invariant-parts : goal.invariant-parts
invariant-parts l = record {
  within : l.at ≤ length l.ws;
  read : with_front (arguments l.found.items) (arguments_at (lexemes (drop l.at l.ws))) ≡ arguments_at (lexemes l.ws);
}

abbrev pub decreases-parts : goal.decreases-parts
decreases-parts l = length l.ws + 1 - l.at
