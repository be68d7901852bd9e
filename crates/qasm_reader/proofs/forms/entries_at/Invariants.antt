use Rattle.std.proofs.Common.{◌≡◌, ◌-◌, ◌≤◌, length, drop}
use Rattle.qasm_reader.specs.Parse.{entries_at}
use Rattle.qasm_reader.specs.View.{lexemes, entries}
use Rattle.qasm_reader.proofs.Splits.{with_front}
use Rattle.qasm_reader.proofs.forms.entries_at.Given as goal

abbrev pub invariant-parts : goal.invariant-parts
invariant-parts l = record {
  within : l.at ≤ length l.ws;
  read : with_front (entries l.found.items) (entries_at (lexemes (drop l.at l.ws))) ≡ entries_at (lexemes l.ws);
}

abbrev pub decreases-parts : goal.decreases-parts
decreases-parts l = length l.ws - l.at
