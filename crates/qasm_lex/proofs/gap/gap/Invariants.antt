use Rattle.std.proofs.Common.{◌≡◌, ◌+◌, ◌-◌, ◌≤◌, length, drop}
use Rattle.qasm_lex.specs.Tokens.{gap}
use Rattle.qasm_lex.specs.Front.{skip_len}
use Rattle.qasm_lex.proofs.gap.gap.Given as goal

abbrev pub invariant-loop-more : goal.invariant-loop-more
invariant-loop-more l = record {
  within : l.at + l.more ≤ length l.text;
  rest : l.at + gap (drop l.at l.text) ≡ gap l.text;
  next : l.more ≡ skip_len (drop l.at l.text);
}

abbrev pub decreases-loop-more : goal.decreases-loop-more
decreases-loop-more l = length l.text - l.at
