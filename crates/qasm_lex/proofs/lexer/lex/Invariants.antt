use Rattle.std.proofs.Common.{◌-◌, ◌≤◌, ◌++◌, ℕ, List, length}
use Rattle.qasm_lex.specs.declared.token.Token.{Token}
use Rattle.qasm_lex.specs.Tokens.{Cuts}
use Rattle.qasm_lex.proofs.Cutting.{CutsAt}
use Rattle.qasm_lex.proofs.lexer.lex.Given as goal

abbrev pub invariant-loop-at : goal.invariant-loop-at
invariant-loop-at l = record {
  within : l.at ≤ length l.text;
  more : (ts : List Token) (q : ℕ) → CutsAt l.text l.at ts q → Cuts l.text 0 (l.tokens.items ++ ts) q;
}

abbrev pub decreases-loop-at : goal.decreases-loop-at
decreases-loop-at l = length l.text - l.at
