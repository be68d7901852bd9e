use Rattle.std.proofs.Common.{◌≡◌, ◌≢◌, All, length}
use Rattle.tcount_top.specs.Bench.{state_after, made_word}
use Rattle.tcount_top.specs.Printed.{codes_of}
use Rattle.tcount_top.proofs.bench.made_letters.Given as goal

abbrev pub invariant-loop : goal.invariant-loop
invariant-loop l = record {
  state : l.generator.state ≡ state_after l.seed l.counter;
  qubits : All (λ p. p.qubits ≡ l.n) l.letters.items;
  other : All (λ p. p.code ≢ 0) l.letters.items;
  codes : codes_of l.letters.items ≡ made_word l.n l.counter l.seed;
  long : length l.letters.items ≡ l.counter;
}
