use Rattle.std.proofs.Common.{◌≡◌, string_bytes}
use Rattle.level_store.specs.Stored.{qubits_of_all}
use Rattle.tcount_top.specs.Lines.{sizes_text}
use Rattle.tcount_top.proofs.sizes.sizes_line.Given as goal

abbrev pub invariant-loop-k : goal.invariant-loop-k
invariant-loop-k l = string_bytes l.line ≡ sizes_text (qubits_of_all l.levels) l.k
