use Rattle.std.proofs.Common.{◌≡◌, ◌-◌, ℕ, List, ◌++◌, length, ap, ◌∙◌, arith}
use Rattle.std.specs.Prelude.{codes}
use Rattle.level_store.specs.Stored.{qubits_of_all, levels_of}
use Rattle.tcount_top.specs.Lines.{sizes_text, levels_line}
use Rattle.tcount_top.proofs.sizes.sizes_line.Goals as goal

pub returns : goal.returns
unfolding levels_line
returns c =
    let n = qubits_of_all c.args.levels.now in
    let last : c.loop-k.k ≡ length (levels_of c.args.levels.now) - 1 = omega (arith, c.loop-k-test.false, c.loop-k.auto.k-end, c.height-k-end.ensures) in
    rw c.into_bytes.ensures.value (c.in_ok-push_str.ensures.bytes ∙ ap (λ (l : List ℕ). l ++ codes "\n") (c.loop-k.invariant ∙ ap (sizes_text n) last))
