use Rattle.std.proofs.Common.{Bool, Bor, List, ℕ, not, ap, ◌∙◌, sym}
use Rattle.qasm_reader.specs.View.{names}
use Rattle.qasm_reader.proofs.Kept.{some_at}
use Rattle.qasm_reader.proofs.bodies.has_stranger.Goals as goal

pub returns-then-not-contains_name : goal.returns-then-not-contains_name
returns-then-not-contains_name c =
    sym (some_at (λ a. not (names c.args.set.now a)) (λ (b : Bor (List ℕ)). b.now) c.args.args.now c.loop-name.name-index _ (ap not (sym c.contains_name.ensures ∙ c.if-not-contains_name.true)) c.loop-name-test.true)
