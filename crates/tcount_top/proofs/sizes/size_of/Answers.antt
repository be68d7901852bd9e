use Rattle.std.proofs.Common.{◌∙◌, length}
use Rattle.level_laws.specs.Levels.{level}
use Rattle.tcount_top.proofs.sizes.size_of.Goals as goal

pub returns : goal.returns
returns c =
    let is = c.level-level.ensures.number in
    c.count.ensures.level ∙ (λ i. length (level (is.qubits i) (is.len i)))
