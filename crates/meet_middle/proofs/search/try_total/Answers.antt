use Rattle.std.proofs.Common.{◌≡◌, ℕ, subst, rules}
use Rattle.meet_middle.specs.Kept.{IsAsked}
use Rattle.meet_middle.proofs.search.try_total.Goals as goal

pub try_on-requires-in_default-clause-asked : goal.try_on-requires-in_default-clause-asked
try_on-requires-in_default-clause-asked g c κs within =
    let three : c.args.target.now.qubits ≡ 3 = search rules in
    subst (λ (n : ℕ). IsAsked n c.args.half c.args.target.now c.args.level.now) three c.requires.asked
