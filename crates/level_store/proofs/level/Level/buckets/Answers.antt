use Rattle.std.proofs.Common.{rules, ◌≡◌, Some, IfSome}
use Rattle.std.proofs.lemmas.Option.{IfSome_then}
use Rattle.level_store.specs.Stored.{buckets_of}
use Rattle.level_store.proofs.Merely.{stored_of}
use Rattle.level_store.proofs.level.Level.buckets.Goals as goal

pub returns-clause-holds : goal.returns-clause-holds
returns-clause-holds c =
    let l = c.args.self.now in
    let some : IfSome c.as_ref.result (λ b. buckets_of l ≡ Some b.now) = search rules in
    IfSome_then c.as_ref.result some (λ b is. (stored_of l).buckets b.now is)
