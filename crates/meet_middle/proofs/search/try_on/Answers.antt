use Rattle.std.proofs.Common.{◌≡◌, ℕ, ◌<◌, false, Option, IfSome, IfNone, length, arith, ap, sym, subst}
use Rattle.channel_rep.specs.Cells.{scaled}
use Rattle.level_laws.specs.Levels.{IsLeastWord}
use Rattle.level_store.specs.Stored.{letters_in}
use Rattle.level_store.proofs.Merely.{stored_at}
use Rattle.steal_sweep.specs.Searches.{IsLeastHit}
use Rattle.meet_middle.specs.Fronts.{fronts_of, front_meets}
use Rattle.meet_middle.proofs.Totals.{none_hit, first_hit, long_hit}
use Rattle.meet_middle.proofs.search.try_on.Goals as goal

pub returns-in-Some-clause-some : goal.returns-in-Some-clause-some
returns-in-Some-clause-some g c =
    let n = g.row.N in
    let half = c.args.half in
    let odd = c.args.odd in
    let p = c.in-Some.position in
    let words = letters_in c.args.level.now in
    let target = scaled c.args.target.now in
    let stored = stored_at n c.args.half c.args.level.now c.requires.asked.number in
    let hit : IsLeastHit (front_meets n words odd target) (fronts_of n words odd) p =
    subst (λ (o : Option ℕ). IfSome o (IsLeastHit (front_meets n words odd target) (fronts_of n words odd))) c.in-Some.is c.in_ok-met.ensures.some in
    let last = c.spell.result.last.letters in
    let meets = c.spell.ensures.meets in
    let long = long_hit n stored.some stored.few half words stored.level target odd c.requires.none p hit.hit.0 last meets in
    record {
      qubits = c.spell.ensures.qubits;
      least = subst (IsLeastWord n target) (sym c.spell.ensures.spelled) (first_hit n stored.some stored.few half words stored.level target odd c.requires.none p hit last meets);
      within = omega (arith, ap length c.spell.ensures.spelled, long);
    }

pub returns-clause-none : goal.returns-clause-none
returns-clause-none g c =
    let n = g.row.N in
    let odd = c.args.odd in
    let words = letters_in c.args.level.now in
    let target = scaled c.args.target.now in
    let stored = stored_at n c.args.half c.args.level.now c.requires.asked.number in
    let misses : (p : ℕ) → p < fronts_of n words odd → front_meets n words odd target p ≡ false =
    subst (λ (o : Option ℕ). IfNone o ((p : ℕ) → p < fronts_of n words odd → front_meets n words odd target p ≡ false)) c.in-None.is c.in_ok-met.ensures.none in
    none_hit n stored.some stored.few c.args.half words stored.level target odd c.requires.none misses
