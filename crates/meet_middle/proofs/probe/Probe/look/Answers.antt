use Rattle.std.proofs.Common.{◌≡◌, ℕ, List, None, IsTrue, false, sym, subst, rules}
use Rattle.channel_rep.specs.Cells.{ChannelGrid, scaled}
use Rattle.channel_rep.specs.Tables.{IsCircuitChannel}
use Rattle.level_laws.specs.Levels.{StandsIn, removed}
use Rattle.level_store.specs.Stored.{Finds, letters_in}
use Rattle.meet_middle.specs.Fronts.{front_of}
use Rattle.meet_middle.proofs.Keeping.{kept_removed}
use Rattle.meet_middle.proofs.Resting.{finds_of_same}
use Rattle.meet_middle.proofs.probe.Probe.look.Goals as goal

pub returns-then-not-leave-clause-finds : goal.returns-then-not-leave-clause-finds
returns-then-not-leave-clause-finds g c =
    λ target keeps.
    let n = g.row.N in
    let half = c.args.half in
    let own = scaled c.args.self.now.trail.target in
    let front = front_of n (letters_in c.args.level.now) c.args.odd c.args.position in
    let failed : c.leave.result ≡ false = search rules in
    let none = subst (λ (w : List ℕ). StandsIn n half (removed n own w) → ⊥) c.split_front-prefix.ensures.front (c.leave.ensures.none failed) in
    finds_of_same n half (removed n own front) (removed n target front) (kept_removed n own target keeps front) None none

pub find_rest-requires-clause-circuit : goal.find_rest-requires-clause-circuit
find_rest-requires-clause-circuit g c =
    let yes : IsTrue c.leave.result = search rules in
    let left = c.leave.ensures.rest yes in
    let rest = c.leave.new.self.trail.rest in
    subst (λ (m : ChannelGrid). IsCircuitChannel m.qubits (scaled m)) (sym c.rest.ensures.value) (subst (λ (q : ℕ). IsCircuitChannel q (scaled rest)) (sym left.qubits) left.circuit)

pub returns-clause-finds : goal.returns-clause-finds
returns-clause-finds g c =
    λ target keeps.
    let n = g.row.N in
    let half = c.args.half in
    let own = scaled c.args.self.now.trail.target in
    let front = front_of n (letters_in c.args.level.now) c.args.odd c.args.position in
    let yes : IsTrue c.leave.result = search rules in
    let left = c.leave.ensures.rest yes in
    let rest = c.leave.new.self.trail.rest in
    let found = c.find_rest.result in
    let here : Finds rest.qubits half (scaled rest) found = subst (λ (m : ChannelGrid). Finds m.qubits half (scaled m) found) c.rest.ensures.value c.find_rest.ensures.finds in
    let behind = finds_of_same n half (scaled rest) _ left.same found (subst (λ (q : ℕ). Finds q half (scaled rest) found) left.qubits here) in
    let whole = subst (λ (w : List ℕ). Finds n half (removed n own w) found) c.split_front-prefix.ensures.front behind in
    finds_of_same n half (removed n own front) (removed n target front) (kept_removed n own target keeps front) found whole
