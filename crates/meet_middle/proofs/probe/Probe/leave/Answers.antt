use Rattle.std.proofs.Common.{◌≡◌, ◌≢◌, ◌+◌, ◌^◌, ◌<◌, ◌++◌, ◌∷◌, [], ℕ, Option, IfSome, IsTrue, false, ◌∙◌, subst, arith, rules}
use Rattle.pauli_basis.specs.Pauli.{PauliString}
use Rattle.channel_rep.specs.Cells.{scaled}
use Rattle.level_laws.specs.Levels.{StandsIn, removed}
use Rattle.meet_middle.specs.Halves.{middle_letters}
use Rattle.meet_middle.specs.Trails.{HasPast}
use Rattle.meet_middle.proofs.Passing.{past_word, past_letter, past_named}
use Rattle.meet_middle.proofs.probe.Probe.leave.Goals as goal

pub returns-then-reach-clause-none : goal.returns-then-reach-clause-none
returns-then-reach-clause-none g c =
    λ no found.
    let n = g.row.N in
    let trail = c.args.self.now.trail in
    let p = c.in-Some.letter.code in
    let yes : IsTrue c.reach.result = search rules in
    let q : trail.word.qubits ≡ n = search rules in
    let past = past_named c.reach.new.self.word.qubits n c.args.half p c.reach.new.self.target trail.target c.reach.new.self.word.letters c.args.prefix.letters (c.reach.ensures.qubits ∙ q) c.reach.ensures.target (c.reach.ensures.letters yes) (c.leave.ensures.past no) in
    past_letter n c.args.half (scaled trail.target) (c.args.prefix.letters ++ p ∷ []) past
    (subst (λ (o : Option PauliString). StandsIn n c.args.half (removed n (scaled trail.target) (c.args.prefix.letters ++ middle_letters o))) c.in-Some.is found)

pub returns-else-reach-clause-none : goal.returns-else-reach-clause-none
returns-else-reach-clause-none g c =
    λ no found.
    let n = g.row.N in
    let trail = c.args.self.now.trail in
    let p = c.in-Some.letter.code in
    let q : trail.word.qubits ≡ n = search rules in
    let past = subst (λ (k : ℕ). HasPast k (scaled trail.target) c.args.prefix.letters (c.args.half + 1)) q (c.reach.ensures.past no) in
    let good = subst (λ (o : Option PauliString). IfSome o (λ p. (p.qubits ≡ n) × (p.code < 4 ^ n) × (p.code ≢ 0))) c.in-Some.is c.requires.last in
    past_word n c.args.half (c.args.half + 1) (scaled trail.target) c.args.prefix.letters (p ∷ []) past c.requires.word ((good.1, good.2), tt) (omega arith)
    (subst (λ (o : Option PauliString). StandsIn n c.args.half (removed n (scaled trail.target) (c.args.prefix.letters ++ middle_letters o))) c.in-Some.is found)

pub returns-else-reach-2-clause-none : goal.returns-else-reach-2-clause-none
returns-else-reach-2-clause-none g c =
    λ no found.
    let n = g.row.N in
    let trail = c.args.self.now.trail in
    let failed : c.reach-in-None.result ≡ false = search rules in
    let q : trail.word.qubits ≡ n = search rules in
    let past = subst (λ (k : ℕ). HasPast k (scaled trail.target) c.args.prefix.letters c.args.half) q (c.reach-in-None.ensures.past failed) in
    past_word n c.args.half c.args.half (scaled trail.target) c.args.prefix.letters [] past c.requires.word tt (omega arith)
    (subst (λ (o : Option PauliString). StandsIn n c.args.half (removed n (scaled trail.target) (c.args.prefix.letters ++ middle_letters o))) c.in-None.is found)
