use Rattle.std.proofs.Common.{sym, ◌∙◌, subst}
use Rattle.channel_rep.specs.Cells.{ChannelGrid, scaled}
use Rattle.meet_middle.specs.Trails.{IsRest}
use Rattle.meet_middle.proofs.Trailing.{held_kept}
use Rattle.meet_middle.proofs.trail.Trail.leave_all.Goals as goal

pub returns-clause-rest : goal.returns-clause-rest
returns-clause-rest c =
    let s = c.self.inside in
    let held = c.args.self.now in
    let kept = held_kept s.rests.items s.word s.rest s.turns held c.self.invariant c.self.view_is c.len.ensures.valid c.len.result c.len.ensures.value c.index-kept.result.now c.index-kept.ensures in
    subst (λ (m : ChannelGrid). IsRest held.word.qubits (scaled held.target) held.word.letters m) (sym (c.copy_from.ensures ∙ c.narrow.ensures.value))
    (record { qubits = kept.qubits; reduced = c.narrow.ensures.reduced; circuit = kept.circuit; same = kept.same })
