use Rattle.std.proofs.Common.{◌^◌, List, ◌++◌, ap, sym, ◌∙◌, subst, arith}
use Rattle.std.specs.Vec.{with_items}
use Rattle.channel_rep.specs.Cells.{ChannelGrid, EntriesWithin, scaled}
use Rattle.channel_rep.specs.Tables.{Step, IsBuiltOf}
use Rattle.channel_rep.specs.Conjugations.{IsConjugationBy, gate_steps}
use Rattle.channel_rep.specs.declared.gate.ChannelGate.{ChannelGate}
use Rattle.channel_rep.proofs.Grids.{grid, grid_within}
use Rattle.channel_rep.proofs.ConjugatedGrids.{conjugation_done}
use Rattle.channel_rep.proofs.channel.Channel.conjugate_from.Goals as goal

pub conjugate_rows-requires-clause-small : goal.conjugate_rows-requires-clause-small
conjugate_rows-requires-clause-small c =
    subst (λ n. EntriesWithin (2 ^ 62) (4 ^ n) c.deref.result.now) (sym (c.requires.as_many ∙ sym (ap (λ (g : ChannelGrid). g.qubits) c.o.view_is)))
    (grid_within c.o.inside.n c.o.inside.k 62 c.o.inside.cells.items c.deref.result.now (omega arith) c.deref.ensures.value c.o.invariant)

pub invariant_of-self : goal.invariant_of-self
invariant_of-self c =
    let qubits = ap (λ (g : ChannelGrid). g.qubits) c.o.view_is in
    let done = conjugation_done c.o.inside.n c.self.inside.n c.o.inside.k _ c.args.by.now c.o.inside.cells.items c.deref.result.now c.self.inside.cells.items c.deref_mut.result.now c.conjugate_rows.new.cells
    (c.requires.as_many ∙ sym qubits) (ap (λ (g : ChannelGrid). g.qubits) c.self.view_is ∙ c.requires.same ∙ sym qubits) c.conjugate_rows.ensures.valid c.o.invariant c.deref.ensures.value
    c.self.invariant.whole c.deref_mut.ensures.value c.deref_mut.ensures.len c.conjugate_rows.ensures.whole c.conjugate_rows.ensures.rows in
    done.valid

pub returns-clause-built : goal.returns-clause-built
returns-clause-built c =
    let qubits = ap (λ (g : ChannelGrid). g.qubits) c.o.view_is in
    let done = conjugation_done c.o.inside.n c.self.inside.n c.o.inside.k _ c.args.by.now c.o.inside.cells.items c.deref.result.now c.self.inside.cells.items c.deref_mut.result.now c.conjugate_rows.new.cells
    (c.requires.as_many ∙ sym qubits) (ap (λ (g : ChannelGrid). g.qubits) c.self.view_is ∙ c.requires.same ∙ sym qubits) c.conjugate_rows.ensures.valid c.o.invariant c.deref.ensures.value
    c.self.invariant.whole c.deref_mut.ensures.value c.deref_mut.ensures.len c.conjugate_rows.ensures.whole c.conjugate_rows.ensures.rows in
    let P = λ (g : ChannelGrid). (gates : List ChannelGate) → IsConjugationBy gates c.args.by.now → (steps : List Step) → IsBuiltOf g.qubits steps (scaled g)
    → IsBuiltOf g.qubits (steps ++ gate_steps gates) (scaled (grid c.self.inside.n c.o.inside.k (with_items c.self.inside.cells c.conjugate_rows.new.cells).items)) in
    subst P c.o.view_is done.built
