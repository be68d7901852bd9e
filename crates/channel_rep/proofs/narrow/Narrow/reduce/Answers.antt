use Rattle.std.proofs.Common.{◌≤◌, List, subst}
use Rattle.std.specs.Vec.{with_items}
use Rattle.channel_rep.specs.Cells.{ChannelGrid, scaled}
use Rattle.channel_rep.specs.Parts.{narrow_grid}
use Rattle.channel_rep.specs.Tables.{Step, ScaledTable, SameTable, IsBuiltOf}
use Rattle.channel_rep.proofs.Built.{built_same}
use Rattle.channel_rep.proofs.Least.{least_of_reduced}
use Rattle.channel_rep.proofs.NarrowGrids.{reduction_back}
use Rattle.channel_rep.proofs.narrow.Narrow.reduce.Goals as goal

pub invariant_of-self : goal.invariant_of-self
invariant_of-self c =
    let made = c.divide_parts-self-inside in
    let done = reduction_back c.self.inside.n c.self.inside.k made.result _ _ c.self.inside.a.items c.self.inside.b.items c.deref_mut.result.now c.deref_mut-2.result.now made.new.a made.new.b c.self.invariant c.deref_mut.ensures.value c.deref_mut-2.ensures.value
    c.deref_mut.ensures.len c.deref_mut-2.ensures.len made.auto.a made.auto.b made.ensures.low made.ensures.cells made.ensures.least in
    done.valid

pub returns-clause-value : goal.returns-clause-value
returns-clause-value c =
    let made = c.divide_parts-self-inside in
    let done = reduction_back c.self.inside.n c.self.inside.k made.result _ _ c.self.inside.a.items c.self.inside.b.items c.deref_mut.result.now c.deref_mut-2.result.now made.new.a made.new.b c.self.invariant c.deref_mut.ensures.value c.deref_mut-2.ensures.value
    c.deref_mut.ensures.len c.deref_mut-2.ensures.len made.auto.a made.auto.b made.ensures.low made.ensures.cells made.ensures.least in
    let new = narrow_grid c.self.inside.n made.result (with_items c.self.inside.a made.new.a).items (with_items c.self.inside.b made.new.b).items in
    subst (λ (g : ChannelGrid). SameTable g.qubits (scaled new) (scaled g)) c.self.view_is done.value

pub returns-clause-reduced : goal.returns-clause-reduced
returns-clause-reduced c =
    let made = c.divide_parts-self-inside in
    let done = reduction_back c.self.inside.n c.self.inside.k made.result _ _ c.self.inside.a.items c.self.inside.b.items c.deref_mut.result.now c.deref_mut-2.result.now made.new.a made.new.b c.self.invariant c.deref_mut.ensures.value c.deref_mut-2.ensures.value
    c.deref_mut.ensures.len c.deref_mut-2.ensures.len made.auto.a made.auto.b made.ensures.low made.ensures.cells made.ensures.least in
    done.least

pub returns-clause-least : goal.returns-clause-least
returns-clause-least c =
    let made = c.divide_parts-self-inside in
    let done = reduction_back c.self.inside.n c.self.inside.k made.result _ _ c.self.inside.a.items c.self.inside.b.items c.deref_mut.result.now c.deref_mut-2.result.now made.new.a made.new.b c.self.invariant c.deref_mut.ensures.value c.deref_mut-2.ensures.value
    c.deref_mut.ensures.len c.deref_mut-2.ensures.len made.auto.a made.auto.b made.ensures.low made.ensures.cells made.ensures.least in
    let new = narrow_grid c.self.inside.n made.result (with_items c.self.inside.a made.new.a).items (with_items c.self.inside.b made.new.b).items in
    let P = λ (g : ChannelGrid). (m : ScaledTable) → SameTable g.qubits m (scaled new) → made.result ≤ m.exponent in
    subst P c.self.view_is (least_of_reduced new done.least)

pub returns-clause-built : goal.returns-clause-built
returns-clause-built c =
    let made = c.divide_parts-self-inside in
    let done = reduction_back c.self.inside.n c.self.inside.k made.result _ _ c.self.inside.a.items c.self.inside.b.items c.deref_mut.result.now c.deref_mut-2.result.now made.new.a made.new.b c.self.invariant c.deref_mut.ensures.value c.deref_mut-2.ensures.value
    c.deref_mut.ensures.len c.deref_mut-2.ensures.len made.auto.a made.auto.b made.ensures.low made.ensures.cells made.ensures.least in
    let new = narrow_grid c.self.inside.n made.result (with_items c.self.inside.a made.new.a).items (with_items c.self.inside.b made.new.b).items in
    let P = λ (g : ChannelGrid). (steps : List Step) → IsBuiltOf g.qubits steps (scaled g) → IsBuiltOf g.qubits steps (scaled new) in
    subst P c.self.view_is (λ steps. built_same c.self.inside.n steps _ _ done.value)
