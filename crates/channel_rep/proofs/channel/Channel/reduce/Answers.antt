use Rattle.std.proofs.Common.{◌≤◌, List, subst}
use Rattle.std.specs.Vec.{with_items}
use Rattle.channel_rep.specs.Cells.{ChannelGrid, scaled}
use Rattle.channel_rep.specs.Tables.{Step, ScaledTable, SameTable, IsBuiltOf}
use Rattle.channel_rep.proofs.Built.{built_same}
use Rattle.channel_rep.proofs.Least.{least_of_reduced}
use Rattle.channel_rep.proofs.Grids.{grid, reduce_done}
use Rattle.channel_rep.proofs.channel.Channel.reduce.Goals as goal

pub invariant_of-self : goal.invariant_of-self
invariant_of-self c =
    let done = reduce_done c.self.inside.n c.self.inside.k c.divide_out-self-inside.result _ c.self.inside.cells.items c.deref_mut.result.now c.divide_out-self-inside.new.cells
    c.self.invariant c.deref_mut.ensures.value c.deref_mut.ensures.len c.divide_out-self-inside.auto.cells c.divide_out-self-inside.ensures.low c.divide_out-self-inside.ensures.cells c.divide_out-self-inside.ensures.least in
    done.valid

pub returns-clause-value : goal.returns-clause-value
returns-clause-value c =
    let done = reduce_done c.self.inside.n c.self.inside.k c.divide_out-self-inside.result _ c.self.inside.cells.items c.deref_mut.result.now c.divide_out-self-inside.new.cells
    c.self.invariant c.deref_mut.ensures.value c.deref_mut.ensures.len c.divide_out-self-inside.auto.cells c.divide_out-self-inside.ensures.low c.divide_out-self-inside.ensures.cells c.divide_out-self-inside.ensures.least in
    subst (λ (g : ChannelGrid). SameTable g.qubits (scaled (grid c.self.inside.n c.divide_out-self-inside.result (with_items c.self.inside.cells c.divide_out-self-inside.new.cells).items)) (scaled g)) c.self.view_is done.value

pub returns-clause-reduced : goal.returns-clause-reduced
returns-clause-reduced c =
    let done = reduce_done c.self.inside.n c.self.inside.k c.divide_out-self-inside.result _ c.self.inside.cells.items c.deref_mut.result.now c.divide_out-self-inside.new.cells
    c.self.invariant c.deref_mut.ensures.value c.deref_mut.ensures.len c.divide_out-self-inside.auto.cells c.divide_out-self-inside.ensures.low c.divide_out-self-inside.ensures.cells c.divide_out-self-inside.ensures.least in
    done.least

pub returns-clause-least : goal.returns-clause-least
returns-clause-least c =
    let done = reduce_done c.self.inside.n c.self.inside.k c.divide_out-self-inside.result _ c.self.inside.cells.items c.deref_mut.result.now c.divide_out-self-inside.new.cells
    c.self.invariant c.deref_mut.ensures.value c.deref_mut.ensures.len c.divide_out-self-inside.auto.cells c.divide_out-self-inside.ensures.low c.divide_out-self-inside.ensures.cells c.divide_out-self-inside.ensures.least in
    let P = λ (g : ChannelGrid). (m : ScaledTable) → SameTable g.qubits m (scaled (grid c.self.inside.n c.divide_out-self-inside.result (with_items c.self.inside.cells c.divide_out-self-inside.new.cells).items)) → c.divide_out-self-inside.result ≤ m.exponent in
    subst P c.self.view_is (least_of_reduced (grid c.self.inside.n c.divide_out-self-inside.result (with_items c.self.inside.cells c.divide_out-self-inside.new.cells).items) done.least)

pub returns-clause-built : goal.returns-clause-built
returns-clause-built c =
    let done = reduce_done c.self.inside.n c.self.inside.k c.divide_out-self-inside.result _ c.self.inside.cells.items c.deref_mut.result.now c.divide_out-self-inside.new.cells
    c.self.invariant c.deref_mut.ensures.value c.deref_mut.ensures.len c.divide_out-self-inside.auto.cells c.divide_out-self-inside.ensures.low c.divide_out-self-inside.ensures.cells c.divide_out-self-inside.ensures.least in
    let P = λ (g : ChannelGrid). (steps : List Step) → IsBuiltOf g.qubits steps (scaled g) → IsBuiltOf g.qubits steps (scaled (grid c.self.inside.n c.divide_out-self-inside.result (with_items c.self.inside.cells c.divide_out-self-inside.new.cells).items)) in
    subst P c.self.view_is (λ steps. built_same c.self.inside.n steps _ _ done.value)
