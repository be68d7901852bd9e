use Rattle.std.proofs.Common.{◌^◌, List, [], ◌∷◌, ◌++◌, sym, subst, arith}
use Rattle.std.specs.Vec.{with_items}
use Rattle.ring_laws.specs.Matrix.{product, Agree}
use Rattle.tc_ring.specs.Surds.{surds}
use Rattle.channel_rep.specs.Cells.{ChannelGrid, entries, table_of, scaled}
use Rattle.channel_rep.specs.Gates.{GateFits}
use Rattle.channel_rep.specs.Tables.{Step, by_gate, gate_table, IsBuiltOf}
use Rattle.channel_rep.proofs.Grids.{grid, grid_within, gate_done}
use Rattle.channel_rep.proofs.channel.Channel.left_gate.Goals as goal

pub move_rows-requires-clause-fits : goal.move_rows-requires-clause-fits
move_rows-requires-clause-fits c = subst (λ (g : ChannelGrid). GateFits g.qubits c.args.gate) (sym c.self.view_is) c.requires

pub move_rows-requires-clause-small : goal.move_rows-requires-clause-small
move_rows-requires-clause-small c = grid_within c.self.inside.n c.self.inside.k 62 _ _ (omega arith) c.deref_mut.ensures.value c.self.invariant

pub invariant_of-self : goal.invariant_of-self
invariant_of-self c =
    let done = gate_done c.self.inside.n c.self.inside.k _ c.self.inside.cells.items c.deref_mut.result.now c.move_rows.new.cells c.args.gate
    (subst (λ (g : ChannelGrid). GateFits g.qubits c.args.gate) (sym c.self.view_is) c.requires) c.self.invariant c.deref_mut.ensures.value c.deref_mut.ensures.len c.move_rows.ensures.whole c.move_rows.ensures.rows in
    done.valid

pub returns-clause-table : goal.returns-clause-table
returns-clause-table c =
    let done = gate_done c.self.inside.n c.self.inside.k _ c.self.inside.cells.items c.deref_mut.result.now c.move_rows.new.cells c.args.gate
    (subst (λ (g : ChannelGrid). GateFits g.qubits c.args.gate) (sym c.self.view_is) c.requires) c.self.invariant c.deref_mut.ensures.value c.deref_mut.ensures.len c.move_rows.ensures.whole c.move_rows.ensures.rows in
    subst (λ (g : ChannelGrid). Agree surds (4 ^ g.qubits) (entries (4 ^ c.self.inside.n) (with_items c.self.inside.cells c.move_rows.new.cells).items) (product surds (4 ^ g.qubits) (gate_table g.qubits c.args.gate) (table_of g)))
    c.self.view_is done.table

pub returns-clause-built : goal.returns-clause-built
returns-clause-built c =
    let done = gate_done c.self.inside.n c.self.inside.k _ c.self.inside.cells.items c.deref_mut.result.now c.move_rows.new.cells c.args.gate
    (subst (λ (g : ChannelGrid). GateFits g.qubits c.args.gate) (sym c.self.view_is) c.requires) c.self.invariant c.deref_mut.ensures.value c.deref_mut.ensures.len c.move_rows.ensures.whole c.move_rows.ensures.rows in
    subst (λ (g : ChannelGrid). (steps : List Step) → IsBuiltOf g.qubits steps (scaled g) → IsBuiltOf g.qubits (steps ++ by_gate c.args.gate ∷ []) (scaled (grid c.self.inside.n c.self.inside.k (with_items c.self.inside.cells c.move_rows.new.cells).items)))
    c.self.view_is done.built
