use Rattle.channel_rep.proofs.Lines.{identity_done}
use Rattle.channel_rep.proofs.channel.Channel.make_identity.Goals as goal

pub invariant_of-self : goal.invariant_of-self
invariant_of-self c =
    identity_done c.self.inside.n c.self.inside.k _ c.codes.result c.self.inside.cells.items c.deref_mut.result.now c.write_identity.new.cells c.self.invariant c.codes.ensures c.deref_mut.ensures.value
    c.deref_mut.ensures.len c.write_identity.ensures.whole c.write_identity.ensures.identity
