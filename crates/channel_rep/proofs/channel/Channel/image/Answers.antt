use Rattle.std.proofs.Common.{◌≡◌, ◌<◌, ◌^◌, ℕ, ap, sym, ◌∙◌, subst, arith}
use Rattle.channel_rep.specs.Cells.{ChannelGrid}
use Rattle.channel_rep.proofs.Grids.{column_at}
use Rattle.channel_rep.proofs.Squares.{codes_few}
use Rattle.channel_rep.proofs.channel.Channel.image.Goals as goal

pub unit_of_column-requires-clause-one : goal.unit_of_column-requires-clause-one
unit_of_column-requires-clause-one c =
    let qubits : c.args.p.qubits ≡ c.self.inside.n = c.requires.same ∙ sym (ap (λ (g : ChannelGrid). g.qubits) c.self.view_is) in
    let below : c.code.result < c.codes.result = subst (λ size. c.code.result < size) (ap (λ (n : ℕ). 4 ^ n) qubits ∙ sym c.codes.ensures) c.code.ensures.below in
    column_at c.self.inside.n c.self.inside.k c.codes.result c.code.result c.self.inside.cells.items c.deref.result.now c.args.self.now c.self.view_is c.codes.ensures c.deref.ensures.value below c.requires.permutation

pub unit_of_column-requires-clause-few : goal.unit_of_column-requires-clause-few
unit_of_column-requires-clause-few c = omega (arith, codes_few c.self.inside.n c.self.invariant.few, c.codes.ensures)
