use Rattle.std.proofs.Common.{ap, ◌∙◌, subst}
use Rattle.std.proofs.lemmas.Bool.{eqb-true, eq-eqb}
use Rattle.channel_rep.specs.Cells.{ChannelGrid, IsSignedPermutation}
use Rattle.channel_rep.proofs.UnitNorms.{unit_permutation}
use Rattle.channel_rep.proofs.narrow.Narrow.signed_permutation.Goals as goal

pub returns : goal.returns
returns c = (
  λ yes. subst IsSignedPermutation c.self.view_is (unit_permutation _ c.self.invariant.grid.channel (eqb-true c.self.inside.k 0 yes)),
  λ is. eq-eqb c.self.inside.k 0 (ap (λ (g : ChannelGrid). g.exponent) c.self.view_is ∙ is.exponent),
)
