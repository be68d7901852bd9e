use Rattle.std.proofs.Common.{◌≡◌, true, ap, ◌∙◌}
use Rattle.std.proofs.lemmas.Bool.{and_parts}
use Rattle.channel_rep.specs.Cells.{ChannelGrid, scaled}
use Rattle.level_laws.specs.Levels.{removed}
use Rattle.level_store.specs.Stored.{letters_in}
use Rattle.level_store.proofs.Merely.{stored_at}
use Rattle.meet_middle.specs.Fronts.{front_of, front_meets}
use Rattle.meet_middle.specs.Kept.{same_table}
use Rattle.meet_middle.proofs.Totals.{look_tells}
use Rattle.meet_middle.proofs.search.FrontsTestProbe.answer.Goals as goal

pub returns : goal.returns
unfolding front_meets
returns g c =
    let n = g.row.N in
    let self = c.args.self.now in
    let words = letters_in self.level.now in
    let target = scaled self.target.now in
    let own = scaled c.args.local.now.trail.target in
    let front = front_of n words self.odd c.args.position in
    let keeps : same_table n own target ≡ true = (and_parts _ _ (and_parts _ _ c.requires.may).1).0 in
    let finds = c.look.ensures.finds target keeps in (
      c.is_some.ensures ∙ look_tells n self.half words (stored_at n self.half self.level.now c.requires.needs.number).level (removed n target front) c.look.result finds,
      ap (λ (m : ChannelGrid). same_table n (scaled m) target) c.look.ensures.target ∙ keeps,
      c.look.ensures.fit,
    )
