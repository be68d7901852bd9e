use Rattle.std.proofs.Common.{◌≡◌, true, sym, subst}
use Rattle.channel_rep.specs.Cells.{ChannelGrid, scaled}
use Rattle.channel_rep.proofs.Built.{same_table_refl}
use Rattle.meet_middle.specs.Kept.{same_table}
use Rattle.meet_middle.proofs.Keeping.{same_table_decided}
use Rattle.meet_middle.proofs.probe.Probe.new.Goals as goal

pub returns-clause-keeps : goal.returns-clause-keeps
returns-clause-keeps g c =
    let n = g.row.N in
    let m = scaled c.args.target.now in
    subst (λ (t : ChannelGrid). same_table n (scaled t) m ≡ true) (sym c.in_ok-new.ensures.target) ((same_table_decided n m m).1 (same_table_refl n m))
