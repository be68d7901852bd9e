use Rattle.std.proofs.Common.{subst}
use Rattle.work_shares.specs.Places.{Place}
use Rattle.work_shares.specs.Cuts.{dealt, IsPartOf}
use Rattle.work_shares.specs.Blocks.{extents_of}
use Rattle.work_shares.proofs.Noted.{noted_apart}
use Rattle.work_shares.proofs.share.Share.next.Goals as goal

pub returns-clause-apart : goal.returns-clause-apart
returns-clause-apart g c =
    let s = c.next.new.self in
    subst (λ (p : Place). IsPartOf (extents_of s.noted.items) (dealt p.total p.size)) c.next.ensures.place (noted_apart s c.next.ensures.seated)
