-- Shares and their parts.
use Rattle.std.specs.Prelude.{◌≡◌, List, Vec, map}
use Rattle.std.specs.declared.alloc.Global.{Global}
use Rattle.work_shares.specs.declared.block.Block.{Block}
use Rattle.work_shares.specs.declared.theft.Theft.{Theft}
use Rattle.work_shares.specs.declared.parts.Parts.{Parts}
use Rattle.work_shares.specs.declared.share.Share.{Share}
use Rattle.work_shares.specs.Owners.{Owner}
use Rattle.work_shares.specs.Shares.{load_of}

module _ {L : Type 0} where
  abbrev pub own_of : Share L → Owner
  own_of s = s.seat.own

  abbrev pub thefts_of : Share L → Vec Theft Global
  thefts_of s = s.seat.thefts

  abbrev pub notes_of : Share L → Vec Block Global
  notes_of s = s.seat.noted

  -- the parts of the shares, in their order
  pub record ArePartsOf (shares : List (Share L)) (parts : Parts L) : Type 0 where
    pub owners : parts.owners.items ≡ map own_of shares
    pub thefts : parts.thefts.items ≡ map thefts_of shares
    pub notes : parts.notes.items ≡ map notes_of shares
    pub loads : parts.loads.items ≡ map load_of shares
