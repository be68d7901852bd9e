-- Parts of shares, as lists.
use Rattle.std.specs.Prelude.{◌≡◌, ℕ, ◌+◌, ◌≤◌, [], ◌∷◌, ◌++◌, length, vec_len, vec_capacity}
use Rattle.work_shares.specs.declared.seat.Seat.{Seat}
use Rattle.work_shares.specs.declared.parts.Parts.{Parts}

module _ {L : Type 0} where
  -- there is room for the parts of so many shares more
  pub record HasRoom (n : ℕ) (parts : Parts L) : Type 0 where
    pub owners : vec_len parts.owners + n ≤ vec_capacity parts.owners
    pub thefts : vec_len parts.thefts + n ≤ vec_capacity parts.thefts
    pub notes : vec_len parts.notes + n ≤ vec_capacity parts.notes
    pub loads : vec_len parts.loads + n ≤ vec_capacity parts.loads

  pub record IsEmpty (parts : Parts L) : Type 0 where
    pub owners : length parts.owners.items ≡ 0
    pub thefts : length parts.thefts.items ≡ 0
    pub notes : length parts.notes.items ≡ 0
    pub loads : length parts.loads.items ≡ 0

  -- the parts of one share joined the lists
  pub record Gains (load : L) (seat : Seat) (old new : Parts L) : Type 0 where
    pub owners : new.owners.items ≡ old.owners.items ++ seat.own ∷ []
    pub thefts : new.thefts.items ≡ old.thefts.items ++ seat.thefts ∷ []
    pub notes : new.notes.items ≡ old.notes.items ++ seat.noted ∷ []
    pub loads : new.loads.items ≡ old.loads.items ++ load ∷ []
