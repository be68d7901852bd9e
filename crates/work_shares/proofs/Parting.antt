-- How shares are taken apart, one by one.
use Rattle.std.proofs.Common.{◌≡◌, ◌<◌, List, [], ◌∷◌, ◌++◌, map, get_or, length, remove, slice_get, IfSome, sym, ap, ◌∙◌, subst, append_assoc, append-nil, arith}
use Rattle.std.proofs.lemmas.List.{nil_from_length}
use Rattle.work_shares.specs.declared.share.Share.{Share}
use Rattle.work_shares.specs.declared.parts.Parts.{Parts}
use Rattle.work_shares.specs.Parts.{HasRoom, IsEmpty, Gains}
use Rattle.work_shares.specs.Shares.{load_of}
use Rattle.work_shares.specs.Apart.{own_of, thefts_of, notes_of, ArePartsOf}

module _ {L : Type 0} where
  -- the parts are those of the shares before the rest, and there is room for the rest
  pub record IsParting (all rest : List (Share L)) (parts : Parts L) : Type 0 where
    pub owners : parts.owners.items ++ map own_of rest ≡ map own_of all
    pub thefts : parts.thefts.items ++ map thefts_of rest ≡ map thefts_of all
    pub notes : parts.notes.items ++ map notes_of rest ≡ map notes_of all
    pub loads : parts.loads.items ++ map load_of rest ≡ map load_of all
    pub room : HasRoom (length rest) parts

  -- one element goes over
  goes_over : {X : Type 0} (f : Share L → X) (done new : List X) (whole : List X) (s : Share L) (rest left : List (Share L)) → 0 < length rest → s ≡ get_or rest 0 s → left ≡ remove rest 0 → new ≡ done ++ f s ∷ []
      → done ++ map f rest ≡ whole → new ++ map f left ≡ whole
  goes_over f done new whole s [] left some is less more h = absurd (omega arith)
  goes_over f done new whole s (x ∷ xs) left some is less more h =
      ap (λ l. l ++ map f left) more ∙ append_assoc done (f s ∷ []) (map f left) ∙ (let same : f s ≡ f x = ap f is in let tail : left ≡ xs = less in ap (λ l. done ++ (f s ∷ map f l)) tail ∙ ap (λ y. done ++ (y ∷ map f xs)) same) ∙ h

  -- before the first
  pub parting_starts : (all : List (Share L)) (parts : Parts L) → IsEmpty parts → HasRoom (length all) parts → IsParting all all parts
  parting_starts all parts none room = record {
    owners = ap (λ l. l ++ map own_of all) (nil_from_length parts.owners.items none.owners);
    thefts = ap (λ l. l ++ map thefts_of all) (nil_from_length parts.thefts.items none.thefts);
    notes = ap (λ l. l ++ map notes_of all) (nil_from_length parts.notes.items none.notes);
    loads = ap (λ l. l ++ map load_of all) (nil_from_length parts.loads.items none.loads);
    room = room;
  }

  -- what holds of the first share
  pub holds_first : (P : Share L → Type 0) (shares : List (Share L)) (s : Share L) → 0 < length shares → s ≡ get_or shares 0 s → IfSome (slice_get shares 0) P → P s
  holds_first P [] s some is h = absurd (omega arith)
  holds_first P (x ∷ xs) s some is h = subst P (sym is) h

  -- one share more is taken apart
  pub parting_step : (all rest left : List (Share L)) (parts more : Parts L) (s : Share L) → 0 < length rest → s ≡ get_or rest 0 s → left ≡ remove rest 0 → Gains s.load s.seat parts more → HasRoom (length left) more → IsParting all rest parts → IsParting all left more
  parting_step all rest left parts more s some is less gains room h = record {
    owners = goes_over own_of parts.owners.items more.owners.items (map own_of all) s rest left some is less gains.owners h.owners;
    thefts = goes_over thefts_of parts.thefts.items more.thefts.items (map thefts_of all) s rest left some is less gains.thefts h.thefts;
    notes = goes_over notes_of parts.notes.items more.notes.items (map notes_of all) s rest left some is less gains.notes h.notes;
    loads = goes_over load_of parts.loads.items more.loads.items (map load_of all) s rest left some is less gains.loads h.loads;
    room = room;
  }

  -- all shares are taken apart
  pub parting_ends : (all rest : List (Share L)) (parts : Parts L) → rest ≡ [] → IsParting all rest parts → ArePartsOf all parts
  parting_ends all rest parts none h = record {
    owners = ends own_of parts.owners.items (map own_of all) rest none h.owners;
    thefts = ends thefts_of parts.thefts.items (map thefts_of all) rest none h.thefts;
    notes = ends notes_of parts.notes.items (map notes_of all) rest none h.notes;
    loads = ends load_of parts.loads.items (map load_of all) rest none h.loads;
  } where
    ends : {X : Type 0} (f : Share L → X) (done whole : List X) (rest : List (Share L)) → rest ≡ [] → done ++ map f rest ≡ whole → done ≡ whole
    ends f done whole rest none e = sym (append-nil done) ∙ ap (λ l. done ++ map f l) (sym none) ∙ e
