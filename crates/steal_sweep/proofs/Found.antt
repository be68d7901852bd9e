-- From what all seats know to the least hit.
use Rattle.std.proofs.Common.{◌≡◌, ℕ, ◌^◌, ◌<◌, ◌≤◌, ◌⊎◌, Bool, true, false, List, [], ◌∷◌, All, Contains, map, flat_map, sum_by, slice_index, get_or, refl, sym, ap, ◌∙◌, subst, ⊎_elim, arith}
use Rattle.std.specs.List.Sorted.{IsPermutation}
use Rattle.std.proofs.lemmas.List.Elements.{All-nil, All-map, All-same, All-contains}
use Rattle.work_shares.specs.declared.block.Block.{Block}
use Rattle.work_shares.specs.declared.share.Share.{Share}
use Rattle.work_shares.specs.declared.settling.Settled.{Settled}
use Rattle.work_shares.specs.Cuts.{dealt}
use Rattle.work_shares.specs.Blocks.{extents_of}
use Rattle.work_shares.specs.Shares.{noted_by, load_of, loads_of}
use Rattle.steal_sweep.specs.declared.rule.Known.{Known}
use Rattle.steal_sweep.specs.declared.best.Best.{Best}
use Rattle.steal_sweep.specs.declared.best.BestSeat.{BestSeat}
use Rattle.steal_sweep.specs.declared.search.Seeker.{Seeker}
use Rattle.steal_sweep.specs.BestRule.{none_yet}
use Rattle.steal_sweep.specs.Positions.{positions_in}
use Rattle.steal_sweep.specs.Searches.{IsHit, IsLeastHit, Covers, StandsFor}
use Rattle.steal_sweep.specs.Seats.{IsSeatOf, AreNewSeatsOf, known_by}
use Rattle.steal_sweep.proofs.Dealt.{whole_deal}
use Rattle.steal_sweep.proofs.Lists.{All-from_map, sum_by-map}
use Rattle.steal_sweep.proofs.Ranges.{in_range}

-- a seat that has put nothing covers no position
pub covers_none : (truth : ℕ → Bool) (total : ℕ) (v : Known) → v.put ≡ [] → Covers truth total v []
covers_none truth total v none = record { hits = All-same (IsHit truth total) v.put [] none (All-nil (IsHit truth total)); least = All-nil (λ p. truth p ≡ true → v.least ≤ p) }

-- a truth value that isn't true
not_true : (b : Bool) → (b ≡ true → ⊥) → b ≡ false
not_true true wrong = absurd (wrong refl)
not_true false _ = refl

module _ {L : Type 0} where
  abbrev pub seat_of : Share (Seeker L) → BestSeat
  seat_of s = s.load.seat

  -- where the locals are fit, and the seats are all those of a new word, each seeker stands for no position
  pub stands_for_none : (fit : L → Bool) (b : Best) (truth : ℕ → Bool) (total : ℕ) (seekers : List (Seeker L)) → All (λ s. fit s.local ≡ true) seekers → AreNewSeatsOf b (map (λ s. s.seat) seekers)
      → All (λ s. StandsFor fit b truth total s []) seekers
  stands_for_none fit b truth total seekers fits seats k d lt =
      let seat = λ (s : Seeker L). s.seat in
      let new = All-from_map seat (λ s. (known_by s).put ≡ []) seekers seats.new k d lt in
      (fits k d lt, All-from_map seat (IsSeatOf b) seekers seats.seat k d lt, covers_none truth total (known_by (get_or seekers k d).seat) new)

  -- a settled deal gives back what its shares carried
  pub carried_by : (settled : Settled (Seeker L)) (loads : List (Seeker L)) (shares : List (Share (Seeker L))) → loads ≡ loads_of settled → loads_of settled ≡ map load_of shares → loads ≡ map load_of shares
  carried_by settled loads shares given kept = given ∙ kept

  -- the parts of the shares' seats, where each share's are as they were
  pub parts_kept : (old new : List (Share (Seeker L))) → map (λ s. (known_by (seat_of s)).parts ∷ []) new ≡ map (λ s. (known_by (seat_of s)).parts ∷ []) old
      → sum_by (λ s. (known_by (seat_of s)).parts) new ≡ sum_by (λ s. (known_by (seat_of s)).parts) old
  parts_kept old new same =
      let name = λ (s : Share (Seeker L)). (known_by (seat_of s)).parts ∷ [] in
      let first : List ℕ → ℕ = λ l. slice_index l 0 in
      sym (sum_by-map first name new) ∙ (ap (λ l. sum_by first l) same ∙ sum_by-map first name old)

  -- where the seats of all shares are all those of a new word, they have eight parts, also as loads
  pub parts_whole : (b : Best) (old new : List (Share (Seeker L))) (loads : List (Seeker L)) → AreNewSeatsOf b (map (λ s. s.seat) (map load_of old)) → loads ≡ map load_of new
      → map (λ s. (known_by (seat_of s)).parts ∷ []) new ≡ map (λ s. (known_by (seat_of s)).parts ∷ []) old → sum_by (λ s. (known_by s.seat).parts) loads ≡ 8
  parts_whole b old new loads all are same =
      ap (λ l. sum_by (λ s. (known_by s.seat).parts) l) are
      ∙ (sum_by-map (λ s. (known_by s.seat).parts) (load_of {L = Seeker L}) new ∙ (parts_kept old new same ∙ (sym (sum_by-map (λ s. (known_by s.seat).parts) (load_of {L = Seeker L}) old) ∙ (sym (sum_by-map (λ s. (known_by s).parts) (λ s. s.seat) (map load_of old)) ∙ all.whole))))

  -- no hit is below a word that isn't above what any seat knows, where the seats cover what their shares took
  pub no_hit_below : (truth : ℕ → Bool) (total size word n : ℕ) (shares : List (Share (Seeker L))) (loads : List (Seeker L)) (taken : List (List Block)) → 0 < size → loads ≡ map load_of shares
      → taken ≡ map noted_by shares → IsPermutation (dealt total size) (flat_map extents_of taken) → All (λ s. Covers truth total (known_by (seat_of s)) (positions_in (noted_by s))) shares
      → word ≤ n → All (λ s. n ≤ (known_by s.seat).least) loads → (p : ℕ) → p < total → truth p ≡ true → word ≤ p
  no_hit_below truth total size word n shares loads taken some carried are once covered le low p lt hit =
      let P : ℕ → Type 0 = λ q. truth q ≡ true → word ≤ q in
      let Q : Seeker L → Type 0 = λ s. n ≤ (known_by s.seat).least in
      let known_low : All (λ s. Q (load_of s)) shares = All-from_map load_of Q shares (subst (All Q) carried low) in
      let each : All (λ s. All P (positions_in (noted_by s))) shares = λ k d in_list i e lt_i yes. (let a = (covered k d in_list).least i e lt_i yes in let b = known_low k d in_list in omega arith) in
      let blocks : All (λ blocks. All P (positions_in blocks)) taken = All-same (λ blocks. All P (positions_in blocks)) taken (map noted_by shares) are (All-map (λ blocks. All P (positions_in blocks)) noted_by shares each) in
      in_range P 0 total p (omega arith) (omega arith) (whole_deal P total size taken some once blocks) hit

  -- what the seats of the loads put are hits
  pub put_hits : (truth : ℕ → Bool) (total : ℕ) (shares : List (Share (Seeker L))) (loads : List (Seeker L)) → loads ≡ map load_of shares
      → All (λ s. Covers truth total (known_by (seat_of s)) (positions_in (noted_by s))) shares → All (λ s. All (IsHit truth total) (known_by s.seat).put) loads
  put_hits truth total shares loads carried covered =
      let P : Seeker L → Type 0 = λ s. All (IsHit truth total) (known_by s.seat).put in All-same P loads (map load_of shares) carried (All-map P load_of shares (λ k d lt. (covered k d lt).hits))

-- the word, where it is below the total, is the least hit
pub word_is_least : (truth : ℕ → Bool) (total word : ℕ) (put : List ℕ) → word < total → total < 2 ^ 64 → (word ≡ none_yet) ⊎ Contains put word → All (IsHit truth total) put
    → ((p : ℕ) → p < total → truth p ≡ true → word ≤ p) → IsLeastHit truth total word
word_is_least truth total word put lt fits was hits low =
    record {
      hit = ⊎_elim (λ none. absurd (omega arith)) (λ has. All-contains (IsHit truth total) put word hits has) was;
      least = λ q less. not_true (truth q) (λ yes. (let le = low q (omega arith) yes in omega arith));
    }

-- there is no hit where the word isn't below the total
pub none_below : (truth : ℕ → Bool) (total word : ℕ) → total ≤ word → ((p : ℕ) → p < total → truth p ≡ true → word ≤ p) → (p : ℕ) → p < total → truth p ≡ false
none_below truth total word le low p lt = not_true (truth p) (λ yes. (let l = low p lt yes in omega arith))
