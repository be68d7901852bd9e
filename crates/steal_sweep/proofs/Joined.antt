-- One seat that takes in the seats of seekers.
use Rattle.std.proofs.Common.{◌≡◌, ℕ, ◌+◌, ◌≤◌, min, Bool, List, [], ◌∷◌, ◌++◌, All, sum_by, sym, ap, ◌∙◌, subst, arith}
use Rattle.std.proofs.lemmas.List.Elements.{All-append, All-push, All-pop}
use Rattle.std.proofs.lemmas.List.Sums.{sum_by_push}
use Rattle.std.specs.Prelude.{Some}
use Rattle.steal_sweep.specs.declared.best.Best.{Best}
use Rattle.steal_sweep.specs.declared.best.BestSeat.{BestSeat}
use Rattle.steal_sweep.specs.declared.search.Seeker.{Seeker}
use Rattle.steal_sweep.specs.BestRule.{known}
use Rattle.steal_sweep.specs.Searches.{IsHit}
use Rattle.steal_sweep.specs.Seats.{IsSeatOf, seat_table, known_by}

module _ {L : Type 0} where
  -- a seat of this word
  abbrev pub HasSeatOf : Best → Seeker L → Type 0
  HasSeatOf b s = IsSeatOf b s.seat

  abbrev pub parts_in : List (Seeker L) → ℕ
  parts_in seekers = sum_by (λ s. (known_by s.seat).parts) seekers

  -- its seat knows no number below n
  abbrev pub KnowsFrom : ℕ → Seeker L → Type 0
  KnowsFrom n s = n ≤ (known_by s.seat).least

  -- its seat put hits alone
  abbrev pub PutHits : (ℕ → Bool) → ℕ → Seeker L → Type 0
  PutHits truth total s = All (IsHit truth total) (known_by s.seat).put

  -- the seat has taken in those of all seekers but the ones that are left
  pub record Joined (b : Best) (all : BestSeat) (left whole : List (Seeker L)) : Type 0 where
    pub seat : IsSeatOf b all
    pub seats : All (HasSeatOf b) left
    pub parts : (known_by all).parts + parts_in left ≡ parts_in whole
    pub least : (n : ℕ) → n ≤ (known_by all).least → All (KnowsFrom n) left → All (KnowsFrom n) whole
    pub hits : (truth : ℕ → Bool) (total : ℕ) → All (PutHits truth total) whole → All (IsHit truth total) (known_by all).put × All (PutHits truth total) left

  -- what holds of all holds of the last and of those before it
  cut : (P : Seeker L → Type 0) (ys : List (Seeker L)) (s : Seeker L) → All P (ys ++ s ∷ []) → All P ys × P s
  cut P ys s all = All-pop P (ys ++ s ∷ []) ys (Some s) (λ i. ys ++ s ∷ []) all

  -- the last seeker has a seat of the word
  pub last_of : (b : Best) (xs ys : List (Seeker L)) (s : Seeker L) → xs ≡ ys ++ s ∷ [] → All (HasSeatOf b) xs → HasSeatOf b s
  last_of b xs ys s is all = (cut (HasSeatOf b) ys s (subst (All (HasSeatOf b)) is all)).1

  -- the last seeker's seat, before it takes in another
  pub joined_first : (b : Best) (s : Seeker L) (ys xs : List (Seeker L)) → xs ≡ ys ++ s ∷ [] → All (HasSeatOf b) xs → Joined b s.seat ys xs
  joined_first b s ys xs is seats = subst (Joined b s.seat ys) (sym is) (first (cut (HasSeatOf b) ys s (subst (All (HasSeatOf b)) is seats)))
    where
      first : All (HasSeatOf b) ys × HasSeatOf b s → Joined b s.seat ys (ys ++ s ∷ [])
      first both = record {
        seat = both.1;
        seats = both.0;
        parts = (let p = sum_by_push (λ (t : Seeker L). (known_by t.seat).parts) ys s in omega arith);
        least = λ n le all. All-push (KnowsFrom n) ys s all le;
        hits = λ truth total all. (let h = cut (PutHits truth total) ys s all in (h.1, h.0));
      }

  -- the seat takes in that of the last seeker that is left
  pub joined_next : (b : Best) (all all' : BestSeat) (s : Seeker L) (ys xs whole : List (Seeker L)) → xs ≡ ys ++ s ∷ [] → seat_table all' ≡ seat_table all
      → known_by all' ≡ known ((known_by all).parts + (known_by s.seat).parts) (min (known_by all).least (known_by s.seat).least) ((known_by all).put ++ (known_by s.seat).put) (known_by all).seen
      → Joined b all xs whole → Joined b all' ys whole
  joined_next b all all' s ys xs whole is same both j =
      let j' : Joined b all (ys ++ s ∷ []) whole = subst (λ (l : List (Seeker L)). Joined b all l whole) is j in
      let p = sum_by_push (λ (t : Seeker L). (known_by t.seat).parts) ys s in
      let q = j'.parts in
      let e : (known_by all').parts ≡ (known_by all).parts + (known_by s.seat).parts = ap (λ k. k.parts) both in
      let m : (known_by all').least ≡ min (known_by all).least (known_by s.seat).least = ap (λ k. k.least) both in
      record {
        seat = same ∙ j.seat;
        seats = (cut (HasSeatOf b) ys s j'.seats).0;
        parts = omega arith;
        least = λ n le rest. j'.least n (omega arith) (All-push (KnowsFrom n) ys s rest (omega arith));
        hits = λ truth total hit.
            (let h = j'.hits truth total hit in let c = cut (PutHits truth total) ys s h.1 in
            (subst (All (IsHit truth total)) (sym (ap (λ k. k.put) both)) (All-append (IsHit truth total) (known_by all).put (known_by s.seat).put h.0 c.1), c.0));
      }
