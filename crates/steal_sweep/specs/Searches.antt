-- What a search knows of the hits, and what a worker does at a position.
use Rattle.std.specs.Prelude.{◌≡◌, ℕ, ◌<◌, ◌≤◌, Bool, true, false, List, ◌∷◌, All}
use Rattle.steal_sweep.specs.declared.rule.Known.{Known}
use Rattle.steal_sweep.specs.declared.best.Best.{Best}
use Rattle.steal_sweep.specs.declared.search.Seeker.{Seeker}
use Rattle.steal_sweep.specs.BestRule.{known}
use Rattle.steal_sweep.specs.Seats.{IsSeatOf, known_by}

-- a position below total at which the truth value is true
abbrev pub IsHit : (ℕ → Bool) → ℕ → ℕ → Type 0
IsHit truth total p = (p < total) × (truth p ≡ true)

-- a hit, and none is less
pub record IsLeastHit (truth : ℕ → Bool) (total p : ℕ) : Type 0 where
  pub hit : IsHit truth total p
  pub least : (q : ℕ) → q < p → truth q ≡ false

-- each position that a seat put is a hit, and it knows a number that no hit of the list is below
pub record Covers (truth : ℕ → Bool) (total : ℕ) (v : Known) (done : List ℕ) : Type 0 where
  pub hits : All (IsHit truth total) v.put
  pub least : All (λ p. truth p ≡ true → v.least ≤ p) done

-- a seat that knew v has loaded the word, just once: the word isn't above what it knew; it knows the word now, has put
-- nothing, and has seen the word last
pub record Loads (v : Known) (word : ℕ) (w : Known) : Type 0 where
  pub falls : word ≤ v.least
  pub knows : w ≡ known v.parts word v.put (word ∷ v.seen)

-- a seat that knew v has put p, and loaded nothing: the word isn't above p now
pub record Puts (v : Known) (p : ℕ) (w : Known) : Type 0 where
  pub parts : w.parts ≡ v.parts
  pub put : w.put ≡ p ∷ v.put
  pub seen : w.seen ≡ v.seen
  pub least : w.least ≤ p

module _ {L : Type 0} where
  -- the local is fit, and the seat is one of the word and covers the list
  abbrev pub StandsFor : (L → Bool) → Best → (ℕ → Bool) → ℕ → Seeker L → List ℕ → Type 0
  StandsFor fit best truth total seeker done = (fit seeker.local ≡ true) × IsSeatOf best seeker.seat × Covers truth total (known_by seeker.seat) done

module _ {T L : Type 0} where
  -- what a worker does at position p: it loads the word, and asks the test unless that word is no greater than p
  pub data Seeks (gives : T → L → ℕ → Bool → L → Type 0) (test : T) (old : Seeker L) (p : ℕ) (new : Seeker L) : Type 0 where
    -- the word is no greater: the test isn't asked, and the local is as it was
    skipped : (word : ℕ) → Loads (known_by old.seat) word (known_by new.seat) → word ≤ p → new.local ≡ old.local
        → Seeks gives test old p new
    -- the word is greater: the test was asked, and answered false
    missed : (word : ℕ) → Loads (known_by old.seat) word (known_by new.seat) → p < word
        → gives test old.local p false new.local → Seeks gives test old p new
    -- the word is greater: the test was asked, and answered true, and the seat has put the position
    found : (word : ℕ) (v : Known) → Loads (known_by old.seat) word v → p < word
        → gives test old.local p true new.local → Puts v p (known_by new.seat) → Seeks gives test old p new
