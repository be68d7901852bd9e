-- The totals of the search, by the truth values of their fronts.
use Rattle.std.proofs.Common.{◌≡◌, ℕ, Bool, true, false, ◌+◌, ◌<◌, ◌≤◌, List, ◌++◌, length, Option, Some, None, is_some, Decides, sym, ◌∙◌, true≢false}
use Rattle.std.specs.Bool.{one_answer}
use Rattle.coset_label.specs.Words.{RotationWord}
use Rattle.level_store.specs.Stored.{Finds}
use Rattle.channel_rep.specs.Tables.{ScaledTable}
use Rattle.meet_laws.specs.Laws.{TellsTotal}
use Rattle.level_laws.specs.Levels.{has_word, IsLevel, IsLeastWord, NoneBelow, Meets, removed}
use Rattle.meet_laws.proofs.Totals.{even_total, odd_total}
use Rattle.steal_sweep.specs.Searches.{IsLeastHit}
use Rattle.meet_middle.specs.Fronts.{front_of, fronts_of, front_meets, total_of}
use Rattle.level_laws.proofs.AllWords.{stands_decided}

module _ (n : ℕ) (some : 0 < n) (few : n ≤ 3) (h : ℕ) (words : List (List ℕ)) (level : IsLevel n h words) (m : ScaledTable) where
  pub meets_decided : (odd : Bool) (i : ℕ) → Decides (front_meets n words odd m i) ((b : List ℕ) × Meets n m h (front_of n words odd i) b)
  unfolding front_meets
  meets_decided odd i = stands_decided n h words level (removed n m (front_of n words odd i))

  never : (odd : Bool) (i : ℕ) → front_meets n words odd m i ≡ false → (b : List ℕ) → Meets n m h (front_of n words odd i) b → ⊥
  never odd i e b meets = true≢false (sym ((meets_decided odd i).1 (b, meets)) ∙ e)

  tells : (odd : Bool) → NoneBelow n m (total_of h odd) → TellsTotal n m (total_of h odd) h (fronts_of n words odd) (front_of n words odd)
  tells true none = odd_total n some few m h words level none
  tells false none = even_total n some few m h words level none

  -- no front meets
  pub none_hit : (odd : Bool) → NoneBelow n m (total_of h odd) → ((p : ℕ) → p < fronts_of n words odd → front_meets n words odd m p ≡ false) → NoneBelow n m (total_of h odd + 1)
  none_hit odd none misses = (tells odd none).none (λ i l b meets. never odd i (misses i l) b meets)

  -- the first front that meets
  pub first_hit : (odd : Bool) → NoneBelow n m (total_of h odd) → (p : ℕ) → IsLeastHit (front_meets n words odd m) (fronts_of n words odd) p
      → (b : List ℕ) → Meets n m h (front_of n words odd p) b → IsLeastWord n m (front_of n words odd p ++ b)
  first_hit odd none p hit b meets = (tells odd none).first p hit.hit.0 b meets (λ j l x other. never odd j (hit.least j l) x other)

  pub long_hit : (odd : Bool) → NoneBelow n m (total_of h odd) → (p : ℕ) → p < fronts_of n words odd
      → (b : List ℕ) → Meets n m h (front_of n words odd p) b → length (front_of n words odd p ++ b) ≡ total_of h odd
  long_hit odd none p l b meets = (tells odd none).long p l b meets

-- a look into a level tells whether one of its words is in the coset of a table
pub look_tells : (n k : ℕ) (words : List (List ℕ)) → IsLevel n k words → (m : ScaledTable) (r : Option RotationWord) → Finds n k m r → is_some r ≡ has_word n m words
look_tells n k words level m (Some w) h = sym ((stands_decided n k words level m).1 (w.letters, h.1))
look_tells n k words level m None h = one_answer false (has_word n m words) (λ e. absurd (true≢false (sym e)), λ found. absurd (h found)) (stands_decided n k words level m)
