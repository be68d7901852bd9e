-- What the owners take back of all workers.
use Rattle.std.proofs.Common.{◌≡◌, ℕ, ◌+◌, ◌%◌, ◌≤◌, List, Vec, Global, [], ◌∷◌, ◌++◌, Some, All, map, length, length-append, slice_get, refl, sym, ap, ◌∙◌, subst, arith}
use Rattle.std.specs.List.{sum_by}
use Rattle.std.proofs.lemmas.List.{length-map, map-append}
use Rattle.std.proofs.lemmas.List.Sums.{sum_by_push}
use Rattle.work_shares.specs.declared.entry.Entry.{Entry}
use Rattle.work_shares.specs.declared.theft.Theft.{Theft}
use Rattle.work_shares.specs.Thefts.{DequeId, got_by}
use Rattle.work_shares.specs.Ways.{ways_of, ways_from}
use Rattle.work_shares.specs.Owners.{Owner, deque_of, LeadOn, LeadAllOn, IsLive, KeepMarks, TookBack}
use Rattle.work_shares.proofs.Indexes.{slice_get-front, slice_get-last}
use Rattle.work_shares.proofs.TakingBack.{Taking, taking_starts}

-- ways of one worker more
pub ways_from-push : (workers deque first : ℕ) (ns : List ℕ) (n : ℕ) → ways_from workers deque first (ns ++ n ∷ []) ≡ ways_from workers deque first ns + ways_of workers deque (first + length ns) n
unfolding ways_from
ways_from-push workers deque first [] n = let same : ways_of workers deque first n ≡ ways_of workers deque (first + 0) n = ap (λ k. ways_of workers deque k n) (let e : first ≡ first + 0 = omega arith in e) in omega arith
ways_from-push workers deque first (m ∷ ms) n =
    let r = ways_from-push workers deque (first + 1) ms n in
    let same : ways_of workers deque (first + 1 + length ms) n ≡ ways_of workers deque (first + length (m ∷ ms)) n = ap (λ k. ways_of workers deque k n) (let e : first + 1 + length ms ≡ first + length (m ∷ ms) = omega arith in e) in
    omega arith

-- how many thefts each worker has
abbrev pub lengths_of : List (Vec Theft Global) → List ℕ
lengths_of thefts = map (λ (own : Vec Theft Global). length own.items) thefts

-- what all thefts got, by a weight
abbrev pub all_got : (Entry → ℕ) → List (Vec Theft Global) → ℕ
all_got weight thefts = sum_by (λ (own : Vec Theft Global). sum_by (got_by weight) own.items) thefts

-- the owners may still take back the thefts of these workers
pub record AreLeft (all : List (Vec Theft Global)) (old : List Owner) (rest : List (Vec Theft Global)) (now : List Owner) : Type 0 where
  pub live : All IsLive now
  pub marks : KeepMarks old now
  pub lead : LeadAllOn (map deque_of now) rest
  pub wide : length now ≡ length old
  pub short : length rest ≤ length old
  pub taking : Taking (λ d. ways_from (length old) d 0 (lengths_of rest)) (λ d. ways_from (length old) d 0 (lengths_of all)) (λ weight. all_got weight rest) (λ weight. all_got weight all) old now

pub all_starts : (all : List (Vec Theft Global)) (old : List Owner) → All IsLive old → LeadAllOn (map deque_of old) all → length all ≡ length old → AreLeft all old all old
all_starts all old live lead short = record {
  live = live;
  marks = λ d. omega arith;
  lead = lead;
  wide = refl;
  short = omega arith;
  taking = taking_starts (λ d. ways_from (length old) d 0 (lengths_of all)) (λ weight. all_got weight all) old;
}

-- once no theft is left, all is taken back
pub all_ends : (all rest : List (Vec Theft Global)) (old new : List Owner) → rest ≡ [] → AreLeft all old rest new → TookBack (λ d. ways_from (length old) d 0 (lengths_of all)) (λ weight. all_got weight all) old new
unfolding ways_from
all_ends all rest old new none h = record {
  deques = h.taking.deques;
  pushed = h.taking.pushed;
  parts = λ d lt. omega (arith, h.taking.parts d lt, ap (λ l. ways_from (length old) d 0 (lengths_of l)) none);
  got = λ weight. omega (arith, h.taking.got weight, ap (all_got weight) none);
}

-- the thefts of the last worker lead on
pub last-leads : (deques : List DequeId) (rest done : List (Vec Theft Global)) (own : Vec Theft Global) (n : ℕ) → rest ≡ done ++ own ∷ [] → n ≡ length done → LeadAllOn deques rest → LeadOn deques n own.items
last-leads deques rest done own n is long h = h n own (ap (slice_get rest) long ∙ ap (λ l. slice_get l (length done)) is ∙ slice_get-last done own)

-- the thefts of the last worker are taken back
pub all_step : (n : ℕ) (all : List (Vec Theft Global)) (old : List Owner) (rest : List (Vec Theft Global)) (now : List Owner) (done : List (Vec Theft Global)) (own : Vec Theft Global) (new : List Owner) → rest ≡ done ++ own ∷ [] → n ≡ length done
    → All IsLive new → KeepMarks now new → TookBack (λ d. ways_of (length now) d n (length own.items)) (λ weight. sum_by (got_by weight) own.items) now new → AreLeft all old rest now → AreLeft all old done new
all_step n all old rest now done own new is long live marks t h =
    let same : length new ≡ length now = sym (length-map new deque_of) ∙ ap length t.deques ∙ length-map now deque_of in
    let more : length rest ≡ length done + 1 = ap length is ∙ length-append done (own ∷ []) in
    let short : length done ≤ length old = (let s = h.short in omega arith) in
    let lens : lengths_of rest ≡ lengths_of done ++ length own.items ∷ [] = ap lengths_of is ∙ map-append (λ (v : Vec Theft Global). length v.items) done (own ∷ []) in
    let ways : (d : ℕ) → ways_from (length old) d 0 (lengths_of rest) ≡ ways_from (length old) d 0 (lengths_of done) + ways_of (length now) d n (length own.items) = λ d.
    ap (ways_from (length old) d 0) lens ∙ ways_from-push (length old) d 0 (lengths_of done) (length own.items)
    ∙ ap (λ k. ways_from (length old) d 0 (lengths_of done) + k)
    (ap (λ k. ways_of (length old) d k (length own.items)) (let e : 0 + length (lengths_of done) ≡ n = omega (arith, length-map done (λ (v : Vec Theft Global). length v.items)) in e)
    ∙ ap (λ k. ways_of k d n (length own.items)) (sym h.wide)) in
    record {
      live = live;
      marks = λ d. omega (arith, h.marks d, marks d);
      lead = λ worker w e i d f. subst (λ (l : List DequeId). slice_get l ((worker + 1 + i) % length l) ≡ Some d) (sym t.deques)
          (h.lead worker w (ap (λ l. slice_get l worker) is ∙ slice_get-front done (own ∷ []) worker w e) i d f);
      wide = same ∙ h.wide;
      short = short;
      taking = record {
        deques = t.deques ∙ h.taking.deques;
        pushed = t.pushed ∙ h.taking.pushed;
        parts = λ d lt. (let w = h.wide in omega (arith, h.taking.parts d lt, t.parts d (omega arith), ways d));
        got = λ weight. omega (arith, h.taking.got weight, t.got weight, ap (all_got weight) is, sum_by_push (λ (v : Vec Theft Global). sum_by (got_by weight) v.items) done own);
      };
    }
