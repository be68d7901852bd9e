-- Entries are pushed one by one.
use Rattle.std.proofs.Common.{◌≡◌, ℕ, ◌+◌, ◌-◌, ◌*◌, ◌/◌, ◌<◌, ◌≤◌, List, [], ◌∷◌, ◌++◌, map, filter, replicate, refl, sym, ap, ◌∙◌, append_assoc, append-nil, zero-mul, arith}
use Rattle.std.specs.List.{range_with_len}
use Rattle.std.proofs.lemmas.List.{replicate-append-replicate}
use Rattle.std.proofs.Math.Nat.{le-div_iff_mul-le, add-mul}
use Rattle.crossbeam_deque.specs.Handles.{worker_view, worker_index, SameWorker}
use Rattle.work_shares.specs.declared.entry.View.{View}
use Rattle.work_shares.specs.declared.entry.Entry.{Entry}
use Rattle.work_shares.specs.declared.entry.Entry.TheVariants.{Work, End}
use Rattle.work_shares.specs.Cuts.{numbers_of}
use Rattle.work_shares.specs.Entries.{view}
use Rattle.work_shares.specs.Rule.{all_parts}
use Rattle.work_shares.specs.Owners.{Owner, pushed_of}
use Rattle.work_shares.proofs.Steps.{is_own, numbers_start, numbers_step}

-- the same worker after two steps
pub same_twice : (a b c : Owner) → SameWorker a b → SameWorker b c → SameWorker a c
same_twice a b c s t = (t.0 ∙ s.0, t.1 ∙ s.1, t.2 ∙ s.2, (let x = s.3 in let y = t.3 in omega arith))

-- so many end marks were pushed
pub record HasEnds (n : ℕ) (old new : Owner) : Type 0 where
  pub view_is : worker_view new ≡ view all_parts (pushed_of old ++ replicate n End) (worker_view old).got
  pub index : worker_index new ≡ worker_index old + n
  pub same : SameWorker old new

-- none yet
pub ends_start : (o : Owner) → (worker_view o).parts ≡ all_parts → HasEnds 0 o o
ends_start o whole = record {
  view_is = ap (λ p. view p (pushed_of o) (worker_view o).got) whole ∙ ap (λ l. view all_parts l (worker_view o).got) (sym (append-nil (pushed_of o)));
  index = omega arith;
  same = (refl, refl, refl, omega arith);
}

-- one end mark more
pub ends_step : (n : ℕ) (a b c : Owner) → HasEnds n a b → worker_view c ≡ view all_parts (pushed_of b ++ End ∷ []) (worker_view b).got → worker_index c ≡ worker_index b + 1 → SameWorker b c → HasEnds (n + 1) a c
ends_step n a b c h is next same = record {
  view_is = is ∙ ap (λ (v : View). view all_parts (v.pushed ++ End ∷ []) v.got) h.view_is
      ∙ ap (λ l. view all_parts l (worker_view a).got) (append_assoc (pushed_of a) (replicate n End) (End ∷ []) ∙ ap (λ l. pushed_of a ++ l) (replicate-append-replicate n 1 End));
  index = (let i = h.index in omega arith);
  same = same_twice a b c h.same same;
}

-- the numbers below this one were pushed
pub record HasNumbers (count workers worker number : ℕ) (old new : Owner) : Type 0 where
  pub parts : (worker_view new).parts ≡ all_parts
  pub got : (worker_view new).got ≡ []
  pub pushed : pushed_of new ++ map Work (filter (is_own workers worker) (range_with_len number (count - number))) ≡ map Work (numbers_of count workers worker)
  pub at : number ≡ worker + worker_index new * workers
  pub within : worker_index new ≤ count / workers + 1
  pub same : SameWorker old new

-- none yet
pub has_start : (count workers worker : ℕ) (o : Owner) → worker < workers → worker_view o ≡ view all_parts [] [] → worker_index o ≡ 0 → HasNumbers count workers worker worker o o
has_start count workers worker o lt is first = record {
  parts = ap (λ (v : View). v.parts) is;
  got = ap (λ (v : View). v.got) is;
  pushed = ap (λ (v : View). v.pushed ++ map Work (filter (is_own workers worker) (range_with_len worker (count - worker)))) is ∙ ap (map Work) (sym (numbers_start count workers worker lt));
  at = rw (first, zero-mul) (omega arith);
  within = omega arith;
  same = (refl, refl, refl, omega arith);
}

-- where a number is below the count, the index is no more than the whole steps
pub index_within : (count workers worker number index : ℕ) → worker < workers → number ≡ worker + index * workers → number < count → index ≤ count / workers
index_within count workers worker number index lt at more = (le-div_iff_mul-le (omega arith)).1 (omega arith)

-- one number more
pub has_step : (count workers worker number : ℕ) (a b c : Owner) → worker < workers → number < count → HasNumbers count workers worker number a b → worker_view c ≡ view all_parts (pushed_of b ++ Work number ∷ []) (worker_view b).got
    → worker_index c ≡ worker_index b + 1 → SameWorker b c → HasNumbers count workers worker (number + workers) a c
has_step count workers worker number a b c lt more h is next same = record {
  parts = ap (λ (v : View). v.parts) is;
  got = ap (λ (v : View). v.got) is ∙ h.got;
  pushed = (
      let rest : List Entry = map Work (filter (is_own workers worker) (range_with_len (number + workers) (count - (number + workers)))) in
      ap (λ (v : View). v.pushed ++ rest) is ∙ append_assoc (pushed_of b) (Work number ∷ []) rest
      ∙ ap (λ l. pushed_of b ++ map Work l) (sym (numbers_step count workers worker number (worker_index b) lt h.at more)) ∙ h.pushed);
  at = (let at = h.at in let m : worker_index c * workers ≡ worker_index b * workers + workers = ap (λ k. k * workers) next ∙ add-mul (worker_index b) 1 workers ∙ omega arith in omega arith);
  within = (let i = index_within count workers worker number (worker_index b) lt h.at more in omega arith);
  same = same_twice a b c h.same same;
}

-- all numbers are pushed
pub has_all : (count workers worker number : ℕ) (a b : Owner) → count ≤ number → HasNumbers count workers worker number a b → worker_view b ≡ view all_parts (map Work (numbers_of count workers worker)) []
has_all count workers worker number a b past h =
    let none : count - number ≡ 0 = omega arith in
    let all : pushed_of b ≡ map Work (numbers_of count workers worker) = sym (append-nil (pushed_of b)) ∙ ap (λ n. pushed_of b ++ map Work (filter (is_own workers worker) (range_with_len number n))) (sym none) ∙ h.pushed in
    ap (λ p. view p (pushed_of b) (worker_view b).got) h.parts ∙ ap (λ l. view all_parts l (worker_view b).got) all ∙ ap (view all_parts (map Work (numbers_of count workers worker))) h.got
