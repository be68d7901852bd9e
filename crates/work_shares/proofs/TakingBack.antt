-- What the owners take back, a theft at a time and a worker at a time.
use Rattle.std.proofs.Common.{◌≡◌, ◌≢◌, ℕ, suc, ◌+◌, ◌%◌, ◌==◌, ◌<◌, ◌≤◌, ◌⊎◌, ⊎_elim, inl, inr, true, false, List, [], ◌∷◌, ◌++◌, Some, All, map, set, get_or, length, length-append, length-set, slice_get, slice_index, refl, sym, ap, ◌∙◌, subst, arith}
use Rattle.std.specs.List.{sum_by}
use Rattle.std.proofs.lemmas.List.{map-set, map-append, get_or-map, get_or-set_same, get_or-set_other, length-map}
use Rattle.std.proofs.lemmas.List.Sums.{sum_by-set, sum_by_push, sum_by-append}
use Rattle.std.proofs.lemmas.List.Elements.{All-set, All-get_or}
use Rattle.std.proofs.lemmas.Bool.{cases_lt}
use Rattle.std.proofs.lemmas.Bool.Decides.{nat_tests}
use Rattle.std.proofs.Math.Seq.{map-set_same}
use Rattle.crossbeam_deque.specs.Handles.{worker_view}
use Rattle.work_shares.specs.declared.entry.Entry.{Entry}
use Rattle.work_shares.specs.declared.theft.Theft.{Theft}
use Rattle.work_shares.specs.Entries.{view, is_end}
use Rattle.work_shares.specs.Thefts.{DequeId, deque_into, view_into, got_by}
use Rattle.work_shares.specs.Ways.{ways_of}
use Rattle.work_shares.specs.Owners.{Owner, deque_of, parts_of, pushed_of, owner_got, LeadOn, IsLive, marks_of, KeepMarks, TookBack}
use Rattle.work_shares.proofs.Indexes.{slice_get-front, slice_get-last, get_or-mapped}

-- so many parts are to come back in all, of which these are left, and the same for what was got
pub record Taking (left all : ℕ → ℕ) (rest whole : (Entry → ℕ) → ℕ) (old new : List Owner) : Type 0 where
  pub deques : map deque_of new ≡ map deque_of old
  pub pushed : map pushed_of new ≡ map pushed_of old
  pub parts : (d : ℕ) → d < length old → slice_index (map parts_of new) d + left d ≡ slice_index (map parts_of old) d + all d
  pub got : (weight : Entry → ℕ) → sum_by (owner_got weight) new + rest weight ≡ sum_by (owner_got weight) old + whole weight

-- nothing is taken back yet
pub taking_starts : (all : ℕ → ℕ) (whole : (Entry → ℕ) → ℕ) (old : List Owner) → Taking all all whole whole old old
taking_starts all whole old = record { deques = refl; pushed = refl; parts = λ d lt. refl; got = λ weight. refl }

-- all is taken back
pub taking_ends : (all : ℕ → ℕ) (rest whole : (Entry → ℕ) → ℕ) (old new : List Owner) → Taking (λ d. 0) all rest whole old new → ((weight : Entry → ℕ) → rest weight ≡ 0) → TookBack all whole old new
taking_ends all rest whole old new t none = record {
  deques = t.deques;
  pushed = t.pushed;
  parts = λ d lt. omega (arith, t.parts d lt);
  got = λ weight. omega (arith, t.got weight, none weight);
}

-- the owner of one deque takes one theft back
pub record Absorbs (t : Theft) (old new : Owner) : Type 0 where
  pub deque : deque_of new ≡ deque_of old
  pub is : worker_view new ≡ view (parts_of old + (view_into t).parts) (pushed_of old) ((worker_view old).got ++ (view_into t).got)

-- the part comes back
absorbs_parts : (t : Theft) (o p : Owner) → Absorbs t o p → parts_of p ≡ parts_of o + 1
absorbs_parts t o p a = ap (λ v. v.parts) a.is ∙ ap (λ n. parts_of o + n) t.one

-- what the theft got comes back
absorbs_got : (weight : Entry → ℕ) (t : Theft) (o p : Owner) → Absorbs t o p → owner_got weight p ≡ owner_got weight o + got_by weight t
absorbs_got weight t o p a = ap (λ v. sum_by weight v.got) a.is ∙ sum_by-append weight (worker_view o).got (view_into t).got

-- the owner may take back more
live_absorbs : (t : Theft) (o p : Owner) → IsLive o → Absorbs t o p → IsLive p
live_absorbs t o p live a = let n = absorbs_parts t o p a in omega arith

-- two numbers are equal or not
same_or_other : (a b : ℕ) → (a ≡ b) ⊎ (a ≢ b)
same_or_other a b = ⊎_elim (λ lt. inr (λ e. absurd (omega arith))) (λ le. ⊎_elim (λ lt. inr (λ e. absurd (omega arith))) (λ le'. inl (omega arith)) (cases_lt b a)) (cases_lt a b)

-- one owner took a theft back, and none has fewer end marks than before
marks_step : (now : List Owner) (at : ℕ) (t : Theft) (o p : Owner) → at < length now → o ≡ get_or now at o → Absorbs t o p → KeepMarks now (set now at p)
marks_step now at t o p lt is a d =
    let marks : List ℕ = map marks_of now in
    let more : marks_of o ≤ marks_of p = (let n = absorbs_got is_end t o p a in omega arith) in
    let was : get_or marks at 0 ≡ marks_of o = get_or-map marks_of now at o 0 lt ∙ ap marks_of (sym is) in
    let now_is : get_or (map marks_of (set now at p)) d 0 ≡ get_or (set marks at (marks_of p)) d 0 = ap (λ l. get_or l d 0) (map-set marks_of now at p) in
    ⊎_elim
    (λ (same : d ≡ at).
    let put : get_or (set marks at (marks_of p)) d 0 ≡ marks_of p = ap (λ k. get_or (set marks at (marks_of p)) k 0) same ∙ get_or-set_same marks at (marks_of p) 0 (omega (arith, length-map now marks_of)) in
    let here : get_or marks d 0 ≡ get_or marks at 0 = ap (λ k. get_or marks k 0) same in
    omega arith)
    (λ (other : d ≢ at).
    let put : get_or (set marks at (marks_of p)) d 0 ≡ get_or marks d 0 = get_or-set_other marks at d (marks_of p) 0 other in
    omega arith)
    (same_or_other d at)

-- the part of one theft comes back to the owner of its deque
pub parts_step : (workers worker n at : ℕ) (parts : List ℕ) (p d : ℕ) → at < length parts → (worker + 1 + n) % workers ≡ at → p ≡ get_or parts at 0 + 1
    → get_or (set parts at p) d 0 + ways_of workers d worker n ≡ get_or parts d 0 + ways_of workers d worker (suc n)
unfolding ways_of
parts_step workers worker n at parts p d lt is more = ⊎_elim
    (λ (same : d ≡ at).
    let here : ((worker + 1 + n) % workers == d) ≡ true = grind (arith, nat_tests) in
    let put : get_or (set parts at p) d 0 ≡ p = ap (λ k. get_or (set parts at p) k 0) same ∙ get_or-set_same parts at p 0 lt in
    let was : get_or parts d 0 ≡ get_or parts at 0 = ap (λ k. get_or parts k 0) same in
    rw here (omega arith))
    (λ (other : d ≢ at).
    let there : ((worker + 1 + n) % workers == d) ≡ false = grind (arith, nat_tests, other) in
    let put : get_or (set parts at p) d 0 ≡ get_or parts d 0 = get_or-set_other parts at d p 0 other in
    rw there (omega arith))
    (same_or_other d at)

-- one theft less is left
pub taking_step : (worker n at : ℕ) (all : ℕ → ℕ) (whole : (Entry → ℕ) → ℕ) (old now : List Owner) (done : List Theft) (t : Theft) (o p : Owner) → at < length now → o ≡ get_or now at o → (worker + 1 + n) % length old ≡ at → Absorbs t o p
    → Taking (λ d. ways_of (length old) d worker (suc n)) all (λ weight. sum_by (got_by weight) (done ++ t ∷ [])) whole old now
    → Taking (λ d. ways_of (length old) d worker n) all (λ weight. sum_by (got_by weight) done) whole old (set now at p)
taking_step worker n at all whole old now done t o p lt is place a h = record {
  deques = map-set_same deque_of now at p o (a.deque ∙ ap deque_of is) ∙ h.deques;
  pushed = map-set_same pushed_of now at p o (ap (λ v. v.pushed) a.is ∙ ap pushed_of is) ∙ h.pushed;
  parts = λ d below. (
      let parts : List ℕ = map parts_of now in
      let was : get_or parts at 0 ≡ parts_of o = get_or-map parts_of now at o 0 lt ∙ ap parts_of (sym is) in
      let more : parts_of p ≡ get_or parts at 0 + 1 = absorbs_parts t o p a ∙ ap (λ k. k + 1) (sym was) in
      let step = parts_step (length old) worker n at parts (parts_of p) d (omega (arith, length-map now parts_of)) place more in
      let same : get_or (map parts_of (set now at p)) d 0 ≡ get_or (set parts at (parts_of p)) d 0 = ap (λ l. get_or l d 0) (map-set parts_of now at p) in
      ap (λ k. k + ways_of (length old) d worker n) same ∙ step ∙ h.parts d below);
  got = λ weight. omega (
    arith,
    h.got weight,
    sum_by_push (got_by weight) done t,
    sum_by-set (owner_got weight) now at p o lt,
    ap (owner_got weight) is,
    absorbs_got weight t o p a,
  );
}

-- the thefts but the last lead on too
pub lead-front : (deques : List DequeId) (worker : ℕ) (all done : List Theft) (t : Theft) → all ≡ done ++ t ∷ [] → LeadOn deques worker all → LeadOn deques worker done
lead-front deques worker all done t is h i d e =
    h i d (ap (λ l. slice_get (map deque_into l) i) is ∙ ap (λ l. slice_get l i) (map-append deque_into done (t ∷ [])) ∙ slice_get-front (map deque_into done) (deque_into t ∷ []) i d e)

-- where the last theft leads, at the place that the code computes
pub lead-last : (owners : List Owner) (worker n workers : ℕ) (all done : List Theft) (t : Theft) (o : Owner) → all ≡ done ++ t ∷ [] → LeadOn (map deque_of owners) worker all
    → n ≡ length done → workers ≡ length owners → o ≡ get_or owners ((worker + 1 + n) % workers) o → ((worker + 1 + n) % workers < length owners) × (deque_of o ≡ deque_into t)
lead-last owners worker n workers all done t o is h long wide at =
    let place : ℕ = (worker + 1 + n) % workers in
    let last : slice_get (map deque_into all) (length done) ≡ Some (deque_into t) =
    ap (λ l. slice_get (map deque_into l) (length done)) is
    ∙ ap (λ l. slice_get l (length done)) (map-append deque_into done (t ∷ []))
    ∙ ap (slice_get (map deque_into done ++ deque_into t ∷ [])) (sym (length-map done deque_into))
    ∙ slice_get-last (map deque_into done) (deque_into t) in
    let same : (worker + 1 + n) % workers ≡ (worker + 1 + length done) % length (map deque_of owners) =
    ap (λ k. (worker + 1 + k) % workers) long ∙ ap (λ k. (worker + 1 + length done) % k) (wide ∙ sym (length-map owners deque_of)) in
    let found = get_or-mapped deque_of owners place o (deque_into t) (ap (slice_get (map deque_of owners)) same ∙ h (length done) (deque_into t) last) in
    (found.0, ap deque_of at ∙ found.1)

-- the owners may still take back these thefts of a worker
pub record IsLeft (worker : ℕ) (all : List Theft) (old : List Owner) (rest : List Theft) (now : List Owner) : Type 0 where
  pub live : All IsLive now
  pub marks : KeepMarks old now
  pub lead : LeadOn (map deque_of now) worker rest
  pub wide : length now ≡ length old
  pub taking : Taking (λ d. ways_of (length old) d worker (length rest)) (λ d. ways_of (length old) d worker (length all)) (λ weight. sum_by (got_by weight) rest) (λ weight. sum_by (got_by weight) all) old now

-- nothing is taken back yet
pub left_starts : (worker : ℕ) (all : List Theft) (old : List Owner) → All IsLive old → LeadOn (map deque_of old) worker all → IsLeft worker all old all old
left_starts worker all old live lead = record { live = live; marks = λ d. omega arith; lead = lead; wide = refl; taking = taking_starts (λ d. ways_of (length old) d worker (length all)) (λ weight. sum_by (got_by weight) all) old }

-- all is taken back
pub left_ends : (worker : ℕ) (all rest : List Theft) (old new : List Owner) → rest ≡ [] → IsLeft worker all old rest new
    → TookBack (λ d. ways_of (length old) d worker (length all)) (λ weight. sum_by (got_by weight) all) old new
unfolding ways_of
left_ends worker all rest old new none h = record {
  deques = h.taking.deques;
  pushed = h.taking.pushed;
  parts = λ d lt. omega (arith, h.taking.parts d lt, ap (λ l. ways_of (length old) d worker (length l)) none);
  got = λ weight. omega (arith, h.taking.got weight, ap (sum_by (got_by weight)) none);
}

-- the last theft is taken back
pub left_step : (worker n workers : ℕ) (all : List Theft) (old : List Owner) (rest : List Theft) (now : List Owner) (done : List Theft) (t : Theft) (o p : Owner) → rest ≡ done ++ t ∷ [] → n ≡ length done → workers ≡ length old
    → o ≡ get_or now ((worker + 1 + n) % workers) o → Absorbs t o p → IsLeft worker all old rest now → IsLeft worker all old done (set now ((worker + 1 + n) % workers) p)
left_step worker n workers all old rest now done t o p is long wide at a h =
    let place : ℕ = (worker + 1 + n) % workers in
    let found = lead-last now worker n workers rest done t o is h.lead long (wide ∙ sym h.wide) at in
    let alive : IsLive o = subst IsLive (sym at) (All-get_or IsLive now place o found.0 h.live) in
    let same : map deque_of (set now place p) ≡ map deque_of now = map-set_same deque_of now place p o (a.deque ∙ ap deque_of at) in
    let count : length rest ≡ suc n = ap length is ∙ length-append done (t ∷ []) ∙ omega arith in
    let before : Taking (λ d. ways_of (length old) d worker (suc n)) (λ d. ways_of (length old) d worker (length all)) (λ weight. sum_by (got_by weight) (done ++ t ∷ [])) (λ weight. sum_by (got_by weight) all) old now =
    subst (λ (k : ℕ). Taking (λ d. ways_of (length old) d worker k) (λ d. ways_of (length old) d worker (length all)) (λ weight. sum_by (got_by weight) (done ++ t ∷ [])) (λ weight. sum_by (got_by weight) all) old now) count
    (subst (λ (l : List Theft). Taking (λ d. ways_of (length old) d worker (length rest)) (λ d. ways_of (length old) d worker (length all)) (λ weight. sum_by (got_by weight) l) (λ weight. sum_by (got_by weight) all) old now) is h.taking) in
    let after = taking_step worker n place (λ d. ways_of (length old) d worker (length all)) (λ weight. sum_by (got_by weight) all) old now done t o p found.0 at (ap (λ k. (worker + 1 + n) % k) (sym wide)) a before in
    record {
      live = All-set IsLive now place p (live_absorbs t o p alive a) h.live;
      marks = λ d. omega (arith, h.marks d, marks_step now place t o p found.0 at a d);
      lead = subst (λ (l : List DequeId). LeadOn l worker done) (sym same) (lead-front (map deque_of now) worker rest done t is h.lead);
      wide = length-set now place p ∙ h.wide;
      taking = subst (λ (k : ℕ). Taking (λ d. ways_of (length old) d worker k) (λ d. ways_of (length old) d worker (length all)) (λ weight. sum_by (got_by weight) done) (λ weight. sum_by (got_by weight) all) old (set now place p)) long after;
    }
