-- Each step keeps the rule of one deque.
use Rattle.std.proofs.Common.{◌≡◌, ◌≢◌, ℕ, zero, suc, ◌+◌, ◌-◌, ◌<◌, ◌≤◌, List, [], ◌∷◌, ◌++◌, set, sym, refl, ap, ◌∙◌, subst, ⊎_elim, append_assoc, arith}
use mathlib.Core.Option.{some, some-injective, some-ne-none}
use lib.ListN.{get_elem?}
use Rattle.std.specs.List.{sum_by}
use Rattle.std.proofs.lemmas.List.Sums.{sum_by-append, sum_by_push}
use Rattle.crossbeam_deque.specs.Tasks.{Pushes, Takes, Finds, Forks, Merges, Learns}
use Rattle.crossbeam_deque.proofs.Lists.{at_set, at_snoc}
use Rattle.work_shares.specs.declared.entry.View.{View}
use Rattle.work_shares.specs.declared.entry.Entry.{Entry}
use Rattle.work_shares.specs.declared.entry.Entry.TheVariants.{Work, End}
use Rattle.work_shares.specs.Entries.{view, ends, is_end}
use Rattle.work_shares.specs.Rule.{all_parts, KnowsPushed, IsRuled, Pushed, Took, Learnt}
use Rattle.work_shares.proofs.Sums.{total-set, member_le, members_le, others_le, only_one}
use Rattle.work_shares.proofs.Fronts.{got_each}

-- how many parts a view has, and the weight of what it got
abbrev parts_of : View → ℕ
parts_of v = v.parts

abbrev got_of : (Entry → ℕ) → View → ℕ
got_of weight v = sum_by weight v.got

-- the only view
one_view : (v : View) (j : ℕ) (u : View) → get_elem? (v ∷ []) j ≡ some u → v ≡ u
one_view v zero u e = some-injective v u e
one_view v (suc j) u e = absurd (some-ne-none u (sym e))

-- an entry is one end mark at most
mark_le : (x : Entry) → is_end x ≤ 1
mark_le (Work number) = omega arith
mark_le End = omega arith

-- an empty deque of which one view has every part
pub begins : IsRuled [] (view all_parts [] [] ∷ [])
begins = record {
  pushed = [];
  taken = [];
  cut = refl;
  parts = refl;
  once = λ weight. refl;
  fits = λ j u e. subst (KnowsPushed []) (one_view (view all_parts [] []) j u e) (record { knows = λ _. refl; marks = omega arith; spent = λ z. absurd (omega arith) });
}

-- while one view has every part, no other has one
alone : (views : List View) (port j : ℕ) (v u : View) → sum_by parts_of views ≡ all_parts → get_elem? views port ≡ some v → v.parts ≡ all_parts → j ≢ port → get_elem? views j ≡ some u → u.parts ≡ 0
alone views port j v u sum at whole ne e = omega (arith, members_le parts_of views j port u v ne e at)

-- the view with every part may push
pub pushes : (port : ℕ) (v : View) (xs : List Entry) → v.parts ≡ all_parts → Pushes IsRuled port v xs (Pushed v xs)
pushes port v xs whole items views h at =
    let w : View = view v.parts (v.pushed ++ xs) v.got in
    let mine = h.fits port v at in
    let p = h.pushed ++ xs in (
      w,
      record {
        pushed = p;
        taken = h.taken;
        cut = ap (λ l. l ++ xs) h.cut ∙ append_assoc h.taken items xs;
        parts = (let q = h.parts in omega (arith, total-set parts_of views port v w at));
        once = λ f. (let q = h.once f in omega (arith, total-set (got_of f) views port v w at));
        fits = λ j u e. ⊎_elim
            (λ (t : (j ≡ port) × (w ≡ u)). subst (KnowsPushed p) t.1 (record { knows = λ live. ap (λ l. l ++ xs) (mine.knows live); marks = mine.marks; spent = mine.spent }))
            (λ (t : (j ≢ port) × (get_elem? views j ≡ some u)). let o = h.fits j u t.1 in let none = alone views port j v u h.parts at whole t.0 t.1 in record { knows = λ live. absurd (omega arith); marks = o.marks; spent = o.spent })
            (at_set views port j w u e);
      },
      refl,
    )

-- a view with more parts than end marks may take one entry
pub takes : (port : ℕ) (v : View) → ends v.got < v.parts → Takes IsRuled port v 1 (Took v)
takes port v room [] items views some_task one h at = absurd (omega arith)
takes port v room (x ∷ y ∷ ys) items views some_task one h at = absurd (omega arith)
takes port v room (x ∷ []) items views some_task one h at =
    let xs : List Entry = x ∷ [] in
    let w : View = view v.parts v.pushed (v.got ++ xs) in
    let mine = h.fits port v at in
    let is : v.pushed ≡ h.taken ++ (xs ++ items) = mine.knows (omega arith) ∙ h.cut in (
      w,
      record {
        pushed = h.pushed;
        taken = h.taken ++ xs;
        cut = h.cut ∙ sym (append_assoc h.taken xs items);
        parts = (let q = h.parts in omega (arith, total-set parts_of views port v w at));
        once = λ f. (let q = h.once f in omega (arith, total-set (got_of f) views port v w at, sum_by-append f v.got xs, sum_by-append f h.taken xs));
        fits = λ j u e. ⊎_elim
            (λ (t : (j ≡ port) × (w ≡ u)). subst (KnowsPushed h.pushed) t.1 (record {
              knows = mine.knows;
              marks = omega (arith, sum_by_push is_end v.got x, mark_le x);
              spent = λ z. absurd (omega arith);
            }))
            (λ (t : (j ≢ port) × (get_elem? views j ≡ some u)). h.fits j u t.1)
            (at_set views port j w u e);
      },
      (
        refl,
        λ f. omega (
          arith,
          sum_by-append f v.got xs,
          member_le (got_of f) views port v at,
          h.once f,
          ap (sum_by f) is,
          sum_by-append f h.taken (xs ++ items),
          sum_by-append f xs items,
        ),
        (h.taken, items, is),
      ),
    )

-- while more end marks were pushed than others may have taken, a deque is not empty
pub finds : (port : ℕ) (v : View) → 0 < v.parts → ends v.got + all_parts < ends v.pushed + v.parts → Finds IsRuled port v ⊥
finds port v live left views h at =
    let sum = others_le (got_of is_end) parts_of views port v at (λ j u e. (h.fits j u e).marks) in
    let q = h.parts in
    let o = h.once is_end in
    let p : ends v.pushed ≡ ends h.taken + 0 = ap ends ((h.fits port v at).knows live ∙ h.cut) ∙ sum_by-append is_end h.taken [] in
    omega arith

-- a view that has got nothing and has two parts may give one away
pub forks : (port : ℕ) (v : View) → 1 < v.parts → v.got ≡ [] → Forks IsRuled port v (view (v.parts - 1) v.pushed v.got) (view 1 v.pushed [])
forks port v two fresh items views h at =
    let l : View = view (v.parts - 1) v.pushed v.got in
    let r : View = view 1 v.pushed [] in
    let none : ends v.got ≡ 0 = ap ends fresh in
    let is = (h.fits port v at).knows (omega arith) in
    record {
      pushed = h.pushed;
      taken = h.taken;
      cut = h.cut;
      parts = (let q = h.parts in omega (arith, total-set parts_of views port v l at, sum_by_push parts_of (set views port l) r));
      once = λ f. (let q = h.once f in omega (arith, total-set (got_of f) views port v l at, sum_by_push (got_of f) (set views port l) r));
      fits = λ j u e. ⊎_elim
          (λ old. ⊎_elim (λ (t : (j ≡ port) × (l ≡ u)). subst (KnowsPushed h.pushed) t.1 (record { knows = λ _. is; marks = omega arith; spent = λ z. absurd (omega arith) }))
          (λ (t : (j ≢ port) × (get_elem? views j ≡ some u)). h.fits j u t.1) (at_set views port j l u old))
          (λ (same : r ≡ u). subst (KnowsPushed h.pushed) same (record { knows = λ _. is; marks = omega arith; spent = λ z. absurd (omega arith) }))
          (at_snoc (set views port l) r u j e);
    }

-- a view with a part may take in another view, which is spent then
pub merges : (port : ℕ) (v : View) (other : ℕ) (w : View) → 0 < v.parts → Merges IsRuled port v other w (view (v.parts + w.parts) v.pushed (v.got ++ w.got)) (view 0 [] [])
merges port v other w live items views h at two at' =
    let b : View = view (v.parts + w.parts) v.pushed (v.got ++ w.got) in
    let z : View = view 0 [] [] in
    let vs : List View = set views port b in
    let was : get_elem? views other ≡ some w = ⊎_elim (λ (t : (other ≡ port) × (b ≡ w)). absurd (two t.0)) (λ (t : (other ≢ port) × (get_elem? views other ≡ some w)). t.1) (at_set views port other b w at') in
    let mine = h.fits port v at in
    let theirs = h.fits other w was in
    record {
      pushed = h.pushed;
      taken = h.taken;
      cut = h.cut;
      parts = (let q = h.parts in omega (arith, total-set parts_of views port v b at, total-set parts_of vs other w z at'));
      once = λ f. (let q = h.once f in omega (arith, total-set (got_of f) views port v b at, total-set (got_of f) vs other w z at', sum_by-append f v.got w.got));
      fits = λ j u e. ⊎_elim
          (λ (t : (j ≡ other) × (z ≡ u)). subst (KnowsPushed h.pushed) t.1 (record { knows = λ x. absurd (omega arith); marks = omega arith; spent = λ _. refl }))
          (λ (t : (j ≢ other) × (get_elem? vs j ≡ some u)). ⊎_elim
          (λ (s : (j ≡ port) × (b ≡ u)). subst (KnowsPushed h.pushed) s.1 (record {
            knows = λ _. mine.knows live;
            marks = (let p = mine.marks in let q = theirs.marks in omega (arith, sum_by-append is_end v.got w.got));
            spent = λ none. absurd (omega arith);
          }))
          (λ (s : (j ≢ port) × (get_elem? views j ≡ some u)). h.fits j u s.1) (at_set views port j b u t.1))
          (at_set vs other j z u e);
    }

-- a view with every part has got what was taken: no entry twice, and each block where it has an end mark
pub learns : (port : ℕ) (v : View) → v.parts ≡ all_parts → Learns IsRuled port v (λ items. Learnt v items)
learns port v whole items views h at =
    let mine = (h.fits port v at).knows (omega arith) in
    let cut : v.pushed ≡ h.taken ++ items = mine ∙ h.cut in
    let same : (k : Entry → ℕ) → sum_by k v.got ≡ sum_by k h.taken = λ k.
    sym (only_one (got_of k) parts_of views port v at (h.parts ∙ sym whole) (λ j u e none. ap (sum_by k) ((h.fits j u e).spent none))) ∙ h.once k in
    record {
      apart = λ weight. omega (arith, same weight, ap (sum_by weight) cut, sum_by-append weight h.taken items);
      all = λ numbers workers is some_end weight none. (let e = same is_end in same weight ∙ got_each h.taken items numbers workers weight (sym cut ∙ is) (omega arith) none);
    }
