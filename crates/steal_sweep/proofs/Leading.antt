-- Each step keeps the rule of the best word.
use Rattle.std.proofs.Common.{◌≡◌, ◌≢◌, ℕ, zero, suc, ◌+◌, ◌-◌, ◌<◌, ◌≤◌, ◌⊎◌, min, List, [], ◌∷◌, ◌++◌, length, get_or, set, Contains, sym, refl, ap, ◌∙◌, subst, inl, inr, ⊎_elim, lt_of_not-le, arith}
use Rattle.std.proofs.lemmas.List.{length-set, get_or-set_same}
use Rattle.std.proofs.lemmas.List.Elements.{Contains-append_left, Contains-append_right}
use mathlib.Core.Logic.{dite}
use mathlib.Core.Option.{none, some, some-injective, some-ne-none}
use native.Mathlib.Decide.{ℕ_discrete, dec_le}
use lib.ListN.{get_elem?}
use Rattle.atomic_table.specs.Table.{State, Me, step, keeps, stepped, Allows, Splits, Joins, opening}
use Rattle.atomic_table.proofs.Lists.{set_else, set_here}
use Rattle.steal_sweep.specs.declared.rule.Known.{Known}
use Rattle.steal_sweep.specs.BestRule.{known, none_yet, WasPut, Bounds, Leads, Looked, PutThere}
use Rattle.steal_sweep.proofs.Views.{found_at, parts_set, parts_snoc, parts_two, bounds_set, bounds_snoc, bounds_fall, put_set, put_snoc}

-- the one seat of a new word
one_view : (j : ℕ) (u : Known) → get_elem? (known 8 none_yet [] [] ∷ []) j ≡ some u → Bounds none_yet u
one_view zero u e = subst (Bounds none_yet) (some-injective (known 8 none_yet [] []) u e) (record { least = λ _. omega arith; spent = λ z. absurd (omega arith) })
one_view (suc j) u e = absurd (some-ne-none u (sym e))

-- a new word keeps the rule
pub begins : Leads (opening (none_yet ∷ []) [] (known 8 none_yet [] []))
begins = record { one = refl; parts = refl; bounds = one_view; source = inl refl }

-- the word falls to n, and the seat's view becomes w
falls_to : (s : State (Unit {0}) Known) (id n : ℕ) (v w : Known) (carried : List (ℕ × Unit {0})) → Leads s → get_elem? s.views id ≡ some v → n ≤ get_or s.words 0 0 → n ≤ w.least → w.parts ≡ v.parts → 0 < v.parts
    → WasPut (set s.views id w) n → Leads (stepped s 0 n id carried w keeps)
falls_to s id n v w carried h at low low' parts live source =
    let len = h.one in
    let is : get_or (set s.words 0 n) 0 0 ≡ n = get_or-set_same s.words 0 n 0 (omega arith) in
    let new : Bounds n w = record { least = λ _. low'; spent = λ z. absurd (omega arith) } in
    record {
      one = length-set s.words 0 n ∙ len;
      parts = (let t = parts_set s.views id v w at in let p = h.parts in omega arith);
      bounds = λ j u e. subst (λ (z : ℕ). Bounds z u) (sym is) (bounds_set n s.views id w new (λ k y f. bounds_fall (get_or s.words 0 0) n y low (h.bounds k y f)) j u e);
      source = subst (WasPut (set s.views id w)) (sym is) source;
    }

-- a load keeps the rule
pub looks : (slots id : ℕ) (me : Me (Unit {0}) Known) → 0 < me.0.parts → Allows Leads slots id me 0 (λ n. n) (Looked (step slots 0 0 0 none) me)
looks slots id me live s h _ at _ =
    let x : ℕ = get_or s.words 0 0 in
    let w : Known = known me.0.parts x me.0.put (x ∷ me.0.seen) in
    (w, keeps, tt, falls_to s id x me.0 w me.1 h at (omega arith) (omega arith) refl live (put_set s.views id me.0 w x at (λ y. y) h.source), (refl, (h.bounds id me.0 at).least live, refl))

-- what is put stands among what was put
put_first : (p : ℕ) (xs : List ℕ) → Contains (p ∷ xs) p
put_first p xs = (0, omega arith, refl)

-- what was put stays so
put_later : (p x : ℕ) (xs : List ℕ) → Contains xs x → Contains (p ∷ xs) x
put_later p x xs h = Contains-append_right (p ∷ []) xs x h

-- a fetch_min keeps the rule
pub puts : (slots id p : ℕ) (me : Me (Unit {0}) Known) → 0 < me.0.parts → Allows Leads slots id me 0 (λ n. min n p) (PutThere (step slots 0 p 0 none) me)
puts slots id p me live s h _ at _ =
    let x : ℕ = get_or s.words 0 0 in
    let n : ℕ = min x p in
    let w : Known = known me.0.parts n (p ∷ me.0.put) me.0.seen in
    let source : WasPut (set s.views id w) n = dite (dec_le x p)
    (λ le. let e : n ≡ x = omega arith in subst (WasPut (set s.views id w)) (sym e) (put_set s.views id me.0 w x at (put_later p x me.0.put) h.source))
    (λ more. let lt = lt_of_not-le more in let e : p ≡ n = omega arith in inr (id, w, set_here s.views id w (found_at s.views id me.0 at).0, subst (Contains w.put) e (put_first p me.0.put))) in
    (w, keeps, tt, falls_to s id n me.0 w me.1 h at (omega arith) (omega arith) refl live source, (refl, (h.bounds id me.0 at).least live, refl))

-- a split keeps the rule
pub splits : (id : ℕ) (v : Known) → 1 < v.parts → Splits Leads id v (known (v.parts - 1) v.least v.put v.seen) (known 1 v.least [] [])
splits id v two s h at =
    let l : Known = known (v.parts - 1) v.least v.put v.seen in
    let r : Known = known 1 v.least [] [] in
    let x : ℕ = get_or s.words 0 0 in
    let low = (h.bounds id v at).least (omega arith) in
    let left : Bounds x l = record { least = λ _. low; spent = λ z. absurd (omega arith) } in
    let right : Bounds x r = record { least = λ _. low; spent = λ z. refl } in
    record {
      one = h.one;
      parts = (let t = parts_set s.views id v l at in let n = parts_snoc (set s.views id l) r in let p = h.parts in omega arith);
      bounds = bounds_snoc x (set s.views id l) r right (bounds_set x s.views id l left h.bounds);
      source = put_snoc (set s.views id l) r x (put_set s.views id v l x at (λ y. y) h.source);
    }

-- what either seat put was put once the one has taken in the other
source_joined : (views : List Known) (id other : ℕ) (v w b z : Known) (x : ℕ) → other ≢ id → get_elem? views id ≡ some v → get_elem? views other ≡ some w → b.put ≡ v.put ++ w.put
    → WasPut views x → WasPut (set (set views id b) other z) x
source_joined views id other v w b z x two at at' both s =
    let vs : List Known = set views id b in
    let here : get_elem? (set vs other z) id ≡ some b = set_else vs other id z (λ e. two (sym e)) ∙ set_here views id b (found_at views id v at).0 in
    ⊎_elim (λ e. inl e)
    (λ (o : (seat : ℕ) × (u : Known) × (get_elem? views seat ≡ some u) × Contains u.put x). dite (ℕ_discrete o.0 id)
    (λ e. let is : v ≡ o.1 = some-injective v o.1 (sym at ∙ ap (λ (k : ℕ). get_elem? views k) (sym e) ∙ o.2) in
    inr (id, b, here, subst (λ (l : List ℕ). Contains l x) (sym both) (Contains-append_left v.put w.put x (subst (λ (u : Known). Contains u.put x) (sym is) o.3))))
    (λ ne. dite (ℕ_discrete o.0 other)
    (λ e. let is : w ≡ o.1 = some-injective w o.1 (sym at' ∙ ap (λ (k : ℕ). get_elem? views k) (sym e) ∙ o.2) in
    inr (id, b, here, subst (λ (l : List ℕ). Contains l x) (sym both) (Contains-append_right v.put w.put x (subst (λ (u : Known). Contains u.put x) (sym is) o.3))))
    (λ ne'. inr (o.0, o.1, set_else vs other o.0 z ne' ∙ set_else views id o.0 b ne ∙ o.2, o.3))))
    s

-- a join keeps the rule
pub joins : (id other : ℕ) (v w : Known) → 0 < v.parts → 0 < w.parts → Joins Leads id v other w (known (v.parts + w.parts) (min v.least w.least) (v.put ++ w.put) v.seen) (known 0 none_yet [] [])
joins id other v w live live' s h at two at' =
    let b : Known = known (v.parts + w.parts) (min v.least w.least) (v.put ++ w.put) v.seen in
    let z : Known = known 0 none_yet [] [] in
    let vs : List Known = set s.views id b in
    let x : ℕ = get_or s.words 0 0 in
    let was : get_elem? s.views other ≡ some w = sym (set_else s.views id other b two) ∙ at' in
    let low = (h.bounds id v at).least live in
    let low' = (h.bounds other w was).least live' in
    let new : Bounds x b = record { least = λ _. (let r : x ≤ min v.least w.least = omega arith in r); spent = λ e. absurd (omega arith) } in
    let spent : Bounds x z = record { least = λ e. absurd (omega arith); spent = λ _. refl } in
    record {
      one = h.one;
      parts = (let t = parts_set s.views id v b at in let n = parts_set vs other w z at' in let p = h.parts in omega arith);
      bounds = bounds_set x vs other z spent (bounds_set x s.views id b new h.bounds);
      source = source_joined s.views id other v w b z x two at was refl h.source;
    }

-- the seat with all eight parts put the word, where any did
pub closes : (s : State (Unit {0}) Known) (id : ℕ) (v : Known) → Leads s → get_elem? s.views id ≡ some v → v.parts ≡ 8 → (get_or s.words 0 0 ≤ v.least) × ((get_or s.words 0 0 ≡ none_yet) ⊎ Contains v.put (get_or s.words 0 0))
closes s id v h at all =
    let x : ℕ = get_or s.words 0 0 in (
      (h.bounds id v at).least (omega arith),
      ⊎_elim (λ e. inl e)
          (λ (o : (seat : ℕ) × (u : Known) × (get_elem? s.views seat ≡ some u) × Contains u.put x). dite (ℕ_discrete o.0 id)
          (λ e. let is : v ≡ o.1 = some-injective v o.1 (sym at ∙ ap (λ (k : ℕ). get_elem? s.views k) (sym e) ∙ o.2) in inr (subst (λ (u : Known). Contains u.put x) (sym is) o.3))
          (λ ne. let m = parts_two s.views o.0 id o.1 v ne o.2 at in let p = h.parts in
          let empty = (h.bounds o.0 o.1 o.2).spent (omega arith) in absurd (not_empty x o.1.put empty o.3)))
          h.source,
    )
  where
    not_empty : (x : ℕ) (l : List ℕ) → l ≡ [] → Contains l x → ⊥
    not_empty x l e h = let n = h.1 in omega (arith, ap (λ (m : List ℕ). length m) e)

-- the first word, where one is read
pub read_first : (ws : List ℕ) (x : ℕ) → get_elem? ws 0 ≡ some x → get_or ws 0 0 ≡ x
read_first [] x e = absurd (some-ne-none x (sym e))
read_first (y ∷ ys) x e = some-injective y x e
