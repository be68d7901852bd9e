-- The views of the seats: the sum of their parts, the least numbers that they know, and what they put.
use Rattle.std.proofs.Common.{◌≡◌, ◌≢◌, ℕ, zero, suc, ◌+◌, ◌<◌, ◌≤◌, List, [], ◌∷◌, ◌++◌, length, get_or, set, Contains, sym, ap, ◌∙◌, subst, inl, inr, ⊎_elim, arith}
use Rattle.std.proofs.lemmas.List.Sums.{sum_by-set, sum_by_push, get_or-le-sum_by}
use mathlib.Core.Logic.{dite}
use mathlib.Core.Option.{some, some-injective, some-ne-none}
use native.Mathlib.Decide.{ℕ_discrete}
use lib.ListN.{get_elem?}
use Rattle.atomic_table.proofs.Lists.{at_set, at_snoc, at_longer, set_else, set_here}
use Rattle.steal_sweep.specs.declared.rule.Known.{Known}
use Rattle.steal_sweep.specs.BestRule.{all_parts, WasPut, Bounds}

-- a view that was found stands at its place
pub found_at : (views : List Known) (i : ℕ) (v : Known) → get_elem? views i ≡ some v → (i < length views) × (get_or views i v ≡ v)
found_at [] i v e = absurd (some-ne-none v (sym e))
found_at (x ∷ xs) zero v e = (omega arith, some-injective x v e)
found_at (x ∷ xs) (suc i) v e = let r = found_at xs i v e in (omega arith, r.1)

-- a view that replaces another changes the sum of the parts by the difference
pub parts_set : (views : List Known) (i : ℕ) (v w : Known) → get_elem? views i ≡ some v → all_parts (set views i w) + v.parts ≡ all_parts views + w.parts
parts_set views i v w e =
    let at = found_at views i v e in
    ap (λ (u : Known). all_parts (set views i w) + u.parts) (sym at.1) ∙ sum_by-set (λ (u : Known). u.parts) views i w v at.0

-- a view that is added adds its parts
pub parts_snoc : (views : List Known) (w : Known) → all_parts (views ++ w ∷ []) ≡ all_parts views + w.parts
parts_snoc views w = sum_by_push (λ (u : Known). u.parts) views w

-- one view's parts are among those of all
pub parts_one : (views : List Known) (i : ℕ) (v : Known) → get_elem? views i ≡ some v → v.parts ≤ all_parts views
parts_one views i v e =
    let at = found_at views i v e in subst (λ (u : Known). u.parts ≤ all_parts views) at.1 (get_or-le-sum_by (λ (u : Known). u.parts) views i v at.0)

-- two views' parts are among those of all
pub parts_two : (views : List Known) (i j : ℕ) (v w : Known) → i ≢ j → get_elem? views i ≡ some v → get_elem? views j ≡ some w → v.parts + w.parts ≤ all_parts views
parts_two views i j v w apart a b =
    let none : Known = record { parts = 0; least = 0; put = []; seen = [] } in
    let s = parts_set views i v none a in
    let o = parts_one (set views i none) j w (set_else views i j none (λ e. apart (sym e)) ∙ b) in
    omega arith

-- a word that isn't above what was known isn't above what is known, where one view changed
pub bounds_set : (n : ℕ) (views : List Known) (i : ℕ) (w : Known) → Bounds n w → ((j : ℕ) (u : Known) → get_elem? views j ≡ some u → Bounds n u)
    → (j : ℕ) (u : Known) → get_elem? (set views i w) j ≡ some u → Bounds n u
bounds_set n views i w new old j u e = ⊎_elim (λ (t : (j ≡ i) × (w ≡ u)). subst (Bounds n) t.1 new) (λ (t : (j ≢ i) × (get_elem? views j ≡ some u)). old j u t.1) (at_set views i j w u e)

-- the same, where one view was added
pub bounds_snoc : (n : ℕ) (views : List Known) (w : Known) → Bounds n w → ((j : ℕ) (u : Known) → get_elem? views j ≡ some u → Bounds n u)
    → (j : ℕ) (u : Known) → get_elem? (views ++ w ∷ []) j ≡ some u → Bounds n u
bounds_snoc n views w new old j u e = ⊎_elim (λ (t : get_elem? views j ≡ some u). old j u t) (λ (t : w ≡ u). subst (Bounds n) t new) (at_snoc views w u j e)

-- a word that fell isn't above what was known
pub bounds_fall : (x n : ℕ) (v : Known) → n ≤ x → Bounds x v → Bounds n v
bounds_fall x n v le b = record { least = λ live. (let l = b.least live in omega arith); spent = b.spent }

-- a word that was put stays so, where a view that takes the place of another has put what that one had
pub put_set : (views : List Known) (i : ℕ) (v w : Known) (x : ℕ) → get_elem? views i ≡ some v → (Contains v.put x → Contains w.put x) → WasPut views x → WasPut (set views i w) x
put_set views i v w x at more s = ⊎_elim (λ e. inl e)
    (λ (o : (seat : ℕ) × (u : Known) × (get_elem? views seat ≡ some u) × Contains u.put x). dite (ℕ_discrete o.0 i)
    (λ e. let is : v ≡ o.1 = some-injective v o.1 (sym at ∙ ap (λ (k : ℕ). get_elem? views k) (sym e) ∙ o.2) in
    inr (i, w, set_here views i w (found_at views i v at).0, more (subst (λ (u : Known). Contains u.put x) (sym is) o.3)))
    (λ ne. inr (o.0, o.1, set_else views i o.0 w ne ∙ o.2, o.3)))
    s

-- a word that was put stays so, where a view was added
pub put_snoc : (views : List Known) (w : Known) (x : ℕ) → WasPut views x → WasPut (views ++ w ∷ []) x
put_snoc views w x s = ⊎_elim (λ e. inl e)
    (λ (o : (seat : ℕ) × (u : Known) × (get_elem? views seat ≡ some u) × Contains u.put x). inr (o.0, o.1, at_longer views (w ∷ []) o.0 o.1 o.2, o.3))
    s
