-- A set of names with one name more.
use Rattle.std.proofs.Common.{◌≡◌, ℕ, Bool, true, false, ◌||◌, List, [], ◌∷◌, ap, ◌∙◌, sym, refl}
use Rattle.std.specs.List.{list_any}
use Rattle.std.specs.Str.{bytes_eq}
use Rattle.std.specs.Ordering.{nat_cmp, is_eq, match_ordering}
use Rattle.std.specs.Cmp.Lexicographic.{slice_cmp}
use Rattle.std.specs.BTreeSet.{insert_key}
use Rattle.std.specs.declared.cmp.Ordering.{Ordering}
use Rattle.std.specs.declared.cmp.Ordering.TheVariants.{Less, Equal, Greater}
use Rattle.std.proofs.lemmas.Map.Text.{is_eq-slice_cmp}
use Rattle.std.proofs.lemmas.Slice.Eq.{bytes_eq-Decides}
use denote.Ref.{Bor}

-- the order of names
abbrev pub by_bytes : Bor (List ℕ) → Bor (List ℕ) → Ordering
by_bytes x y = slice_cmp nat_cmp x.now y.now

-- a test that holds twice holds once
or_same : (a b r : Bool) → a ≡ b → (b || r) ≡ (a || (b || r))
or_same true true r e = refl
or_same false b r e = refl
or_same true false r e = absurd (cc)

-- three tests in another order
or_swap : (a b r : Bool) → (b || (a || r)) ≡ (a || (b || r))
or_swap true true r = refl
or_swap true false r = refl
or_swap false b r = refl

-- a name is in the set with one more where it is that one or was in the set
pub any_insert_key : (name : List ℕ) (k : Bor (List ℕ)) (ks : List (Bor (List ℕ)))
    → list_any (λ x. bytes_eq name x.now) (insert_key by_bytes ks k) ≡ (bytes_eq name k.now || list_any (λ x. bytes_eq name x.now) ks)
any_insert_key name k [] = refl
any_insert_key name k (x ∷ xs) = go (by_bytes k x) refl (any_insert_key name k xs)
  where
    go : (o : Ordering) → by_bytes k x ≡ o → list_any (λ y. bytes_eq name y.now) (insert_key by_bytes xs k) ≡ (bytes_eq name k.now || list_any (λ y. bytes_eq name y.now) xs)
        → list_any (λ y. bytes_eq name y.now) (match_ordering o (k ∷ x ∷ xs) (x ∷ xs) (x ∷ insert_key by_bytes xs k)) ≡ (bytes_eq name k.now || list_any (λ y. bytes_eq name y.now) (x ∷ xs))
    go Less e more = refl
    go Equal e more =
        let same : k.now ≡ x.now = (bytes_eq-Decides k.now x.now).0 (sym (is_eq-slice_cmp k.now x.now) ∙ ap is_eq e) in
        or_same _ _ _ (ap (bytes_eq name) same)
    go Greater e more = ap (λ (r : Bool). bytes_eq name x.now || r) more ∙ or_swap (bytes_eq name k.now) (bytes_eq name x.now) _

-- a name is in the set where a key is equal to it in the order of names
pub any_at : (name : List ℕ) (ks : List (Bor (List ℕ))) → list_any (λ k. is_eq (slice_cmp nat_cmp name k.now)) ks ≡ list_any (λ k. bytes_eq name k.now) ks
any_at name [] = refl
any_at name (k ∷ ks) =
    ap (λ (t : Bool). t || list_any (λ x. is_eq (slice_cmp nat_cmp name x.now)) ks) (is_eq-slice_cmp name k.now)
    ∙ ap (λ (t : Bool). bytes_eq name k.now || t) (any_at name ks)
