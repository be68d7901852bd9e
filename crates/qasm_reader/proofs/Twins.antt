-- Names in falling order of their places: as a set, and whether one stands twice.
use Rattle.std.proofs.Common.{◌≡◌, ℕ, zero, suc, ◌+◌, ◌-◌, ◌<◌, ◌≤◌, Bool, true, false, not, ◌||◌, List, [], ◌∷◌, Bor, length, drop, get_or, Option, Some, None, arith, ap, ◌∙◌, sym, refl}
use Rattle.std.specs.Prelude.{option_map}
use Rattle.std.specs.List.{list_any}
use Rattle.std.specs.Str.{bytes_eq}
use Rattle.std.specs.BTreeSet.{BTreeSet}
use Rattle.std.proofs.lemmas.List.{at_drop_more}
use Rattle.qasm_reader.specs.declared.gates.Size.{Size}
use Rattle.qasm_reader.specs.Known.{Known}
use Rattle.qasm_reader.specs.State.{with_name}
use Rattle.qasm_reader.specs.Rows.{is_among, has_twin_names, has_stranger}
use Rattle.qasm_reader.specs.View.{names, name_list, size_of}
use Rattle.qasm_reader.proofs.Places.{or_right}

-- one element more, from behind
drop_less : {A : Type 0} (xs : List A) (at : ℕ) (d : A) → 0 < at → at ≤ length xs → drop (at - 1) xs ≡ get_or xs (at - 1) d ∷ drop at xs
drop_less xs at d some within =
    let same : at - 1 + 1 ≡ at = omega (arith, some) in
    at_drop_more (λ (l : List _). l) xs (at - 1) d (omega (arith, some, within)) ∙ ap (λ (n : ℕ). get_or xs (at - 1) d ∷ drop n xs) same

-- with one name more, from behind, there are twins where it is among the others, or they have twins
pub twins_less : (list : List (Bor (List ℕ))) (at : ℕ) (d : Bor (List ℕ)) → 0 < at → at ≤ length list
    → has_twin_names (name_list (drop (at - 1) list)) ≡ (is_among (name_list (drop at list)) (get_or list (at - 1) d).now || has_twin_names (name_list (drop at list)))
twins_less list at d some within = ap (λ (l : List (Bor (List ℕ))). has_twin_names (name_list l)) (drop_less list at d some within)

-- and a name is among them where it is that one or among the others
pub among_less : (list : List (Bor (List ℕ))) (at : ℕ) (d : Bor (List ℕ)) (other : List ℕ) → 0 < at → at ≤ length list
    → is_among (name_list (drop (at - 1) list)) other ≡ with_name (get_or list (at - 1) d).now (is_among (name_list (drop at list))) other
among_less list at d other some within = ap (λ (l : List (Bor (List ℕ))). is_among (name_list l) other) (drop_less list at d some within)

-- a set with one name more says so
pub seen_less : (list : List (Bor (List ℕ))) (at : ℕ) (d : Bor (List ℕ)) (old new : BTreeSet (Bor (List ℕ))) → 0 < at → at ≤ length list
    → ((other : List ℕ) → names old other ≡ is_among (name_list (drop at list)) other) → ((other : List ℕ) → names new other ≡ with_name (get_or list (at - 1) d).now (names old) other)
    → (other : List ℕ) → names new other ≡ is_among (name_list (drop (at - 1) list)) other
seen_less list at d old new some within seen more other =
    more other ∙ ap (λ (t : Bool). bytes_eq other (get_or list (at - 1) d).now || t) (seen other) ∙ sym (among_less list at d other some within)

-- twins among the last names are twins
pub twins_whole : (list : List (Bor (List ℕ))) (n : ℕ) → has_twin_names (name_list (drop n list)) ≡ true → has_twin_names (name_list list) ≡ true
twins_whole [] n h = absurd (none n h)
  where
    none : (n : ℕ) → has_twin_names (name_list (drop n [])) ≡ true → ⊥
    none zero h = cc
    none (suc n) h = cc
twins_whole (x ∷ xs) zero h = h
twins_whole (x ∷ xs) (suc n) h = or_right (is_among (name_list xs) x.now) _ (twins_whole xs n h)

-- strangers by a set
pub strangers : (set : BTreeSet (Bor (List ℕ))) (among args : List (List ℕ)) → ((other : List ℕ) → names set other ≡ is_among among other)
    → list_any (λ a. not (names set a)) args ≡ has_stranger among args
strangers set among [] h = refl
strangers set among (a ∷ args) h = let more = strangers set among args h in λ i. not (h a i) || more i

-- how many arguments a gate takes, by its size
pub arity_by_size : (o : Option Known) → option_map (λ (z : Size). z.arity) (option_map size_of o) ≡ option_map (λ (g : Known). g.arity) o
arity_by_size None = refl
arity_by_size (Some g) = refl
