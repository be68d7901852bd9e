-- What rounds of tries do to a list of thefts.
use Rattle.std.proofs.Common.{◌≡◌, ℕ, ◌<◌, List, Option, Some, None, IfSome, Contains, map, set, get_or, length, refl, sym, ap, ◌∙◌, subst, arith}
use Rattle.std.specs.List.{Any}
use Rattle.std.proofs.lemmas.List.Sums.{sum_by-set}
use Rattle.std.proofs.Math.Seq.{map-set_same}
use Rattle.std.proofs.lemmas.List.{length-map, get_or-map}
use Rattle.work_shares.specs.declared.entry.Entry.{Entry}
use Rattle.work_shares.specs.declared.entry.Entry.TheVariants.{Work}
use Rattle.work_shares.specs.declared.theft.Theft.{Theft}
use Rattle.work_shares.specs.Gives.{Gives}
use Rattle.work_shares.specs.Thefts.{Steals, view_into, deque_into, pushed_into, got_by, left_into}

-- nothing was tried
pub steals_none : (thefts : List Theft) → Steals None thefts thefts
steals_none thefts = record { deques = refl; pushed = refl; got = λ weight none. omega arith; left = omega arith; known = tt }

-- the block that a theft gave was pushed into one of the deques
known_at : (number : Option ℕ) (thefts : List Theft) (i : ℕ) (t : Theft) → i < length thefts → t ≡ get_or thefts i t → IfSome number (λ n. Contains (pushed_into t) (Work n))
    → IfSome number (λ n. Any (λ pushed. Contains pushed (Work n)) (map pushed_into thefts))
known_at None thefts i t lt is known = tt
known_at (Some n) thefts i t lt is known =
    (i, pushed_into t, rw length-map lt, get_or-map pushed_into thefts i t (pushed_into t) lt ∙ ap pushed_into (sym is), known)

-- one theft of the list was tried
pub steals_at : (number : Option ℕ) (thefts : List Theft) (i : ℕ) (t u : Theft) → i < length thefts → t ≡ get_or thefts i t → Gives number (view_into t) (view_into u) → deque_into u ≡ deque_into t
    → Steals number thefts (set thefts i u)
steals_at number thefts i t u lt is gives deque = record {
  deques = map-set_same deque_into thefts i u t (deque ∙ ap deque_into is);
  pushed = map-set_same pushed_into thefts i u t (gives.pushed ∙ ap pushed_into is);
  got = λ weight none. omega (arith, sum_by-set (got_by weight) thefts i u t lt, ap (got_by weight) is, gives.got weight none);
  left = omega (arith, sum_by-set left_into thefts i u t lt, ap left_into is, gives.left);
  known = known_at number thefts i t lt is gives.known;
}

-- tries that gave nothing, and then others
pub steals_then : (number : Option ℕ) (a b c : List Theft) → Steals None a b → Steals number b c → Steals number a c
steals_then number a b c none more = record {
  deques = more.deques ∙ none.deques;
  pushed = more.pushed ∙ none.pushed;
  got = λ weight zero_of. omega (arith, none.got weight zero_of, more.got weight zero_of);
  left = omega (arith, none.left, more.left);
  known = subst (λ (lists : List (List Entry)). IfSome number (λ n. Any (λ pushed. Contains pushed (Work n)) lists)) none.pushed more.known;
}
