-- What taking an entry does to a view, by what is given of it.
use Rattle.std.proofs.Common.{◌≡◌, ℕ, ◌+◌, List, [], ◌∷◌, ◌++◌, Some, None, Contains, refl, sym, ap, ◌∙◌, subst, arith}
use Rattle.std.specs.List.{sum_by}
use Rattle.std.proofs.lemmas.List.Sums.{sum_by_push}
use Rattle.std.proofs.lemmas.List.Elements.{Contains-append_left, Contains-append_right}
use Rattle.work_shares.specs.declared.entry.View.{View}
use Rattle.work_shares.specs.declared.entry.Entry.{Entry}
use Rattle.work_shares.specs.declared.entry.Entry.TheVariants.{Work, End}
use Rattle.work_shares.specs.Entries.{is_work, is_end, ends}
use Rattle.work_shares.specs.Rule.{Took, GotApart}
use Rattle.work_shares.specs.Gives.{Gives}

-- what a view got, with one entry more
got_more : (v w : View) (x : Entry) (weight : Entry → ℕ) → Took v (x ∷ []) w → sum_by weight w.got ≡ sum_by weight v.got + weight x
got_more v w x weight t = ap (λ (u : View). sum_by weight u.got) t.0 ∙ sum_by_push weight v.got x

-- an entry that was taken stands in what was pushed
contains_taken : (v w : View) (x : Entry) → Took v (x ∷ []) w → Contains v.pushed x
contains_taken v w x t =
    let before = t.2.0 in
    let after = t.2.1 in
    subst (λ (pushed : List Entry). Contains pushed x) (sym t.2.2)
    (Contains-append_right before (x ∷ [] ++ after) x (Contains-append_left (x ∷ []) after x (0, omega arith, refl)))

-- what was got is no more than what was pushed
taken_apart : (v w : View) (x : Entry) → Took v (x ∷ []) w → GotApart w
taken_apart v w x t weight = omega (arith, t.1 weight, ap (λ (u : View). sum_by weight u.pushed) t.0)

-- a block was taken
pub takes_work : (v w : View) (x : Entry) (number : ℕ) → x ≡ Work number → Took v (x ∷ []) w → Gives (Some number) v w
takes_work v w x number is t = record {
  parts = ap (λ (u : View). u.parts) t.0;
  pushed = ap (λ (u : View). u.pushed) t.0;
  got = λ weight none. got_more v w x weight t ∙ ap (λ y. sum_by weight v.got + weight y) is;
  left = omega (arith, got_more v w x is_work t, t.1 is_work, ap (λ (u : View). sum_by is_work u.pushed) t.0, ap is_work is);
  known = subst (Contains v.pushed) is (contains_taken v w x t);
  apart = λ _. taken_apart v w x t;
}

-- an end mark was taken
pub takes_end : (v w : View) → Took v (End ∷ []) w → Gives None v w
takes_end v w t = record {
  parts = ap (λ (u : View). u.parts) t.0;
  pushed = ap (λ (u : View). u.pushed) t.0;
  got = λ weight none. omega (arith, got_more v w End weight t, none);
  left = omega (arith, got_more v w End is_work t, t.1 is_work, ap (λ (u : View). sum_by is_work u.pushed) t.0);
  known = tt;
  apart = λ _. taken_apart v w End t;
}

-- end marks got, after a block and after an end mark
pub ends_after : (v w : View) (x : Entry) → Took v (x ∷ []) w → ends w.got ≡ ends v.got + is_end x
ends_after v w x t = got_more v w x is_end t

-- nothing changes
pub gives_none : (v : View) → Gives None v v
gives_none v = record { parts = refl; pushed = refl; got = λ weight none. omega arith; left = omega arith; known = tt; apart = λ apart. apart }
