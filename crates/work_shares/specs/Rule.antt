-- The rule of one deque: what was taken and what it holds is what was pushed, and each entry that was taken is in one view.
use Rattle.std.specs.Prelude.{◌≡◌, ℕ, ◌<◌, ◌≤◌, List, [], ◌++◌, map, replicate, sum_by}
use mathlib.Core.Option.{some}
use lib.ListN.{get_elem?}
use Rattle.work_shares.specs.declared.entry.View.{View}
use Rattle.work_shares.specs.declared.entry.Entry.{Entry}
use Rattle.work_shares.specs.declared.entry.Entry.TheVariants.{Work, End}
use Rattle.work_shares.specs.Entries.{view, ends}

-- how many parts the right to take has, of which each pass has some
abbrev pub all_parts : ℕ
all_parts = 8

-- a view with a part knows what was pushed; it has no more end marks than parts; and a spent view has got nothing
pub record KnowsPushed (pushed : List Entry) (v : View) : Type 0 where
  pub knows : 0 < v.parts → v.pushed ≡ pushed
  pub marks : ends v.got ≤ v.parts
  pub spent : v.parts ≡ 0 → v.got ≡ []

pub record IsRuled (items : List Entry) (views : List View) : Type 0 where
  pub pushed : List Entry
  pub taken : List Entry
  pub cut : pushed ≡ taken ++ items
  pub parts : sum_by (λ v. v.parts) views ≡ all_parts
  pub once : (weight : Entry → ℕ) → sum_by (λ v. sum_by weight v.got) views ≡ sum_by weight taken
  pub fits : (port : ℕ) (v : View) → get_elem? views port ≡ some v → KnowsPushed pushed v

-- the entries joined what was pushed
abbrev pub Pushed : View → List Entry → View → Type 0
Pushed v entries w = w ≡ view v.parts (v.pushed ++ entries) v.got

-- the entries were taken by this view. They stand in what was pushed, and the view has got no more than that
abbrev pub Took : View → List Entry → View → Type 0
Took v entries w = (w ≡ view v.parts v.pushed (v.got ++ entries)) × ((weight : Entry → ℕ) → sum_by weight w.got ≤ sum_by weight v.pushed)
    × ((before : List Entry) × (after : List Entry) × (v.pushed ≡ before ++ (entries ++ after)))

-- each entry was got at most as often as it was pushed
abbrev pub GotApart : View → Type 0
GotApart v = (weight : Entry → ℕ) → sum_by weight v.got ≤ sum_by weight v.pushed

-- where an end mark was got, each entry before the end marks was got, once
abbrev pub GotAll : View → Type 0
GotAll v = (numbers : List ℕ) (workers : ℕ) → v.pushed ≡ map Work numbers ++ replicate workers End → 0 < ends v.got
    → (weight : Entry → ℕ) → weight End ≡ 0 → sum_by weight v.got ≡ sum_by (λ number. weight (Work number)) numbers

-- what a view with every part learns, whatever the deque still holds
pub record Learnt (v : View) (items : List Entry) : Type 0 where
  pub apart : GotApart v
  pub all : GotAll v
