-- What a try to take does to a view.
use Rattle.std.specs.Prelude.{◌≡◌, ℕ, ◌+◌, Option, Some, None, IfSome, Contains, sum_by}
use Rattle.work_shares.specs.declared.entry.View.{View}
use Rattle.work_shares.specs.declared.entry.Entry.{Entry}
use Rattle.work_shares.specs.declared.entry.Entry.TheVariants.{Work, End}
use Rattle.work_shares.specs.Entries.{blocks_left}
use Rattle.work_shares.specs.Rule.{GotApart}

-- what the number given weighs, if there is one
abbrev pub weighed : (Entry → ℕ) → Option ℕ → ℕ
weighed weight (Some number) = weight (Work number)
weighed weight None = 0

-- 1 where a number is given
abbrev pub given : Option ℕ → ℕ
given (Some number) = 1
given None = 0

-- the view got the block of the number, which was pushed, or none, and perhaps an end mark
pub record Gives (number : Option ℕ) (v w : View) : Type 0 where
  pub parts : w.parts ≡ v.parts
  pub pushed : w.pushed ≡ v.pushed
  pub got : (weight : Entry → ℕ) → weight End ≡ 0 → sum_by weight w.got ≡ sum_by weight v.got + weighed weight number
  pub left : blocks_left w + given number ≡ blocks_left v
  pub known : IfSome number (λ n. Contains v.pushed (Work n))
  pub apart : GotApart v → GotApart w
