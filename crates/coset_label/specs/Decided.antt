-- The test whether two tables lie in one coset, as a truth value: each column of one is looked for among those of the other.
use Rattle.std.specs.Prelude.{ℕ, zero, suc, ◌^◌, Bool, true, false, ◌&&◌, ◌||◌}
use Rattle.std.specs.Ordering.{int_eq}
use Rattle.ring_laws.specs.Ring.{power}
use Rattle.tc_ring.specs.Surds.{Surd, surds, surd_times, root2_surd}
use Rattle.channel_rep.specs.Tables.{ScaledTable, signed}

-- the test at each number below one, and at some
abbrev pub at_all : (ℕ → Bool) → ℕ → Bool
at_all test zero = true
at_all test (suc n) = test n && at_all test n

abbrev pub at_some : (ℕ → Bool) → ℕ → Bool
at_some test zero = false
at_some test (suc n) = test n || at_some test n

-- the same whole numbers
abbrev pub same_surd : Surd → Surd → Bool
same_surd x y = int_eq x.a y.a && int_eq x.b y.b

-- a column of a is a column of b, or its negative, both brought to one power of √2
abbrev pub same_column : ℕ → ScaledTable → ℕ → ScaledTable → ℕ → Bool → Bool
same_column n a column b other negative =
    at_all (λ row. same_surd (surd_times (power surds root2_surd b.exponent) (a.table row column)) (signed negative (surd_times (power surds root2_surd a.exponent) (b.table row other)))) (4 ^ n)

-- each column of a is, up to sign, a column of b
abbrev pub has_columns : ℕ → ScaledTable → ScaledTable → Bool
has_columns n b a = at_all (λ column. at_some (λ other. same_column n a column b other false || same_column n a column b other true) (4 ^ n)) (4 ^ n)

-- both ways
unfoldable pub in_one_coset : ℕ → ScaledTable → ScaledTable → Bool
in_one_coset n a b = has_columns n b a && has_columns n a b
