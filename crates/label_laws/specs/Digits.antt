-- Digits with signs, and the number that they make: a column as one number whose digits are the ranks of its cells.
-- Source: Knuth, The Art of Computer Programming, volume 2, section 4.1, for balanced digits.
use Rattle.std.specs.Prelude.{◌≡◌, ℕ, zero, suc, ◌+◌, ◌*◌, ◌^◌, ◌<◌, ℤ, pos, neg_ℤ, ◌+ℤ◌, ◌*ℤ◌, nat_abs, int_lt, Bool, true, false, if◌then◌else◌, List, [], ◌∷◌, length}
use Rattle.std.specs.Ordering.{int_cmp, ordering_then}
use Rattle.std.specs.declared.cmp.Ordering.{Ordering}
use Rattle.tc_ring.specs.Surds.{Surd, surd_negative, zero_surd}
use Rattle.std.specs.List.{AllByRecursion}

-- the first digit highest
abbrev pub signed_number : ℕ → List ℤ → ℤ
signed_number base [] = pos 0
signed_number base (d ∷ digits) = d *ℤ pos (base ^ length digits) +ℤ signed_number base digits

-- each digit is less than half of the base
abbrev pub AreSignedDigits : ℕ → List ℤ → Type 0
AreSignedDigits base digits = AllByRecursion (λ d. 2 * nat_abs d < base) digits

-- the order of two cells in a column: by the whole part, and then by the part of √2
abbrev pub cell_cmp : Surd → Surd → Ordering
cell_cmp x y = ordering_then (int_cmp x.a y.a) (int_cmp x.b y.b)

-- digits for some cells, 0 and the negatives among them, that stand in the order of the cells
pub record IsRanking (base : ℕ) (Occurs : Surd → Type 0) (digit : Surd → ℤ) : Type 0 where
  pub zero : Occurs zero_surd
  pub negative : (x : Surd) → Occurs x → Occurs (surd_negative x)
  pub nothing : digit zero_surd ≡ pos 0
  pub turned : (x : Surd) → Occurs x → digit (surd_negative x) ≡ neg_ℤ (digit x)
  pub small : (x : Surd) → Occurs x → 2 * nat_abs (digit x) < base
  pub order : (x y : Surd) → Occurs x → Occurs y → cell_cmp x y ≡ int_cmp (digit x) (digit y)

-- the digits of the cells of `count` rows from a row on, of those rows that are kept
abbrev pub kept_digits : (ℕ → Surd → ℤ) → (ℕ → Bool) → (ℕ → Surd) → ℕ → ℕ → List ℤ
kept_digits digit keep cell row zero = []
kept_digits digit keep cell row (suc count) =
    if keep row then digit row (cell row) ∷ kept_digits digit keep cell (row + 1) count else kept_digits digit keep cell (row + 1) count

-- a column's cells have digits in the rows that are kept, and are 0 in the others
pub record IsRanked (size : ℕ) (keep : ℕ → Bool) (Occurs : ℕ → Surd → Type 0) (cell : ℕ → Surd) : Type 0 where
  pub occurs : (row : ℕ) → row < size → keep row ≡ true → Occurs row (cell row)
  pub zeros : (row : ℕ) → row < size → keep row ≡ false → cell row ≡ zero_surd

-- the number of a column: the digits of its kept rows, the first one highest
abbrev pub packed_column : ℕ → ℕ → (ℕ → Bool) → (ℕ → Surd → ℤ) → (ℕ → Surd) → ℤ
packed_column base size keep digit cell = signed_number base (kept_digits digit keep cell 0 size)

-- a number without its sign
abbrev pub without_sign : ℤ → ℤ
without_sign x = if int_lt x (pos 0) then neg_ℤ x else x
