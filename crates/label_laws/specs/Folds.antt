-- Folds of columns as whole numbers, not cut: the sum over the rows of a weight times the cell, in Z[√2]. The fold is that
-- sum's part of √2, so the weight x + y·√2 gives y to the whole part of the cell and x to its part of √2.
use Rattle.std.specs.Prelude.{ℕ, ◌-◌, ◌*◌, ◌^◌, ℤ, pos, Bool, if◌then◌else◌}
use Rattle.ring_laws.specs.Matrix.{product}
use Rattle.tc_ring.specs.Surds.{Surd, surd, surds, surd_plus, surd_times, root2_surd}
use Rattle.pauli_basis.specs.Products.{product_code, commute, anti_sign}
use Rattle.channel_rep.specs.Tables.{SurdTable, signed, turned_over}

-- the weight of a row in the tag's fold: each number behind it in the column multiplies it by the tag's base once
abbrev pub weight : ℕ → ℕ → Surd
weight size row = let power = 1000003 ^ (2 * (size - 1 - row)) in surd (pos power) (pos (power * 1000003))

-- these weights as a table of one row
abbrev pub weights : ℕ → SurdTable
weights size _ row = weight size row

-- the fold of a table's column by weights
abbrev pub weighed : ℕ → SurdTable → SurdTable → ℕ → ℤ
weighed size w m column = (product surds size w m 0 column).b

-- weights times the table of a rotation, by the rule of columns: √2 times the weight of a row that commutes, and else the
-- weight and that of its partner with a sign
abbrev pub rotated_weights : ℕ → Bool → ℕ → SurdTable → SurdTable
rotated_weights n inverse p w row k =
    if commute n p k
    then surd_times root2_surd (w row k)
    else surd_plus (w row k) (signed (turned_over inverse (anti_sign n p k)) (w row (product_code p k)))

-- weights times √2
abbrev pub root2_weights : SurdTable → SurdTable
root2_weights w row k = surd_times root2_surd (w row k)
