-- Tags: a number of 38 bits for each label, by which a table of cosets finds its place. A polynomial in the label's numbers,
-- folded by Horner's rule; the constants are this program's own.
use Rattle.std.specs.Prelude.{ℕ, ◌+◌, ◌-◌, ◌*◌, ◌/◌, ◌%◌, ◌^◌, ℤ, pos, negsuc, List, [], ◌∷◌, ◌++◌, fold}
use Rattle.coset_label.specs.Labels.{Label, Column}

-- a whole number modulo 2^38, as one that isn't negative
abbrev pub residue : ℤ → ℕ
residue (pos v) = v % 2 ^ 38
residue (negsuc v) = 2 ^ 38 - 1 - v % 2 ^ 38

abbrev pub fold_number : ℕ → ℤ → ℕ
fold_number f v = (f * 1000003 + residue v) % 2 ^ 38

-- the numbers of all columns, one column after another
abbrev pub joined : List Column → List ℤ
joined [] = []
joined (column ∷ columns) = column ++ joined columns

-- the exponent, and then the columns' numbers
abbrev pub label_numbers : Label → List ℤ
label_numbers label = pos label.exponent ∷ joined label.columns

abbrev pub tag_of : Label → ℕ
tag_of label = let f = fold fold_number 0 (label_numbers label) in (f + f / 2 ^ 19) % 2 ^ 38
