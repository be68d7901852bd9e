-- Columns as numbers: a digit to the base 256 for each row of the column's block.
-- Source: Knuth, The Art of Computer Programming, volume 2, section 4.1, for balanced digits.
use Rattle.std.specs.Prelude.{ℕ, ◌*◌, ◌-◌, ◌^◌, ℤ, pos, ◌+ℤ◌, ◌*ℤ◌, nat_lt, if◌then◌else◌, Bool, List}
use Rattle.tc_ring.specs.Surds.{Surd, surd, zero_surd}
use Rattle.channel_rep.specs.Tables.{SurdTable}
use Rattle.label_laws.specs.Digits.{packed_column}
use Rattle.quick_label.specs.Blocks.{in_block, rows_behind}

-- the digit of a cell a + b·√2: where b is from −5 to 5, digits stand in the order of the cells
abbrev pub digit : Surd → ℤ
digit x = pos 11 *ℤ x.a +ℤ x.b

-- the number of a column: the digits of its block's rows, the first row's highest
abbrev pub column_number : ℕ → List Bool → SurdTable → ℕ → ℤ
column_number size span m column = packed_column 256 size (in_block span column) (λ _. digit) (λ row. m row column)

-- the weight of a row whose digit counts so often: 11 times for the whole part, once for the part of √2
abbrev pub digit_weight : ℕ → Surd
digit_weight power = surd (pos power) (pos (11 * power))

-- weights for the digits with eight rows or more behind them, over 256^8, and for the last eight
abbrev pub high_weights : ℕ → List Bool → SurdTable
high_weights size span _ row = let behind = rows_behind size span row in if nat_lt behind 8 then zero_surd else digit_weight (256 ^ (behind - 8))

abbrev pub low_weights : ℕ → List Bool → SurdTable
low_weights size span _ row = let behind = rows_behind size span row in if nat_lt behind 8 then digit_weight (256 ^ behind) else zero_surd
