-- Products of tables over powers of √2.
-- Source: Gosset, Kliuchnikov, Mosca and Russo, An algorithm for the T-count, 2014, section 2.3.
use Rattle.std.specs.Prelude.{ℕ, ◌+◌, ◌^◌}
use Rattle.ring_laws.specs.Matrix.{identity, product}
use Rattle.tc_ring.specs.Surds.{surds}
use Rattle.channel_rep.specs.Tables.{ScaledTable, Step, step_table, step_exponent}

-- the channel of the identity
abbrev pub identity_table : ScaledTable
identity_table = record { table = identity surds; exponent = 0 }

-- a·b, where the powers of √2 add up
abbrev pub table_product : ℕ → ScaledTable → ScaledTable → ScaledTable
table_product n a b = record { table = product surds (4 ^ n) a.table b.table; exponent = a.exponent + b.exponent }

-- a step's table over its power of √2
abbrev pub table_of_step : ℕ → Step → ScaledTable
table_of_step n s = record { table = step_table n s; exponent = step_exponent s }
