-- The norm of a table's columns. The channel of a unitary is orthogonal, and so in each column of its cells over √2^k the
-- squares add up to 2^k.
-- Source: Gosset, Kliuchnikov, Mosca and Russo 2014, section 2.3; for Z[√2] Hardy and Wright, chapter XIV.
use Rattle.std.specs.Prelude.{◌≡◌, ℕ, ◌^◌, ◌<◌, ℤ, pos, ◌+ℤ◌, ◌*ℤ◌}
use Rattle.ring_laws.specs.Ring.{integers}
use Rattle.ring_laws.specs.Matrix.{sum, product, identity, Agree}
use Rattle.tc_ring.specs.Surds.{Surd, surds, surd_integer, surd_times}
use Rattle.channel_rep.specs.Tables.{SurdTable}

-- a² + 2b², the whole part of the square of a + b·√2
abbrev pub norm : Surd → ℤ
norm x = x.a *ℤ x.a +ℤ pos 2 *ℤ (x.b *ℤ x.b)

-- the norms of a column's entries, added up
abbrev pub column_norm : ℕ → SurdTable → ℕ → ℤ
column_norm size m column = sum integers size (λ row. norm (m row column))

-- each column of a table of this size has the norm 2^k
abbrev pub HasNorm : ℕ → ℕ → SurdTable → Type 0
HasNorm size k m = (column : ℕ) → column < size → column_norm size m column ≡ pos (2 ^ k)

-- rows in the place of columns
abbrev pub transposed : SurdTable → SurdTable
transposed m row column = m column row

-- the square of each column is 2^k, and two columns are orthogonal: mᵀ·m is 2^k times the identity
abbrev pub HasOrthogonalColumns : ℕ → ℕ → SurdTable → Type 0
HasOrthogonalColumns size k m =
    Agree surds size (product surds size (transposed m) m) (λ row column. surd_times (surd_integer (pos (2 ^ k))) (identity surds row column))
