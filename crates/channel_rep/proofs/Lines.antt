-- One row of a table: that of the identity, and a row that is lent to be read.
use Rattle.std.proofs.Common.{◌≡◌, ℕ, ◌+◌, ◌-◌, ◌*◌, ◌^◌, ◌<◌, List, ◌++◌, length, take, drop, replicate, refl, ap, sym, ◌∙◌, subst, inl, inr, arith}
use Rattle.std.specs.Prelude.{pos}
use Rattle.std.proofs.Math.ListN.{set, get_or, length-set}
use Rattle.std.proofs.lemmas.List.{get_or-replicate, get_or-set_other, length-replicate}
use Rattle.std.proofs.lemmas.Grind.{get_or-set_at}
use Rattle.std.proofs.lemmas.Bool.{cases_eq}
use Rattle.std.proofs.Math.Seq.{take-append_seam}
use Rattle.ring_laws.specs.Matrix.{identity, Agree}
use Rattle.tc_ring.specs.Root2.{surd_of}
use Rattle.tc_ring.specs.Surds.{surds, surd_integer, SurdWithin}
use Rattle.tc_ring.specs.declared.root2.Root2.{Root2}
use Rattle.channel_rep.specs.Cells.{ChannelGrid, IsChannelGrid, RowWithin, cell_of, no_cell, entries, table_of}
use Rattle.channel_rep.proofs.Places.{lent_row}
use Rattle.channel_rep.proofs.Grids.{grid, grid_identity, grid_within}
use Rattle.channel_rep.proofs.Rules.{one_at, zero_at}

abbrev one_cell : Root2
one_cell = record { a = pos 1; b = pos 0 }

-- the cell of a line of zeros with one 1
line_cell : (size row k : ℕ) → row < size → k < size → surd_of (get_or (set (replicate size no_cell) row one_cell) k no_cell) ≡ identity surds row k
unfolding surd_integer
line_cell size row k below l = elim (cases_eq row k) [
  | inl e ↦ ap surd_of (get_or-set_at (replicate size no_cell) row k one_cell no_cell (sym e) (omega (arith, length-replicate size no_cell))) ∙ sym (one_at row k e)
  | inr d ↦ ap surd_of (get_or-set_other (replicate size no_cell) row k one_cell no_cell (λ e. d (sym e)) ∙ get_or-replicate size k no_cell no_cell l) ∙ sym (zero_at row k d)
]

-- a line of zeros with one 1 is a row of the identity
pub identity_line : (size row len : ℕ) (zeros : List Root2) → zeros ≡ replicate len no_cell → len ≡ size → row < size → (k : ℕ) → k < size → cell_of (set zeros row one_cell) k ≡ identity surds row k
identity_line size row len zeros e long below k l =
    ap (λ xs. cell_of (set xs row one_cell) k) (e ∙ ap (λ n. replicate n no_cell) long) ∙ line_cell size row k below l

-- a line is as long as the row was
pub identity_line_length : (size row len : ℕ) (zeros : List Root2) → zeros ≡ replicate len no_cell → len ≡ size → length (set zeros row one_cell) ≡ size
identity_line_length size row len zeros e long = length-set zeros row one_cell ∙ ap length e ∙ length-replicate len no_cell ∙ long

-- a row of a channel's cells, lent, has that row of its table
pub row_read : (n k size row : ℕ) (cells lent : List Root2) (g : ChannelGrid) → grid n k cells ≡ g → IsChannelGrid (grid n k cells) → size ≡ 4 ^ n → lent ≡ cells → row < 4 ^ g.qubits
    → (c : ℕ) → c < 4 ^ g.qubits → cell_of (take ((row + 1) * size - row * size) (drop (row * size) lent)) c ≡ table_of g row c
row_read n k size row cells lent g e h s d below c l =
    let qubits : 4 ^ g.qubits ≡ size = ap (λ (m : ChannelGrid). 4 ^ m.qubits) (sym e) ∙ sym s in
    let long : (row + 1) * size - row * size ≡ size = omega arith in
    let whole : length lent ≡ size * size = ap length d ∙ h.whole ∙ ap (λ z. z * z) (sym s) in
    (lent_row size row _ lent (subst (λ z. row < z) qubits below) whole long).cells_of_row c (subst (λ z. c < z) qubits l)
    ∙ (λ i. cell_of (d i) (row * s i + c)) ∙ ap (λ (m : ChannelGrid). table_of m row c) e

-- and its numbers are within 2^60
pub row_within : (n k size row : ℕ) (cells lent : List Root2) (g : ChannelGrid) → grid n k cells ≡ g → IsChannelGrid (grid n k cells) → size ≡ 4 ^ n → lent ≡ cells → row < 4 ^ g.qubits
    → RowWithin (2 ^ 60) (take ((row + 1) * size - row * size) (drop (row * size) lent))
row_within n k size row cells lent g e h s d below place l =
    let qubits : 4 ^ g.qubits ≡ 4 ^ n = ap (λ (m : ChannelGrid). 4 ^ m.qubits) (sym e) in
    let long : (row + 1) * size - row * size ≡ size = omega arith in
    let whole : length lent ≡ size * size = ap length d ∙ h.whole ∙ ap (λ z. z * z) (sym s) in
    let inside : place < 4 ^ n = omega (arith, (lent_row size row _ lent (omega arith) whole long).row_length) in
    subst (SurdWithin (2 ^ 60)) (sym (row_read n k size row cells lent g e h s d below place (omega arith)))
    (subst (λ (m : ChannelGrid). SurdWithin (2 ^ 60) (table_of m row place)) e (grid_within n k 60 cells cells (omega arith) refl h row place (omega arith) inside))

-- a channel that was made into the identity, over cells that were lent
pub identity_done : (n k len size : ℕ) (old lent new : List Root2) → IsChannelGrid (grid n k old) → size ≡ 4 ^ n → lent ≡ old → length lent ≡ len → length new ≡ size * size
    → Agree surds size (entries size new) (identity surds) → IsChannelGrid (grid n 0 (take len (new ++ drop (length new) old)))
identity_done n k len size old lent new h s same long whole agree =
    let full : length new ≡ 4 ^ n * 4 ^ n = whole ∙ ap (λ z. z * z) s in
    let e : len ≡ length new = sym long ∙ ap length same ∙ h.whole ∙ sym full in
    let back : take len (new ++ drop (length new) old) ≡ new = ap (λ z. take z (new ++ drop (length new) old)) e ∙ take-append_seam new (drop (length new) old) in
    subst (λ xs. IsChannelGrid (grid n 0 xs)) (sym back)
    (grid_identity n new h.some h.few full (subst (λ z. Agree surds z (entries z new) (identity surds)) s agree))
