-- Cells in two lists of numbers.
use Rattle.std.proofs.Common.{◌≡◌, ◌≢◌, ℕ, ◌+◌, ◌*◌, ◌<◌, List, length, get_or, ap, sym, ◌∙◌, inl, inr, arith}
use Rattle.std.specs.Prelude.{ℤ, pos, ◌*ℤ◌, ◌/◌, ◌%◌}
use Rattle.std.proofs.lemmas.Bool.{cases_eq}
use Rattle.std.proofs.lemmas.Int.{ints}
use Rattle.std.proofs.lemmas.List.{same_lists, get_or_default}
use Rattle.std.proofs.lemmas.Simd.{get_or-zip2, length-zip2}
use Rattle.ring_laws.specs.Matrix.{identity, Agree}
use Rattle.tc_ring.specs.Root2.{surd_of}
use Rattle.tc_ring.specs.Surds.{surds, surd, surd_times, root2_surd, surd_integer}
use Rattle.tc_ring.specs.declared.root2.Root2.{Root2}
use Rattle.tc_ring.proofs.Surds.{same_surd, root2_surd-times}
use Rattle.channel_rep.specs.Cells.{cell_of, entries, no_cell}
use Rattle.channel_rep.specs.Lanes.{number}
use Rattle.channel_rep.specs.Parts.{cells_of}
use Rattle.channel_rep.proofs.Rules.{one_at, zero_at}
use Rattle.channel_rep.proofs.Squares.{place-lt, row_of_place, column_of_place}

abbrev pub cell : ℤ → ℤ → Root2
cell a b = record { a = a; b = b }

-- as many cells as numbers
pub length-cells_of : (a b : List ℤ) → length a ≡ length b → length (cells_of a b) ≡ length a
length-cells_of a b e = length-zip2 cell a b e

-- a cell has its numbers
pub cell_is : (a b : List ℤ) (k : ℕ) → k < length a → k < length b → cell_of (cells_of a b) k ≡ surd (number a k) (number b k)
cell_is a b k l m = ap surd_of (get_or-zip2 cell a b k (pos 0) (pos 0) no_cell l m)

-- numbers that are those of cells make the cells
pub same_cells : (a b : List ℤ) (cells : List Root2) → length a ≡ length cells → length b ≡ length cells
    → ((k : ℕ) → k < length cells → get_or cells k no_cell ≡ cell (number a k) (number b k)) → cells_of a b ≡ cells
same_cells a b cells e d same =
    same_lists (cells_of a b) cells (long ∙ e)
    (λ k x l. let m : k < length cells = omega (arith, long) in get_or-zip2 cell a b k (pos 0) (pos 0) x (omega arith) (omega arith) ∙ sym (same k m) ∙ get_or_default cells k no_cell x m)
  where
    long : length (cells_of a b) ≡ length a
    long = length-cells_of a b (e ∙ sym d)

-- cells divided by √2
pub halved : (a b : List ℤ) (a' b' : List ℤ) (k : ℕ) → k < length a → length a ≡ length b → length a' ≡ length a → length b' ≡ length b
    → number a' k ≡ number b k → pos 2 *ℤ number b' k ≡ number a k → surd_times root2_surd (cell_of (cells_of a' b') k) ≡ cell_of (cells_of a b) k
halved a b a' b' k l e long_a long_b whole root =
    ap (surd_times root2_surd) (cell_is a' b' k (omega arith) (omega arith)) ∙ root2_surd-times _ ∙ same_surd {y = surd (number a k) (number b k)} (omega (arith, ints, root)) whole
    ∙ sym (cell_is a b k l (omega arith))

-- places off the diagonal are none on it
pub off_diagonal : (size r c row : ℕ) → c < size → row < size → r ≢ c → r * size + c ≢ row * size + row
off_diagonal size r c row l m d e =
    let one_row : r ≡ row = sym (row_of_place size r c l) ∙ ap (λ (p : ℕ). p / size) e ∙ row_of_place size row row m in
    let one_column : c ≡ row = sym (column_of_place size r c l) ∙ ap (λ (p : ℕ). p % size) e ∙ column_of_place size row row m in
    d (one_row ∙ sym one_column)

-- different rows have different places on it
pub on_diagonal : (size r row : ℕ) → r < size → row < size → r ≢ row → r * size + r ≢ row * size + row
on_diagonal size r row l m d e = d (sym (row_of_place size r r l) ∙ ap (λ (p : ℕ). p / size) e ∙ row_of_place size row row m)

-- an entry has its numbers
pub entry_is : (size : ℕ) (a b : List ℤ) → length a ≡ size * size → length b ≡ size * size → (r c : ℕ) → r < size → c < size
    → entries size (cells_of a b) r c ≡ surd (number a (r * size + c)) (number b (r * size + c))
entry_is size a b long_a long_b r c l m = let inside = place-lt size r c l m in cell_is a b (r * size + c) (omega arith) (omega arith)

-- ones on the diagonal and zeros elsewhere
pub identity_parts : (size : ℕ) (a b : List ℤ) → length a ≡ size * size → length b ≡ size * size → ((r : ℕ) → r < size → number a (r * size + r) ≡ pos 1)
    → ((r c : ℕ) → r < size → c < size → r ≢ c → number a (r * size + c) ≡ pos 0) → ((k : ℕ) → k < size * size → number b k ≡ pos 0) → Agree surds size (entries size (cells_of a b)) (identity surds)
unfolding surd_integer
identity_parts size a b long_a long_b ones zeros roots r c l m =
    entry_is size a b long_a long_b r c l m
    ∙ (λ i. surd (number a (r * size + c)) (roots (r * size + c) (place-lt size r c l m) i))
    ∙ elim (cases_eq r c) [
      | inl e ↦ ap (λ x. surd x (pos 0)) (ap (λ (k : ℕ). number a (r * size + k)) (sym e) ∙ ones r l) ∙ sym (one_at r c e)
      | inr d ↦ ap (λ x. surd x (pos 0)) (zeros r c l m d) ∙ sym (zero_at r c d)
    ]
