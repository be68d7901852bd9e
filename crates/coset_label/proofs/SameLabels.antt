-- Labels with the same columns, cell by cell.
use Rattle.std.proofs.Common.{◌≡◌, ℕ, zero, suc, ◌+◌, ◌^◌, ◌<◌, ◌≤◌, Bool, true, false, not, List, [], ◌∷◌, length, map, slice_index, slice_index_or, refl, ap, sym, ◌∙◌, subst, inl, inr, arith}
use Rattle.std.specs.Prelude.{◌&&◌, ◌↔◌}
use Rattle.std.specs.Ordering.{int_eq}
use Rattle.std.proofs.lemmas.Bool.{cases_eq, true≢false}
use Rattle.std.proofs.lemmas.List.{get_or-map}
use Rattle.tc_ring.specs.Surds.{Surd, surd}
use Rattle.tc_ring.specs.declared.root2.Root2.{Root2}
use Rattle.tc_ring.proofs.Surds.{surd_within_more}
use Rattle.channel_rep.specs.Tables.{signed}
use Rattle.channel_rep.specs.Cells.{ChannelGrid, RowWithin, cell_of, table_of}
use Rattle.channel_rep.proofs.OneUnit.{same_by_parts}
use Rattle.coset_label.specs.Labels.{Column, numbers_from}
use Rattle.coset_label.specs.Scratch.{IsArranged, kept_column, cell_at, placed_cell}
use Rattle.coset_label.proofs.ColumnLists.{cells_of_numbers}
use Rattle.coset_label.proofs.TurnedColumns.{turned_numbers}
use Rattle.coset_label.proofs.ColumnOrder.{turned_cells}

-- what a comparison of cells that finds no difference tells
pub told_same : (x y : Surd) → false ≡ not (int_eq x.a y.a && int_eq x.b y.b) → x ≡ y
told_same x y e = (same_by_parts x y (int_eq x.a y.a && int_eq x.b y.b) refl).0 (is_true (int_eq x.a y.a && int_eq x.b y.b) e)
  where
    is_true : (b : Bool) → false ≡ not b → b ≡ true
    is_true true e = refl
    is_true false e = absurd (true≢false (sym e))

-- equal cells make equal numbers
numbers_of_same : (f g : ℕ → Surd) (row count : ℕ) → ((r : ℕ) → row ≤ r → r < row + count → f r ≡ g r) → numbers_from f row count ≡ numbers_from g row count
numbers_of_same f g row zero same = refl
numbers_of_same f g row (suc count) same =
    let here = same row (omega arith) (omega arith) in
    let rest = numbers_of_same f g (row + 1) count (λ r l m. same r (omega arith) (omega arith)) in
    λ i. (here i).a ∷ (here i).b ∷ rest i

-- lists of columns that are equal place by place
columns_same : (f g : ℕ → Column) (xs ys : List ℕ) → length xs ≡ length ys → ((k : ℕ) → k < length xs → f (slice_index xs k) ≡ g (slice_index ys k)) → map f xs ≡ map g ys
columns_same f g [] [] e same = refl
columns_same f g [] (y ∷ ys) e same = absurd (omega arith)
columns_same f g (x ∷ xs) [] e same = absurd (omega arith)
columns_same f g (x ∷ xs) (y ∷ ys) e same =
    let here = same 0 (omega arith) in
    let rest = columns_same f g xs ys (omega arith) (λ k l. same (suc k) (omega arith)) in
    λ i. here i ∷ rest i

-- a column with its sign, as the numbers of its cells
kept_numbers : (m : ChannelGrid) (negative : List Bool) (column : ℕ) → kept_column m negative column ≡ numbers_from (turned_cells m column (slice_index_or negative column false)) 0 (4 ^ m.qubits)
kept_numbers m negative column = turned_numbers (slice_index_or negative column false) (λ r. table_of m r column) 0 (4 ^ m.qubits)

-- two labels' columns are the same exactly where their cells are
pub columns_by_cells : (m k : ChannelGrid) (m_negative k_negative : List Bool) (m_order k_order : List ℕ) → m.qubits ≡ k.qubits → IsArranged m m_negative m_order → IsArranged k k_negative k_order
    → (map (kept_column m m_negative) m_order ≡ map (kept_column k k_negative) k_order)
    ↔ ((row place : ℕ) → row < 4 ^ m.qubits → place < 4 ^ m.qubits → placed_cell m m_negative m_order row place ≡ placed_cell k k_negative k_order row place)
columns_by_cells m k m_negative k_negative m_order k_order q h g = (there, back)
  where
    long : length m_order ≡ length k_order
    long = h.places ∙ ap (λ n. 4 ^ n) q ∙ sym g.places

    cells : ChannelGrid → List Bool → ℕ → ℕ → Surd
    cells m negative column = turned_cells m column (slice_index_or negative column false)

    at_place : (place : ℕ) → place < length m_order → map (kept_column m m_negative) m_order ≡ map (kept_column k k_negative) k_order
        → kept_column m m_negative (slice_index m_order place) ≡ kept_column k k_negative (slice_index k_order place)
    at_place place l e =
        sym (get_or-map (kept_column m m_negative) m_order place 0 [] l) ∙ ap (λ xs. slice_index_or xs place []) e ∙ get_or-map (kept_column k k_negative) k_order place 0 [] (subst (λ n. place < n) long l)

    there : map (kept_column m m_negative) m_order ≡ map (kept_column k k_negative) k_order
        → (row place : ℕ) → row < 4 ^ m.qubits → place < 4 ^ m.qubits → placed_cell m m_negative m_order row place ≡ placed_cell k k_negative k_order row place
    there e row place r l =
        let same = at_place place (subst (λ n. place < n) (sym h.places) l) e in
        cells_of_numbers (turned_cells m (slice_index m_order place) (slice_index_or m_negative (slice_index m_order place) false))
        (turned_cells k (slice_index k_order place) (slice_index_or k_negative (slice_index k_order place) false)) 0 (4 ^ m.qubits)
        (sym (kept_numbers m m_negative (slice_index m_order place)) ∙ same ∙ kept_numbers k k_negative (slice_index k_order place)
        ∙ ap (λ n. numbers_from (turned_cells k (slice_index k_order place) (slice_index_or k_negative (slice_index k_order place) false)) 0 (4 ^ n)) (sym q))
        row (omega arith) (omega arith)

    back : ((row place : ℕ) → row < 4 ^ m.qubits → place < 4 ^ m.qubits → placed_cell m m_negative m_order row place ≡ placed_cell k k_negative k_order row place)
        → map (kept_column m m_negative) m_order ≡ map (kept_column k k_negative) k_order
    back same =
        columns_same (kept_column m m_negative) (kept_column k k_negative) m_order k_order long
        (λ place l. kept_numbers m m_negative (slice_index m_order place)
        ∙ numbers_of_same (turned_cells m (slice_index m_order place) (slice_index_or m_negative (slice_index m_order place) false))
        (turned_cells k (slice_index k_order place) (slice_index_or k_negative (slice_index k_order place) false)) 0 (4 ^ m.qubits)
        (λ r _ below. same r place (omega arith) (subst (λ n. place < n) h.places l))
        ∙ ap (λ n. numbers_from (turned_cells k (slice_index k_order place) (slice_index_or k_negative (slice_index k_order place) false)) 0 (4 ^ n)) q
        ∙ sym (kept_numbers k k_negative (slice_index k_order place)))

-- a row's cells are within the greatest bound
pub small_row : (line : List Root2) → RowWithin (2 ^ 60) line → RowWithin (2 ^ 62) line
small_row line small place l = surd_within_more (2 ^ 60) (2 ^ 62) _ (omega arith) (small place l)

-- the cell of a row at a place is that of the label
pub cell_of_row : (m : ChannelGrid) (line : List Root2) (row : ℕ) (negative : List Bool) (order : List ℕ) (place : ℕ) → ((c : ℕ) → c < 4 ^ m.qubits → cell_of line c ≡ table_of m row c) → IsArranged m negative order → place < 4 ^ m.qubits
    → cell_at (cell_of line) negative order place ≡ placed_cell m negative order row place
cell_of_row m line row negative order place e h l =
    let column = slice_index order place in
    ap (signed (slice_index_or negative column false)) (e column (h.below place 0 (subst (λ n. place < n) (sym h.places) l)))
