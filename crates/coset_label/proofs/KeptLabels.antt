-- Labels that are kept by indexes.
use Rattle.std.proofs.Common.{◌≡◌, ℕ, suc, ◌^◌, ◌<◌, Bool, List, [], ◌∷◌, map, refl, sym, subst, inl, inr, arith}
use Rattle.std.specs.Prelude.{IsPermutation, IsSorted, All}
use Rattle.std.specs.List.{range_with_len}
use Rattle.std.specs.Ordering.{int_cmp}
use Rattle.std.specs.Cmp.Lexicographic.{slice_cmp}
use Rattle.std.proofs.lemmas.List.Sorted.{IsPermutation-map}
use Rattle.channel_rep.specs.Cells.{ChannelGrid, table_of, scaled, IsReduced}
use Rattle.coset_label.specs.Labels.{IsLabelOf, HasLeastExponent, column_of}
use Rattle.coset_label.specs.Scratch.{AreLeads, fixed_column, kept_column, kept_label, turned_column}

-- a channel whose exponent can't be less has the least one
least_of : (m : ChannelGrid) → IsReduced m → HasLeastExponent m.qubits (scaled m)
least_of m (inl e) = inl e
least_of m (inr h) = inr (record { row = h.row; column = h.column; row_below = h.row_below; column_below = h.column_below; odd = h.odd })

-- columns whose signs are found are kept with their signs fixed
kept_fixed : (m : ChannelGrid) (leads : List ℕ) (negative : List Bool) (order : List ℕ) → AreLeads m leads negative → All (λ column. column < 4 ^ m.qubits) order
    → map (kept_column m negative) order ≡ map (fixed_column m) order
kept_fixed m leads negative [] h below = refl
kept_fixed m leads negative (column ∷ order) h below =
    let found = h column (below 0 0 (omega arith)) in
    let numbers = column_of m.qubits (table_of m) column in
    (λ i. turned_column (found.sign i) numbers ∷ kept_fixed m leads negative order h (λ k d l. below (suc k) d (omega arith)) i)

-- the columns in order, with their signs, are the label
pub label_is : (m : ChannelGrid) (leads : List ℕ) (negative : List Bool) (size : ℕ) (order : List ℕ) → IsReduced m → AreLeads m leads negative → size ≡ 4 ^ m.qubits
    → IsPermutation (range_with_len 0 size) order → All (λ column. column < 4 ^ m.qubits) order → IsSorted (slice_cmp int_cmp) (map (fixed_column m) order)
    → IsLabelOf m.qubits (scaled m) (kept_label m negative order)
label_is m leads negative size order reduced h s moved below sorted =
    let same = kept_fixed m leads negative order h below in
    let moves : IsPermutation (range_with_len 0 (4 ^ m.qubits)) order = subst (λ z. IsPermutation (range_with_len 0 z) order) s moved in
    record {
      least = least_of m reduced;
      exponent = refl;
      columns = subst (IsPermutation (map (fixed_column m) (range_with_len 0 (4 ^ m.qubits)))) (sym same) (IsPermutation-map (fixed_column m) _ _ moves);
      sorted = subst (IsSorted (slice_cmp int_cmp)) (sym same) sorted;
    }
