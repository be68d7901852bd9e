-- Lemmas for the crates above: folds of columns in numbers of 64 bits.
use Rattle.std.proofs.Common.{◌≡◌, ℕ, zero, suc, ◌+◌, ◌*◌, ◌%◌, ◌^◌, ◌<◌, Bool, true, false, List, [], ◌∷◌, ◌++◌, length, map, take, slice_index, slice_index_or, refl, ap, sym, ◌∙◌, arith, add-one}
use Rattle.std.specs.Prelude.{pos, neg_ℤ, fold, All}
use Rattle.std.proofs.Math.Nat.{add-mod, mod-mod, mod-eq_of_lt}
use Rattle.std.proofs.lemmas.Nat.{mul-mod, pow-add}
use Rattle.std.proofs.lemmas.List.{length-map, take_more}
use Rattle.std.proofs.lemmas.List.Sums.{fold-append}
use Rattle.tc_ring.specs.Surds.{Surd}
use Rattle.channel_rep.specs.Cells.{ChannelGrid, table_of}
use Rattle.coset_label.specs.Labels.{Column, numbers_from, column_of}
use Rattle.coset_label.specs.Tags.{residue, fold_number, joined, label_numbers}
use Rattle.coset_label.specs.Scratch.{kept_column, kept_label, turned_column}
use Rattle.coset_label.specs.Sums.{column_sum, turned_sum, joined_sums, AreSums}
use Rattle.pauli_basis.proofs.Letters.{two_bits}
use Rattle.coset_label.proofs.Horner.{step_same, fold_behind, fold_negative}

-- 2^38 divides 2^64
pub low_bits : (x : ℕ) → x % 2 ^ 64 % 2 ^ 38 ≡ x % 2 ^ 38
low_bits x = omega arith

-- one row more at the end of a column
pub numbers_from-end : (cell : ℕ → Surd) (row count : ℕ) → numbers_from cell row (suc count) ≡ numbers_from cell row count ++ (cell (row + count)).a ∷ (cell (row + count)).b ∷ []
numbers_from-end cell row zero = λ i. (cell (here i)).a ∷ (cell (here i)).b ∷ []
  where
    here : row ≡ row + zero
    here = omega arith
numbers_from-end cell row (suc count) =
    let along : row + 1 + count ≡ row + suc count = omega arith in
    ap (λ xs. (cell row).a ∷ (cell row).b ∷ xs) (numbers_from-end cell (row + 1) count ∙ (λ i. numbers_from cell (row + 1) count ++ (cell (along i)).a ∷ (cell (along i)).b ∷ []))

-- a column's fold with one row more
pub column_sum-more : (cell : ℕ → Surd) (row old new : ℕ) (x : Surd) → x ≡ cell row → old % 2 ^ 38 ≡ column_sum (numbers_from cell 0 row) % 2 ^ 38
    → new % 2 ^ 38 ≡ fold_number (fold_number old x.a) x.b → new % 2 ^ 38 ≡ column_sum (numbers_from cell 0 (row + 1)) % 2 ^ 38
column_sum-more cell row old new x is before step =
    let h = column_sum (numbers_from cell 0 row) in
    let first : fold_number old x.a ≡ fold_number h x.a = step_same (2 ^ 38) 1000003 old h (residue x.a) before in
    let at : 0 + row ≡ row = omega arith in
    let longer : numbers_from cell 0 (row + 1) ≡ numbers_from cell 0 row ++ x.a ∷ x.b ∷ [] =
    ap (numbers_from cell 0) (add-one row) ∙ numbers_from-end cell 0 row ∙ (λ i. numbers_from cell 0 row ++ (cell (at i)).a ∷ (cell (at i)).b ∷ [])
    ∙ (λ i. numbers_from cell 0 row ++ (sym is i).a ∷ (sym is i).b ∷ []) in
    step ∙ ap (λ f. fold_number f x.b) first ∙ sym (mod-mod (fold_number h x.a * 1000003 + residue x.b) (2 ^ 38))
    ∙ ap (λ f. f % 2 ^ 38) (sym (ap column_sum longer ∙ fold-append fold_number 0 (numbers_from cell 0 row) (x.a ∷ x.b ∷ [])))

-- the square of a power
pub power_step : (power i : ℕ) → power ≡ 1000003 ^ (2 ^ i) % 2 ^ 64 → power * power % 2 ^ 64 ≡ 1000003 ^ (2 ^ (i + 1)) % 2 ^ 64
power_step power i e =
    let twice : 2 ^ i + 2 ^ i ≡ 2 ^ (i + 1) = omega (arith, pow-add 2 i 1) in
    (λ j. e j * e j % 2 ^ 64) ∙ sym (mul-mod (1000003 ^ (2 ^ i)) (1000003 ^ (2 ^ i)) (2 ^ 64)) ∙ ap (λ x. x % 2 ^ 64) (sym (pow-add 1000003 (2 ^ i) (2 ^ i)) ∙ ap (λ k. 1000003 ^ k) twice)

-- the power of a whole column
pub power_done : (n i : ℕ) → i ≡ 2 * n + 1 → 1000003 ^ (2 ^ i) % 2 ^ 64 ≡ 1000003 ^ (2 * 4 ^ n) % 2 ^ 64
power_done n i e =
    let whole : 2 ^ i ≡ 2 * 4 ^ n = ap (λ k. 2 ^ k) e ∙ (omega (arith, pow-add 2 (2 * n) 1, two_bits n)) in
    ap (λ k. 1000003 ^ k % 2 ^ 64) whole

-- one column more
pub joined_more : (power : ℕ) (sums : List ℕ) (negative : List Bool) (first : ℕ) (order : List ℕ) (place f t : ℕ) → place < length order → f ≡ joined_sums power sums negative first (take place order)
    → t ≡ turned_sum (slice_index_or negative (slice_index order place) false) (slice_index sums (slice_index order place)) % 2 ^ 64
    → (f * power % 2 ^ 64 + t) % 2 ^ 64 ≡ joined_sums power sums negative first (take (place + 1) order)
joined_more power sums negative first order place f t l e h =
    let step = λ (a column : ℕ). (a * power + turned_sum (slice_index_or negative column false) (slice_index sums column)) % 2 ^ 64 in
    (λ i. (e i * power % 2 ^ 64 + h i) % 2 ^ 64)
    ∙ sym (add-mod (joined_sums power sums negative first (take place order) * power) _ (2 ^ 64))
    ∙ sym (ap (fold step first) (take_more order place 0 l) ∙ fold-append step first (take place order) (slice_index order place ∷ []))

-- how many numbers a column has
length-numbers_from : (cell : ℕ → Surd) (row count : ℕ) → length (numbers_from cell row count) ≡ 2 * count
length-numbers_from cell row zero = refl
length-numbers_from cell row (suc count) = omega (arith, length-numbers_from cell (row + 1) count)

-- and with its sign turned
length-turned : (negative : Bool) (column : Column) → length (turned_column negative column) ≡ length column
length-turned false column = refl
length-turned true column = length-map column neg_ℤ

-- a column's fold with its sign
turned_sum_is : (negative : Bool) (sum : ℕ) (column : Column) → sum % 2 ^ 38 ≡ column_sum column % 2 ^ 38 → turned_sum negative sum % 2 ^ 38 ≡ column_sum (turned_column negative column) % 2 ^ 38
turned_sum_is false sum column e = e
turned_sum_is true sum column e = let nothing = fold_negative 0 0 column refl in omega arith

-- the first of the columns, and the others
first_below : (n column : ℕ) (order : List ℕ) → All (λ c. c < n) (column ∷ order) → column < n
first_below n column order h = h 0 0 (omega arith)

others_below : (n column : ℕ) (order : List ℕ) → All (λ c. c < n) (column ∷ order) → All (λ c. c < n) order
others_below n column order h k d l = h (suc k) d (omega arith)

-- one column more in the fold
column_step : (m : ChannelGrid) (negative : List Bool) (sums : List ℕ) (power f g column : ℕ) → AreSums m sums → power ≡ 1000003 ^ (2 * 4 ^ m.qubits) % 2 ^ 64 → column < 4 ^ m.qubits → f % 2 ^ 38 ≡ g % 2 ^ 38
    → (f * power + turned_sum (slice_index_or negative column false) (slice_index sums column)) % 2 ^ 64 % 2 ^ 38 ≡ fold fold_number g (kept_column m negative column) % 2 ^ 38
column_step m negative sums power f g column h p l e =
    let numbers = kept_column m negative column in
    let sign = slice_index_or negative column false in
    let sum = turned_sum sign (slice_index sums column) in
    let long : length numbers ≡ 2 * 4 ^ m.qubits = length-turned sign (column_of m.qubits (table_of m) column) ∙ length-numbers_from (λ r. table_of m r column) 0 (4 ^ m.qubits) in
    let same : sum % 2 ^ 38 ≡ column_sum numbers % 2 ^ 38 = turned_sum_is sign (slice_index sums column) (column_of m.qubits (table_of m) column) (h column l) in
    let powers : power % 2 ^ 38 ≡ 1000003 ^ length numbers % 2 ^ 38 = ap (λ x. x % 2 ^ 38) p ∙ low_bits _ ∙ ap (λ k. 1000003 ^ k % 2 ^ 38) (sym long) in
    low_bits (f * power + sum)
    ∙ add-mod (f * power) sum (2 ^ 38)
    ∙ (λ i. ((mul-mod f power (2 ^ 38) ∙ (λ j. (e j * powers j) % 2 ^ 38) ∙ sym (mul-mod g (1000003 ^ length numbers) (2 ^ 38))) i + same i) % 2 ^ 38)
    ∙ sym (add-mod (g * 1000003 ^ length numbers) (column_sum numbers) (2 ^ 38))
    ∙ sym (fold_behind g numbers)

-- the columns' folds, joined, are the fold of all their numbers
pub joined_is : (m : ChannelGrid) (negative : List Bool) (sums : List ℕ) (power f g : ℕ) (order : List ℕ) → AreSums m sums → power ≡ 1000003 ^ (2 * 4 ^ m.qubits) % 2 ^ 64
    → All (λ column. column < 4 ^ m.qubits) order → f % 2 ^ 38 ≡ g % 2 ^ 38 → joined_sums power sums negative f order % 2 ^ 38 ≡ fold fold_number g (joined (map (kept_column m negative) order)) % 2 ^ 38
joined_is m negative sums power f g [] h p below e = e
joined_is m negative sums power f g (column ∷ order) h p below e =
    joined_is m negative sums power ((f * power + turned_sum (slice_index_or negative column false) (slice_index sums column)) % 2 ^ 64)
    (fold fold_number g (kept_column m negative column)) order h p (others_below (4 ^ m.qubits) column order below)
    (column_step m negative sums power f g column h p (first_below (4 ^ m.qubits) column order below) e)
    ∙ ap (λ x. x % 2 ^ 38) (sym (fold-append fold_number g (kept_column m negative column) (joined (map (kept_column m negative) order))))

-- the fold of a label's numbers, from its columns' folds
pub fold_is : (m : ChannelGrid) (negative : List Bool) (sums : List ℕ) (power : ℕ) (order : List ℕ) → AreSums m sums → power ≡ 1000003 ^ (2 * 4 ^ m.qubits) % 2 ^ 64 → All (λ column. column < 4 ^ m.qubits) order
    → joined_sums power sums negative m.exponent order % 2 ^ 38 ≡ fold fold_number 0 (label_numbers (kept_label m negative order))
fold_is m negative sums power order h p below =
    joined_is m negative sums power m.exponent (fold_number 0 (pos m.exponent)) order h p below (omega arith)
    ∙ fold_small (joined (map (kept_column m negative) order)) (fold_number 0 (pos m.exponent)) (omega arith)
  where
    fold_small : (xs : Column) (f : ℕ) → f < 2 ^ 38 → fold fold_number f xs % 2 ^ 38 ≡ fold fold_number f xs
    fold_small [] f l = mod-eq_of_lt l
    fold_small (v ∷ xs) f l = fold_small xs (fold_number f v) (omega arith)
