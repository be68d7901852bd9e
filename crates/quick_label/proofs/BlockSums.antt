-- Sums over the rows of a block.
use Rattle.std.proofs.Common.{◌≡◌, ℕ, zero, suc, ◌+◌, ◌<◌, ◌≤◌, Bool, true, false, List, [], ◌∷◌, ◌++◌, length, reverse, filter, cond, slice_index, refl, ap, sym, ◌∙◌, subst, arith}
use Rattle.std.specs.Prelude.{ℤ, pos, ◌+ℤ◌}
use Rattle.std.specs.List.{range_with_len}
use Rattle.std.proofs.lemmas.List.{reverse-append}
use Rattle.std.proofs.lemmas.List.Elements.{filter-append}
use Rattle.ring_laws.specs.Matrix.{sum}
use Rattle.ring_laws.specs.Ring.{integers}
use Rattle.ring_laws.proofs.Integers.{integers_laws}
use Rattle.ring_laws.proofs.Reader.{ring, reads}
use Rattle.quick_label.specs.Blocks.{in_block, block_rows}
use Rattle.quick_label.specs.Rooms.{HeldBlocks, AreBlocks}

-- ---- lists
range_more : (a n : ℕ) → range_with_len a (suc n) ≡ range_with_len a n ++ (a + n) ∷ []
range_more a zero = let e : a ≡ a + 0 = omega arith in ap (λ k. k ∷ []) e
range_more a (suc n) = let e : a + 1 + n ≡ a + suc n = omega arith in ap (λ xs. a ∷ xs) (range_more (a + 1) n ∙ ap (λ k. range_with_len (a + 1) n ++ k ∷ []) e)

abbrev kept : (ℕ → Bool) → ℕ → List ℕ
kept p n = reverse (filter p (range_with_len 0 n))

kept_more : (p : ℕ → Bool) (n : ℕ) → kept p (suc n) ≡ reverse (cond (p n) (n ∷ []) []) ++ kept p n
kept_more p n =
    let e : 0 + n ≡ n = omega arith in
    ap (λ xs. reverse (filter p xs)) (range_more 0 n ∙ ap (λ k. range_with_len 0 n ++ k ∷ []) e)
    ∙ ap reverse (filter-append p (range_with_len 0 n) (n ∷ []))
    ∙ reverse-append (filter p (range_with_len 0 n)) (cond (p n) (n ∷ []) [])

-- ---- sums
first_swap : (x : ℤ) → pos 0 +ℤ x ≡ x +ℤ pos 0
first_swap x = ring integers_laws (x ∷ []) (search reads depth 30 parts 0 fits 10000) tt

three : (x y z : ℤ) → (x +ℤ y) +ℤ z ≡ x +ℤ (y +ℤ z)
three x y z = ring integers_laws (x ∷ y ∷ z ∷ []) (search reads depth 30 parts 0 fits 10000) tt

swap : (x y : ℤ) → x +ℤ y ≡ y +ℤ x
swap x y = ring integers_laws (x ∷ y ∷ []) (search reads depth 30 parts 0 fits 10000) tt

nothing_more : (x : ℤ) → x ≡ x +ℤ pos 0
nothing_more x = ring integers_laws (x ∷ []) (search reads depth 30 parts 0 fits 10000) tt

sum_first : (n : ℕ) (f : ℕ → ℤ) → sum integers (suc n) f ≡ f 0 +ℤ sum integers n (λ k. f (suc k))
unfolding sum
sum_first zero f = first_swap (f 0)
sum_first (suc n) f = ap (λ x. x +ℤ f (suc n)) (sum_first n f) ∙ three (f 0) (sum integers n (λ k. f (suc k))) (f (suc n))

-- a sum over some numbers, one after the other
abbrev pub sum_of : (ℕ → ℤ) → List ℕ → ℤ
sum_of g xs = sum integers (length xs) (λ k. g (slice_index xs k))

sum_more : (p : ℕ → Bool) (g : ℕ → ℤ) (n : ℕ) (b : Bool) → sum_of g (kept p n) ≡ sum integers n g → (b ≡ false → g n ≡ pos 0) → sum_of g (reverse (cond b (n ∷ []) []) ++ kept p n) ≡ sum integers (suc n) g
unfolding sum
sum_more p g n true before none = sum_first (length (kept p n)) (λ k. g (slice_index (n ∷ kept p n) k)) ∙ ap (λ x. g n +ℤ x) before ∙ swap (g n) (sum integers n g)
sum_more p g n false before none = before ∙ nothing_more (sum integers n g) ∙ ap (λ x. sum integers n g +ℤ x) (sym (none refl))

sum_all : (p : ℕ → Bool) (g : ℕ → ℤ) (n : ℕ) → ((r : ℕ) → r < n → p r ≡ false → g r ≡ pos 0) → sum_of g (kept p n) ≡ sum integers n g
unfolding sum
sum_all p g zero h = refl
sum_all p g (suc n) h = ap (sum_of g) (kept_more p n) ∙ sum_more p g n (p n) (sum_all p g n (λ r l. h r (omega arith))) (h n (omega arith))

-- what is 0 outside a block has the same sum over its rows as over all
pub block_sum : (size : ℕ) (span : List Bool) (column : ℕ) (g : ℕ → ℤ) → ((row : ℕ) → row < size → in_block span column row ≡ false → g row ≡ pos 0)
    → sum_of g (block_rows size span column) ≡ sum integers size g
block_sum size span column g h = sum_all (in_block span column) g size h

-- ---- rows
low_more : (p : ℕ → Bool) (n : ℕ) (b : Bool) → ((k : ℕ) → k < length (kept p n) → slice_index (kept p n) k < n)
    → (k : ℕ) → k < length (reverse (cond b (n ∷ []) []) ++ kept p n) → slice_index (reverse (cond b (n ∷ []) []) ++ kept p n) k < suc n
low_more p n true before zero l = omega arith
low_more p n true before (suc k) l = let low = before k (omega arith) in omega arith
low_more p n false before k l = let low = before k l in omega arith

rows_low : (p : ℕ → Bool) (n k : ℕ) → k < length (kept p n) → slice_index (kept p n) k < n
rows_low p zero k l = absurd (omega arith)
rows_low p (suc n) k l = subst (λ xs. slice_index xs k < suc n) (sym (kept_more p n)) (low_more p n (p n) (rows_low p n) k (subst (λ xs. k < length xs) (kept_more p n) l))

most_more : (p : ℕ → Bool) (n : ℕ) (b : Bool) → length (kept p n) ≤ n → length (reverse (cond b (n ∷ []) []) ++ kept p n) ≤ suc n
most_more p n true few = omega arith
most_more p n false few = omega arith

rows_most : (p : ℕ → Bool) (n : ℕ) → length (kept p n) ≤ n
rows_most p zero = omega arith
rows_most p (suc n) = subst (λ xs. length xs ≤ suc n) (sym (kept_more p n)) (most_more p n (p n) (rows_most p n))

-- the rows of a block are rows, and as many at most
pub block_low : (size : ℕ) (span : List Bool) (column k : ℕ) → k < length (block_rows size span column) → slice_index (block_rows size span column) k < size
block_low size span column k l = rows_low (in_block span column) size k l

pub block_few : (size : ℕ) (span : List Bool) (column : ℕ) → length (block_rows size span column) ≤ size
block_few size span column = rows_most (in_block span column) size

-- a block as it is read
pub block_held : (size : ℕ) (span : List Bool) (held : HeldBlocks) (column : ℕ) (rows : List ℕ) → held.size ≡ size → AreBlocks size span held
    → ((span : List Bool) → AreBlocks held.size span held → rows ≡ block_rows held.size span column) → rows ≡ block_rows size span column
block_held size span held column rows same are read = read span (subst (λ k. AreBlocks k span held) (sym same) are) ∙ ap (λ k. block_rows k span column) same
