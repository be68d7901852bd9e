-- Lemmas for the crates above: the dealt blocks, one behind the other, are the positions below the total.
use Rattle.std.proofs.Common.{◌≡◌, ℕ, zero, suc, ◌+◌, ◌-◌, ◌*◌, ◌<◌, ◌≤◌, ◌⊎◌, ⊎_elim, inl, inr, min, List, ◌∷◌, ◌++◌, All, map, flat_map, length, get_or, sym, ap, ◌∙◌, subst, append-nil, zero-add, zero-mul, arith}
use Rattle.std.specs.List.{range_with_len}
use Rattle.std.specs.List.Sorted.{IsStrictlyIncreasing}
use Rattle.std.proofs.Math.Nat.{add-mul, mul-le-mul_right}
use Rattle.std.proofs.lemmas.Bool.{cases_lt}
use Rattle.std.proofs.lemmas.Grind.{div_ceil_times}
use Rattle.std.proofs.lemmas.List.{length-map, get_or-map}
use Rattle.std.proofs.lemmas.List.Elements.{All-map, All-from_get_or}
use Rattle.std.proofs.lemmas.List.FromFn.{length-range_with_len, get_or-range_with_len, length-map-range_with_len, get_or-map-range_with_len}
use Rattle.work_shares.specs.Cuts.{block_count, block_at, dealt, positions_of}

-- a range in two parts
pub range-append : (a m n : ℕ) → range_with_len a m ++ range_with_len (a + m) n ≡ range_with_len a (m + n)
range-append a zero n = ap (λ k. range_with_len k n) (omega arith) ∙ ap (range_with_len a) (omega arith)
range-append a (suc m) n =
    ap (λ (l : List ℕ). a ∷ l) (ap (λ k. range_with_len (a + 1) m ++ range_with_len k n) (omega arith) ∙ range-append (a + 1) m n)
    ∙ ap (range_with_len a) (let e : suc (m + n) ≡ suc m + n = omega arith in e)

-- one of two numbers is no greater than the other
cases_le : (m n : ℕ) → (m ≤ n) ⊎ (n ≤ m)
cases_le m n = ⊎_elim (λ lt. inl (omega arith)) (λ le. inr le) (cases_lt m n)

-- the blocks from the k-th on cover the positions from its first on
cover_from : (total size k m : ℕ) → total ≤ (k + m) * size → flat_map positions_of (map (block_at total size) (range_with_len k m)) ≡ range_with_len (k * size) (total - k * size)
cover_from total size k zero enough =
    let e : (k + 0) * size ≡ k * size = ap (λ j. j * size) (omega arith) in
    ap (range_with_len (k * size)) (let none : 0 ≡ total - k * size = omega arith in none)
cover_from total size k (suc m) enough =
    let f : ℕ → List ℕ = range_with_len (k * size) in
    let next : (k + 1) * size ≡ k * size + size = add-mul k 1 size ∙ omega arith in
    let same : (k + suc m) * size ≡ (k + 1 + m) * size = ap (λ j. j * size) (omega arith) in
    let rest = cover_from total size (k + 1) m (omega arith) in
    ap (λ l. f (min size (total - k * size)) ++ l) rest ∙ ⊎_elim
    (λ (whole : size ≤ total - k * size).
    ap (λ c. f c ++ range_with_len ((k + 1) * size) (total - (k + 1) * size)) (omega arith)
    ∙ ap (λ j. f size ++ range_with_len j (total - j)) next
    ∙ range-append (k * size) size (total - (k * size + size))
    ∙ ap f (omega arith))
    (λ (last : total - k * size ≤ size).
    ap (λ c. f c ++ range_with_len ((k + 1) * size) (total - (k + 1) * size)) (omega arith)
    ∙ ap (λ c. f (total - k * size) ++ range_with_len ((k + 1) * size) c) (let none : total - (k + 1) * size ≡ 0 = omega arith in none)
    ∙ append-nil (f (total - k * size)))
    (cases_le size (total - k * size))

-- all dealt blocks cover the positions below the total
pub dealt-cover : (total size : ℕ) → 0 < size → flat_map positions_of (dealt total size) ≡ range_with_len 0 total
unfolding dealt
dealt-cover total size some =
    let enough : total ≤ (0 + block_count total size) * size = rw zero-add (div_ceil_times total size some).0 in
    cover_from total size 0 (block_count total size) enough ∙ rw zero-mul (ap (range_with_len 0) (omega arith))

-- a block that is dealt begins below the total
begins_below : (total size k : ℕ) → 0 < size → k < block_count total size → k * size < total
begins_below total size k some lt =
    let b = (div_ceil_times total size some).1 in
    let m : (k + 1) * size ≤ block_count total size * size = mul-le-mul_right size (omega arith) in
    let next : (k + 1) * size ≡ k * size + size = add-mul k 1 size ∙ omega arith in
    omega arith

-- what holds of the block of each number below the count holds of each dealt block
All-dealt : (P : ℕ × ℕ → Type 0) (total size : ℕ) → ((k : ℕ) → k < block_count total size → P (block_at total size k)) → All P (dealt total size)
unfolding dealt
All-dealt P total size each =
    let n = block_count total size in
    All-map P (block_at total size) (range_with_len 0 n)
    (All-from_get_or (λ k. P (block_at total size k)) (range_with_len 0 n) 0 (λ i lt.
    let below : i < n = omega (arith, length-range_with_len 0 n) in
    subst (λ k. P (block_at total size k)) (sym (get_or-range_with_len 0 n i 0 below)) (each (0 + i) (omega arith))))

-- no dealt block is empty
pub dealt-some : (total size : ℕ) → 0 < size → All (λ block. 0 < block.1) (dealt total size)
dealt-some total size some = All-dealt (λ (block : ℕ × ℕ). 0 < block.1) total size (λ k lt. let b = begins_below total size k some lt in omega arith)

-- each dealt block ends at the total or below
pub dealt-within : (total size : ℕ) → 0 < size → All (λ block. block.0 + block.1 ≤ total) (dealt total size)
dealt-within total size some = All-dealt (λ (block : ℕ × ℕ). block.0 + block.1 ≤ total) total size (λ k lt. let b = begins_below total size k some lt in omega arith)

-- dealt blocks begin at rising positions
pub dealt-rising : (total size : ℕ) → 0 < size → IsStrictlyIncreasing (map (λ block. block.0) (dealt total size))
unfolding dealt
dealt-rising total size some k lt =
    let n = block_count total size in
    let f = block_at total size in
    let first : ℕ × ℕ → ℕ = λ block. block.0 in
    let len : length (map f (range_with_len 0 n)) ≡ n = length-map-range_with_len f 0 n in
    let short : k + 1 < n = omega (arith, length-map (map f (range_with_len 0 n)) first) in
    let at : (j : ℕ) → j < n → get_or (map first (map f (range_with_len 0 n))) j 0 ≡ j * size = λ j below.
    get_or-map first (map f (range_with_len 0 n)) j (0, 0) 0 (omega arith) ∙ ap first (get_or-map-range_with_len f 0 n j j (0, 0) below (omega arith)) in
    let next : (k + 1) * size ≡ k * size + size = add-mul k 1 size ∙ omega arith in
    omega (arith, at k (omega arith), at (k + 1) short)
