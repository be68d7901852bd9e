-- What a change of a narrow channel's numbers leaves: a narrow channel.
use Rattle.std.proofs.Common.{◌≡◌, ◌≢◌, ◌⊎◌, ℕ, ◌+◌, ◌-◌, ◌*◌, ◌/◌, ◌%◌, ◌^◌, ◌<◌, ◌≤◌, Bool, List, ◌++◌, length, take, drop, refl, ap, sym, ◌∙◌, subst, inl, inr, arith}
use Rattle.std.specs.Prelude.{ℤ}
use Rattle.ring_laws.specs.Matrix.{identity, product, Agree}
use Rattle.tc_ring.specs.Surds.{Surd, surds, SurdWithin, IsOdd, surd_times}
use Rattle.tc_ring.specs.declared.root2.Root2.{Root2}
use Rattle.channel_rep.specs.Tables.{rotation_table, SameTable}
use Rattle.channel_rep.specs.Rows.{rotated}
use Rattle.channel_rep.specs.Cells.{ChannelGrid, IsChannelGrid, IsReduced, EntriesWithin, cell_of, entries, table_of, scaled}
use Rattle.channel_rep.specs.Lanes.{number, most_small}
use Rattle.channel_rep.specs.Parts.{cells_of, most_narrow_exponent, narrow_grid, IsNarrow}
use Rattle.channel_rep.proofs.Built.{root2_to}
use Rattle.channel_rep.proofs.Norms.{norm_within, norm_below}
use Rattle.channel_rep.proofs.Squares.{row_below, column_below, place_is}
use Rattle.channel_rep.proofs.Grids.{grid_identity, grid_norm, given_back, RotationDone, rotation_done_at, ReduceDone, reduce_done}
use Rattle.channel_rep.proofs.TwoLists.{length-cells_of, cell_is}

-- numbers of the identity
pub narrow_identity : (n : ℕ) (a b : List ℤ) → 0 < n → n ≤ 3 → length a ≡ 4 ^ n * 4 ^ n → length b ≡ 4 ^ n * 4 ^ n → Agree surds (4 ^ n) (entries (4 ^ n) (cells_of a b)) (identity surds) → IsNarrow n 0 a b
narrow_identity n a b some few whole root agree = record {
  whole_places = whole;
  root_places = root;
  grid = record { channel = grid_identity n (cells_of a b) some few (length-cells_of a b (whole ∙ sym root) ∙ whole) agree; low = omega arith };
}

module _ (n k : ℕ) (a b : List ℤ) (valid : IsNarrow n k a b) where
  -- both lists are as long
  pub as_long : length a ≡ length b
  as_long = valid.whole_places ∙ sym valid.root_places

  -- there is a cell for each number
  pub places : length (cells_of a b) ≡ 4 ^ n * 4 ^ n
  places = length-cells_of a b as_long ∙ valid.whole_places

  -- each number is within 2^14
  pub narrow_within : EntriesWithin (2 ^ 14) (4 ^ n) (cells_of a b)
  narrow_within r c l m = let low = valid.grid.low in norm_within (4 ^ n) k 14 (entries (4 ^ n) (cells_of a b)) (grid_norm (narrow_grid n k a b) valid.grid.channel) (omega arith) r c l m

  -- and less below the largest exponent
  pub narrow_small : k < most_narrow_exponent → EntriesWithin most_small (4 ^ n) (cells_of a b)
  narrow_small room r c l m = norm_below (4 ^ n) k 14 most_small (entries (4 ^ n) (cells_of a b)) (grid_norm (narrow_grid n k a b) valid.grid.channel) (omega arith) refl r c l m

-- a narrow channel after a rotation
pub record NarrowRotated (n k : ℕ) (inverse : Bool) (p : ℕ) (a b a' b' : List ℤ) : Type 0 where
  pub valid : IsNarrow n (k + 1) a' b'
  pub table : Agree surds (4 ^ n) (entries (4 ^ n) (cells_of a' b')) (product surds (4 ^ n) (rotation_table n inverse p) (entries (4 ^ n) (cells_of a b)))

-- from the row rule of a rotation
pub narrow_rotated : (n q k : ℕ) (a b a' b' : List ℤ) (inverse : Bool) (p : ℕ) → IsNarrow n k a b → q ≡ n → p < 4 ^ q → p ≢ 0 → k < most_narrow_exponent → length a' ≡ length a → length b' ≡ length b
    → ((r c : ℕ) → r < 4 ^ q → c < 4 ^ q → entries (4 ^ q) (cells_of a' b') r c ≡ rotated q inverse p (entries (4 ^ q) (cells_of a b)) r c) → NarrowRotated n k inverse p a b a' b'
narrow_rotated n q k a b a' b' inverse p valid same lp d room kept_a kept_b rows =
    record {
      valid = record {
        whole_places = kept_a ∙ valid.whole_places;
        root_places = kept_b ∙ valid.root_places;
        grid = record { channel = done.valid; low = omega arith };
      };
      table = done.table;
    }
  where
    old : List Root2
    old = cells_of a b

    new : List Root2
    new = cells_of a' b'

    whole : length new ≡ 4 ^ n * 4 ^ n
    whole = length-cells_of a' b' (kept_a ∙ as_long n k a b valid ∙ sym kept_b) ∙ kept_a ∙ valid.whole_places

    done : RotationDone n k inverse p old new
    done = subst (RotationDone n k inverse p old) (given_back (length old) (4 ^ n * 4 ^ n) old old new refl refl (places n k a b valid) whole)
        (rotation_done_at n q k (length old) old old new inverse p same lp d (omega arith) valid.grid.channel refl refl (whole ∙ ap (λ z. 4 ^ z * 4 ^ z) (sym same)) rows)

-- a narrow channel after its cells were divided by √2
pub record NarrowReduced (n k j : ℕ) (a b a' b' : List ℤ) : Type 0 where
  pub valid : IsNarrow n j a' b'
  pub value : SameTable n (scaled (narrow_grid n j a' b')) (scaled (narrow_grid n k a b))
  pub least : IsReduced (narrow_grid n j a' b')

-- from cells that were divided
pub narrow_reduced : (n k j : ℕ) (a b a' b' : List ℤ) → IsNarrow n k a b → length a' ≡ length a → length b' ≡ length b → j ≤ k
    → ((i : ℕ) → i < length a → surd_times (root2_to (k - j)) (cell_of (cells_of a' b') i) ≡ cell_of (cells_of a b) i) → (j ≡ 0) ⊎ ((i : ℕ) × (i < length a') × IsOdd (number a' i))
    → NarrowReduced n k j a b a' b'
narrow_reduced n k j a b a' b' valid kept_a kept_b less cells least =
    let low = valid.grid.low in
    record {
      valid = record {
        whole_places = kept_a ∙ valid.whole_places;
        root_places = kept_b ∙ valid.root_places;
        grid = record { channel = done.valid; low = omega arith };
      };
      value = done.value;
      least = done.least;
    }
  where
    old : List Root2
    old = cells_of a b

    new : List Root2
    new = cells_of a' b'

    long : length old ≡ length a
    long = length-cells_of a b (as_long n k a b valid)

    kept : length new ≡ length old
    kept = length-cells_of a' b' (kept_a ∙ as_long n k a b valid ∙ sym kept_b) ∙ kept_a ∙ sym long

    odd_cell : (i : ℕ) → i < length a' → IsOdd (number a' i) → (i : ℕ) × (i < length new) × IsOdd (cell_of new i).a
    odd_cell i l odd = (i, omega (arith, kept, long), subst (λ (x : Surd). IsOdd x.a) (sym (cell_is a' b' i l (omega (arith, kept_a, kept_b, as_long n k a b valid)))) odd)

    done : ReduceDone n k j old new
    done = subst (ReduceDone n k j old) (given_back (length old) (4 ^ n * 4 ^ n) old old new refl refl (places n k a b valid) (kept ∙ places n k a b valid))
        (reduce_done n k j (length old) old old new valid.grid.channel refl refl kept less (λ i l. cells i (omega (arith, long))) (elim least [ inl none ↦ inl none | inr odd ↦ inr (odd_cell odd.0 odd.1 odd.2) ]))

-- a channel's cells are within 2^14 where its exponent is low
pub channel_within : (m : ChannelGrid) → IsChannelGrid m → m.exponent ≤ most_narrow_exponent → (k : ℕ) → k < length m.cells → SurdWithin (2 ^ 14) (cell_of m.cells k)
channel_within m valid low k l =
    subst (λ p. SurdWithin (2 ^ 14) (cell_of m.cells p)) (place_is m.qubits k)
    (norm_within (4 ^ m.qubits) m.exponent 14 (table_of m) (grid_norm m valid) (omega arith) (k / 4 ^ m.qubits) (k % 4 ^ m.qubits) (row_below m.qubits k (omega (arith, valid.whole))) (column_below m.qubits k))

-- a narrow channel that is a channel
pub record NarrowTaken (n k : ℕ) (a b : List ℤ) (m : ChannelGrid) : Type 0 where
  pub valid : IsNarrow n k a b
  pub is : narrow_grid n k a b ≡ m

-- from cells that were taken apart
pub narrow_taken : (n k : ℕ) (a b : List ℤ) (m : ChannelGrid) → IsChannelGrid m → n ≡ m.qubits → k ≡ m.exponent → m.exponent ≤ most_narrow_exponent → length a ≡ 4 ^ n * 4 ^ n → length b ≡ 4 ^ n * 4 ^ n → cells_of a b ≡ m.cells → NarrowTaken n k a b m
narrow_taken n k a b m valid qubits exponent low whole root cells =
    record {
      valid = record { whole_places = whole; root_places = root; grid = record { channel = subst IsChannelGrid (sym is) valid; low = omega arith } };
      is = is;
    }
  where
    is : narrow_grid n k a b ≡ m
    is i = record { qubits = qubits i; exponent = exponent i; cells = cells i }

-- ---- lists that were lent as slices
-- what holds of both lists as they were written holds of them once they are given back
pub both_back : (P : List ℤ → List ℤ → Type 0) (len_a len_b : ℕ) (a b lent_a lent_b a' b' : List ℤ) → lent_a ≡ a → lent_b ≡ b → length lent_a ≡ len_a → length lent_b ≡ len_b → length a' ≡ length lent_a → length b' ≡ length lent_b
    → P a' b' → P (take len_a (a' ++ drop (length a') a)) (take len_b (b' ++ drop (length b') b))
both_back P len_a len_b a b lent_a lent_b a' b' same_a same_b long_a long_b kept_a kept_b h =
    subst (λ (z : List ℤ × List ℤ). P z.0 z.1)
    (λ i. (
      sym (given_back len_a (length a) a lent_a a' same_a long_a refl (kept_a ∙ ap length same_a)) i,
      sym (given_back len_b (length b) b lent_b b' same_b long_b refl (kept_b ∙ ap length same_b)) i,
    )) h

-- a rotation
pub rotation_back : (n q k len_a len_b : ℕ) (a b lent_a lent_b a' b' : List ℤ) (inverse : Bool) (p : ℕ) → IsNarrow n k a b → q ≡ n → p < 4 ^ q → p ≢ 0 → k < most_narrow_exponent
    → lent_a ≡ a → lent_b ≡ b → length lent_a ≡ len_a → length lent_b ≡ len_b → length a' ≡ length lent_a → length b' ≡ length lent_b
    → ((r c : ℕ) → r < 4 ^ q → c < 4 ^ q → entries (4 ^ q) (cells_of a' b') r c ≡ rotated q inverse p (entries (4 ^ q) (cells_of lent_a lent_b)) r c)
    → NarrowRotated n k inverse p a b (take len_a (a' ++ drop (length a') a)) (take len_b (b' ++ drop (length b') b))
rotation_back n q k len_a len_b a b lent_a lent_b a' b' inverse p valid same lp d room same_a same_b long_a long_b kept_a kept_b rows =
    both_back (NarrowRotated n k inverse p a b) len_a len_b a b lent_a lent_b a' b' same_a same_b long_a long_b kept_a kept_b
    (narrow_rotated n q k a b a' b' inverse p valid same lp d room (kept_a ∙ ap length same_a) (kept_b ∙ ap length same_b)
    (λ r c l m. rows r c l m ∙ (λ i. rotated q inverse p (entries (4 ^ q) (cells_of (same_a i) (same_b i))) r c)))

-- a reduction
pub reduction_back : (n k j len_a len_b : ℕ) (a b lent_a lent_b a' b' : List ℤ) → IsNarrow n k a b → lent_a ≡ a → lent_b ≡ b → length lent_a ≡ len_a → length lent_b ≡ len_b → length a' ≡ length lent_a → length b' ≡ length lent_b
    → j ≤ k → ((i : ℕ) → i < length lent_a → surd_times (root2_to (k - j)) (cell_of (cells_of a' b') i) ≡ cell_of (cells_of lent_a lent_b) i) → (j ≡ 0) ⊎ ((i : ℕ) × (i < length a') × IsOdd (number a' i))
    → NarrowReduced n k j a b (take len_a (a' ++ drop (length a') a)) (take len_b (b' ++ drop (length b') b))
reduction_back n k j len_a len_b a b lent_a lent_b a' b' valid same_a same_b long_a long_b kept_a kept_b less cells least =
    both_back (NarrowReduced n k j a b) len_a len_b a b lent_a lent_b a' b' same_a same_b long_a long_b kept_a kept_b
    (narrow_reduced n k j a b a' b' valid (kept_a ∙ ap length same_a) (kept_b ∙ ap length same_b) less
    (λ i l. cells i (omega (arith, ap length same_a)) ∙ (λ t. cell_of (cells_of (same_a t) (same_b t)) i)) least)
