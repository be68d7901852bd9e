-- What a change of a channel's cells leaves: a channel.
use Rattle.std.proofs.Common.{◌≡◌, ◌≢◌, ◌⊎◌, ℕ, ◌+◌, ◌-◌, ◌*◌, ◌/◌, ◌%◌, ◌^◌, ◌<◌, ◌≤◌, Bool, true, false, List, [], ◌∷◌, ◌++◌, length, take, drop, ap, sym, ◌∙◌, subst, inl, inr, arith}
use Rattle.std.proofs.Math.Seq.{take-append_seam}
use Rattle.channel_rep.proofs.Built.{built_more, root2_to}
use Rattle.channel_rep.proofs.OnePower.{brought}
use Rattle.channel_rep.proofs.Squares.{place-lt, row_below, column_below, place_is}
use Rattle.ring_laws.specs.Matrix.{identity, product, Agree}
use Rattle.tc_ring.specs.Surds.{surds, SurdWithin, IsOdd, surd_times}
use Rattle.tc_ring.specs.declared.root2.Root2.{Root2}
use Rattle.channel_rep.specs.Gates.{GateFits}
use Rattle.channel_rep.specs.Tables.{SurdTable, Step, by_gate, by_rotation, by_inverse_rotation, IsStep, step_table, step_exponent, gate_table, rotation_table, SameTable, IsBuiltOf}
use Rattle.channel_rep.specs.Rows.{rotated, moved}
use Rattle.channel_rep.specs.Cells.{HasOneUnit, IsSignedPermutation, ChannelGrid, IsChannelGrid, most_exponent, HasOddCell, IsReduced, EntriesWithin, cell_of, entries, table_of, scaled}
use Rattle.channel_rep.specs.Norms.{HasNorm, HasOrthogonalColumns}
use Rattle.channel_rep.specs.declared.gate.ChannelGate.{ChannelGate}
use Rattle.channel_rep.proofs.Rules.{gate_rule, rotation_rule}
use Rattle.channel_rep.proofs.Norms.{agree_orthogonal, identity_orthogonal, product_orthogonal, same_orthogonal, step_columns, norm_of_orthogonal, norm_within}

-- what a channel with these fields shows
abbrev pub grid : ℕ → ℕ → List Root2 → ChannelGrid
grid n k cells = record { qubits = n; exponent = k; cells = cells }

-- the identity is a channel
pub grid_identity : (n : ℕ) (cells : List Root2) → 0 < n → n ≤ 3 → length cells ≡ 4 ^ n * 4 ^ n → Agree surds (4 ^ n) (entries (4 ^ n) cells) (identity surds) → IsChannelGrid (grid n 0 cells)
grid_identity n cells some few whole agree = record {
  some = some;
  few = few;
  whole = whole;
  low = omega arith;
  orthogonal = agree_orthogonal (4 ^ n) 0 (identity surds) (entries (4 ^ n) cells) agree (identity_orthogonal (4 ^ n));
}

-- a channel has the norm
pub grid_norm : (m : ChannelGrid) → IsChannelGrid m → HasNorm (4 ^ m.qubits) m.exponent (table_of m)
grid_norm m valid = norm_of_orthogonal (4 ^ m.qubits) m.exponent (table_of m) valid.orthogonal

-- so its cells are within 2^60, and each power of 2 above, also where they were lent
pub grid_within : (n k j : ℕ) (cells lent : List Root2) → most_exponent ≤ j + j → lent ≡ cells → IsChannelGrid (grid n k cells) → EntriesWithin (2 ^ j) (4 ^ n) lent
grid_within n k j cells lent most e valid r c l m =
    let low = valid.low in
    subst (λ xs. SurdWithin (2 ^ j) (entries (4 ^ n) xs r c)) (sym e) (norm_within (4 ^ n) k j (entries (4 ^ n) cells) (grid_norm (grid n k cells) valid) (omega arith) r c l m)

-- cells that were lent as a slice, and written
pub given_back : {A : Type 0} (len size : ℕ) (old lent new : List A) → lent ≡ old → length lent ≡ len → length old ≡ size → length new ≡ size → take len (new ++ drop (length new) old) ≡ new
given_back len size old lent new same long before after =
    let e : len ≡ length new = sym long ∙ ap length same ∙ before ∙ sym after in
    ap (λ k. take k (new ++ drop (length new) old)) e ∙ take-append_seam new (drop (length new) old)

-- a channel after a gate
pub record GateDone (n k : ℕ) (g : ChannelGate) (old new : List Root2) : Type 0 where
  pub valid : IsChannelGrid (grid n k new)
  pub table : Agree surds (4 ^ n) (entries (4 ^ n) new) (product surds (4 ^ n) (gate_table n g) (entries (4 ^ n) old))
  pub built : (steps : List Step) → IsBuiltOf n steps (scaled (grid n k old)) → IsBuiltOf n (steps ++ by_gate g ∷ []) (scaled (grid n k new))

-- a table that is a step's table times another one
stepped_orthogonal : (n k j : ℕ) → 0 < n → n ≤ 3 → (s : Step) → IsStep n s → (old new : SurdTable) → j ≡ step_exponent s + k → HasOrthogonalColumns (4 ^ n) k old
    → Agree surds (4 ^ n) new (product surds (4 ^ n) (step_table n s) old) → HasOrthogonalColumns (4 ^ n) j new
stepped_orthogonal n k j some few s fits old new e h table =
    subst (λ i. HasOrthogonalColumns (4 ^ n) i new) (sym e)
    (agree_orthogonal (4 ^ n) (step_exponent s + k) (product surds (4 ^ n) (step_table n s) old) new table (product_orthogonal (4 ^ n) (step_exponent s) k (step_table n s) old (step_columns n some few s fits) h))

-- from the row rule of a gate, over cells that were lent
pub gate_done : (n k len : ℕ) (old lent new : List Root2) (g : ChannelGate) → GateFits n g → IsChannelGrid (grid n k old) → lent ≡ old → length lent ≡ len → length new ≡ 4 ^ n * 4 ^ n
    → ((r c : ℕ) → r < 4 ^ n → c < 4 ^ n → entries (4 ^ n) new r c ≡ moved n g (entries (4 ^ n) lent) r c) → GateDone n k g old (take len (new ++ drop (length new) old))
gate_done n k len old lent new g fits valid e long whole rows =
    subst (GateDone n k g old) (sym (given_back len _ old lent new e long valid.whole whole)) (record {
      valid = record {
        some = valid.some;
        few = valid.few;
        whole = whole;
        low = valid.low;
        orthogonal = stepped_orthogonal n k k valid.some valid.few (by_gate g) fits (entries (4 ^ n) old) (entries (4 ^ n) new) (omega arith) valid.orthogonal table;
      };
      table = table;
      built = λ steps. built_more n steps (by_gate g) (scaled (grid n k old)) (scaled (grid n k new)) (omega arith) table;
    })
  where
    table : Agree surds (4 ^ n) (entries (4 ^ n) new) (product surds (4 ^ n) (gate_table n g) (entries (4 ^ n) old))
    table r c l m = rows r c l m ∙ ap (λ xs. moved n g (entries (4 ^ n) xs) r c) e ∙ sym (gate_rule n valid.some valid.few g fits (entries (4 ^ n) old) r c l)

-- a channel after a rotation
pub record RotationDone (n k : ℕ) (inverse : Bool) (p : ℕ) (old new : List Root2) : Type 0 where
  pub valid : IsChannelGrid (grid n (k + 1) new)
  pub table : Agree surds (4 ^ n) (entries (4 ^ n) new) (product surds (4 ^ n) (rotation_table n inverse p) (entries (4 ^ n) old))

-- from the row rule of a rotation, over cells that were lent
pub rotation_done : (n k len : ℕ) (old lent new : List Root2) (inverse : Bool) (p : ℕ) → p < 4 ^ n → p ≢ 0 → k < most_exponent → IsChannelGrid (grid n k old) → lent ≡ old → length lent ≡ len
    → length new ≡ 4 ^ n * 4 ^ n → ((r c : ℕ) → r < 4 ^ n → c < 4 ^ n → entries (4 ^ n) new r c ≡ rotated n inverse p (entries (4 ^ n) lent) r c)
    → RotationDone n k inverse p old (take len (new ++ drop (length new) old))
rotation_done n k len old lent new inverse p lp d room valid e long whole rows =
    subst (RotationDone n k inverse p old) (sym (given_back len _ old lent new e long valid.whole whole)) (record {
      valid = record {
        some = valid.some;
        few = valid.few;
        whole = whole;
        low = omega arith;
        orthogonal = orthogonal inverse table;
      };
      table = table;
    })
  where
    table : Agree surds (4 ^ n) (entries (4 ^ n) new) (product surds (4 ^ n) (rotation_table n inverse p) (entries (4 ^ n) old))
    table r c l m = rows r c l m ∙ ap (λ xs. rotated n inverse p (entries (4 ^ n) xs) r c) e ∙ sym (rotation_rule n inverse p lp d (entries (4 ^ n) old) r c l)

    orthogonal : (inverse : Bool) → Agree surds (4 ^ n) (entries (4 ^ n) new) (product surds (4 ^ n) (rotation_table n inverse p) (entries (4 ^ n) old)) → HasOrthogonalColumns (4 ^ n) (k + 1) (entries (4 ^ n) new)
    orthogonal false = stepped_orthogonal n k (k + 1) valid.some valid.few (by_rotation p) (lp, d) (entries (4 ^ n) old) (entries (4 ^ n) new) (omega arith) valid.orthogonal
    orthogonal true = stepped_orthogonal n k (k + 1) valid.some valid.few (by_inverse_rotation p) (lp, d) (entries (4 ^ n) old) (entries (4 ^ n) new) (omega arith) valid.orthogonal

-- the same where the rotation's qubits are given by an equation
pub rotation_done_at : (n q k len : ℕ) (old lent new : List Root2) (inverse : Bool) (p : ℕ) → q ≡ n → p < 4 ^ q → p ≢ 0 → k < most_exponent → IsChannelGrid (grid n k old) → lent ≡ old → length lent ≡ len
    → length new ≡ 4 ^ q * 4 ^ q → ((r c : ℕ) → r < 4 ^ q → c < 4 ^ q → entries (4 ^ q) new r c ≡ rotated q inverse p (entries (4 ^ q) lent) r c)
    → RotationDone n k inverse p old (take len (new ++ drop (length new) old))
rotation_done_at n q k len old lent new inverse p same lp d room valid e long whole rows =
    rotation_done n k len old lent new inverse p (subst (λ m. p < 4 ^ m) same lp) d room valid e long (subst (λ m. length new ≡ 4 ^ m * 4 ^ m) same whole)
    (subst (λ m. (r c : ℕ) → r < 4 ^ m → c < 4 ^ m → entries (4 ^ m) new r c ≡ rotated m inverse p (entries (4 ^ m) lent) r c) same rows)

-- a channel after its cells were divided by √2
pub record ReduceDone (n k j : ℕ) (old new : List Root2) : Type 0 where
  pub valid : IsChannelGrid (grid n j new)
  pub value : SameTable n (scaled (grid n j new)) (scaled (grid n k old))
  pub least : IsReduced (grid n j new)

-- from cells that were divided, over cells that were lent
pub reduce_done : (n k j len : ℕ) (old lent new : List Root2) → IsChannelGrid (grid n k old) → lent ≡ old → length lent ≡ len → length new ≡ length lent → j ≤ k
    → ((i : ℕ) → i < length lent → surd_times (root2_to (k - j)) (cell_of new i) ≡ cell_of lent i) → (j ≡ 0) ⊎ ((i : ℕ) × (i < length new) × IsOdd (cell_of new i).a)
    → ReduceDone n k j old (take len (new ++ drop (length new) old))
reduce_done n k j len old lent new valid e long kept less cells least =
    let low = valid.low in
    subst (ReduceDone n k j old) (sym (given_back len _ old lent new e long valid.whole whole)) (record {
      valid = record {
        some = valid.some;
        few = valid.few;
        whole = whole;
        low = omega arith;
        orthogonal = same_orthogonal n (scaled (grid n j new)) (scaled (grid n k old)) value valid.orthogonal;
      };
      value = value;
      least = elim least [ inl none ↦ inl none | inr odd ↦ inr (odd_cell odd.0 odd.1 odd.2) ];
    })
  where
    whole : length new ≡ 4 ^ n * 4 ^ n
    whole = kept ∙ ap length e ∙ valid.whole

    once : (r c : ℕ) → r < 4 ^ n → c < 4 ^ n → surd_times (root2_to (k - j)) (entries (4 ^ n) new r c) ≡ entries (4 ^ n) old r c
    once r c l m = cells (r * 4 ^ n + c) (omega (arith, place-lt (4 ^ n) r c l m, kept, whole)) ∙ ap (λ xs. cell_of xs (r * 4 ^ n + c)) e

    value : SameTable n (scaled (grid n j new)) (scaled (grid n k old))
    value r c l m = brought j k (entries (4 ^ n) new r c) (entries (4 ^ n) old r c) less (once r c l m)

    odd_cell : (i : ℕ) → i < length new → IsOdd (cell_of new i).a → HasOddCell (grid n j new)
    odd_cell i l odd = record {
      row = i / 4 ^ n;
      column = i % 4 ^ n;
      row_below = row_below n i (omega (arith, whole));
      column_below = column_below n i;
      odd = subst (λ p. IsOdd (cell_of new p).a) (sym (place_is n i)) odd;
    }

-- ---- signed permutations
abbrev pub LinesHaveOneUnit : ℕ → List Root2 → Type 0
LinesHaveOneUnit size cells =
    ((row : ℕ) → row < size → HasOneUnit size (λ column. entries size cells row column)) × ((column : ℕ) → column < size → HasOneUnit size (λ row. entries size cells row column))

-- from a size and cells that are given by equations
pub lines_at : (n size : ℕ) (cells lent : List Root2) → size ≡ 4 ^ n → lent ≡ cells → LinesHaveOneUnit size lent → LinesHaveOneUnit (4 ^ n) cells
lines_at n size cells lent e d h = subst (LinesHaveOneUnit (4 ^ n)) d (subst (λ size. LinesHaveOneUnit size lent) e h)

-- and back
pub lines_of : (n size : ℕ) (cells lent : List Root2) → size ≡ 4 ^ n → lent ≡ cells → LinesHaveOneUnit (4 ^ n) cells → LinesHaveOneUnit size lent
lines_of n size cells lent e d h = subst (λ size. LinesHaveOneUnit size lent) (sym e) (subst (LinesHaveOneUnit (4 ^ n)) (sym d) h)

-- one column of a signed permutation
pub column_at : (n k size column : ℕ) (cells lent : List Root2) (g : ChannelGrid) → grid n k cells ≡ g → size ≡ 4 ^ n → lent ≡ cells → column < size → IsSignedPermutation g
    → HasOneUnit size (λ row. entries size lent row column)
column_at n k size column cells lent g is e d l h =
    let own = subst IsSignedPermutation (sym is) h in (lines_of n size cells lent e d (own.rows, own.columns)).1 column l
