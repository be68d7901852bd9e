-- Lemmas for the crates above: a reduced table has the least exponent of all tables that are the same, and is the only one
-- with it.
use Rattle.std.proofs.Common.{◌≡◌, ℕ, suc, ◌+◌, ◌-◌, ◌^◌, ◌<◌, ◌≤◌, ap, sym, ◌∙◌, inl, inr, arith}
use Rattle.std.proofs.lemmas.Bool.{cases_lt}
use Rattle.ring_laws.specs.Ring.{power}
use Rattle.tc_ring.specs.Surds.{Surd, surd_times, root2_surd, IsOdd}
use Rattle.tc_ring.proofs.Surds.{surd_times_assoc, odd_is_no_multiple, cancel_root2_power}
use Rattle.channel_rep.specs.Cells.{ChannelGrid, IsReduced, table_of, scaled}
use Rattle.channel_rep.specs.Tables.{ScaledTable, SameTable}
use Rattle.channel_rep.proofs.Built.{root2_to, root2_to-add}

-- √2 to a power above 0 is a multiple of √2
multiple : (d : ℕ) (x y : Surd) → surd_times (root2_to (suc d)) x ≡ y → surd_times root2_surd (surd_times (root2_to d) x) ≡ y
unfolding power
multiple d x y e = sym (surd_times_assoc root2_surd (root2_to d) x) ∙ e

-- brought to the lower of two exponents
lowered : (j k : ℕ) (x y : Surd) → j < k → surd_times (root2_to k) x ≡ surd_times (root2_to j) y → surd_times (root2_to (suc (k - suc j))) x ≡ y
lowered j k x y l h =
    let e : j + suc (k - suc j) ≡ k = omega arith in
    cancel_root2_power j _ _ (sym (root2_to-add j (suc (k - suc j)) x) ∙ ap (λ i. surd_times (root2_to i) x) e ∙ h)

-- a number with an odd whole part is written with the least exponent
pub odd_has_least : (j k : ℕ) (x y : Surd) → IsOdd y.a → surd_times (root2_to k) x ≡ surd_times (root2_to j) y → k ≤ j
odd_has_least j k x y odd h = elim (cases_lt j k) [
  | inl l ↦ absurd (odd_is_no_multiple _ y odd (multiple (k - suc j) x y (lowered j k x y l h)))
  | inr l ↦ l
]

-- no table that is the same has a smaller exponent
pub least_of_reduced : (g : ChannelGrid) → IsReduced g → (m : ScaledTable) → SameTable g.qubits m (scaled g) → g.exponent ≤ m.exponent
least_of_reduced g reduced m same = elim reduced [
  | inl none ↦ omega arith
  | inr odd ↦ odd_has_least m.exponent g.exponent _ _ odd.odd (same odd.row odd.column odd.row_below odd.column_below)
]

-- reduced tables that are the same have one exponent and the same cells
pub record SameCells (n : ℕ) (a b : ChannelGrid) : Type 0 where
  pub exponent : a.exponent ≡ b.exponent
  pub cells : (row column : ℕ) → row < 4 ^ n → column < 4 ^ n → table_of a row column ≡ table_of b row column

-- where two reduced tables are the same
pub reduced_same : (n : ℕ) (a b : ChannelGrid) → a.qubits ≡ n → b.qubits ≡ n → IsReduced a → IsReduced b → SameTable n (scaled a) (scaled b) → SameCells n a b
reduced_same n a b ea eb ra rb same =
    let below = least_of_reduced b rb (scaled a) (λ r c l m. same r c (at eb r l) (at eb c m)) in
    let above = least_of_reduced a ra (scaled b) (λ r c l m. sym (same r c (at ea r l) (at ea c m))) in
    let one : a.exponent ≡ b.exponent = omega arith in
    record {
      exponent = one;
      cells = λ r c l m. cancel_root2_power b.exponent _ _ (same r c l m ∙ ap (λ k. surd_times (root2_to k) (table_of b r c)) one);
    }
  where
    at : {m : ℕ} → m ≡ n → (r : ℕ) → r < 4 ^ m → r < 4 ^ n
    at e r l = omega (arith, ap (λ k. 4 ^ k) e)
