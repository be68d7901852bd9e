-- Lemmas for the crates above: folds of columns as sums over the rows.
use Rattle.std.proofs.Common.{◌≡◌, ℕ, ◌^◌, ◌<◌, Bool, true, false, refl, ap, sym, ◌∙◌}
use Rattle.std.specs.Prelude.{pos, ◌*ℤ◌, if◌then◌else◌}
use Rattle.ring_laws.specs.Matrix.{sum, product, identity}
use Rattle.ring_laws.proofs.Ring.{mul_left_comm}
use Rattle.ring_laws.proofs.Sums.{sum_cong, mul-sum, sum-add, product_assoc, product-identity}
use Rattle.tc_ring.specs.Surds.{Surd, surds, surd_plus, surd_times, root2_surd}
use Rattle.tc_ring.proofs.Surds.{surds_laws, surd_times_assoc, root2_surd-times, surd_times-plus}
use Rattle.pauli_basis.specs.Products.{product_code, commute, anti_sign}
use Rattle.pauli_basis.proofs.Products.{product_code-lt}
use Rattle.channel_rep.specs.Tables.{SurdTable, signed, turned_over, rotation_table}
use Rattle.channel_rep.proofs.Independent.{signed_column}
use Rattle.label_laws.specs.Folds.{weighed, rotated_weights, root2_weights}

-- ---- a rotation
-- a row times the table of a rotation, by the rule of columns
pub weights_rotated : (n : ℕ) (inverse : Bool) (p : ℕ) → p < 4 ^ n → (w : SurdTable) (row k : ℕ) → k < 4 ^ n → product surds (4 ^ n) w (rotation_table n inverse p) row k ≡ rotated_weights n inverse p w row k
unfolding product rotation_table
weights_rotated n inverse p lp w row k l = by (commute n p k) (turned_over inverse (anti_sign n p k))
  where
    plain : (s : ℕ) → s < 4 ^ n → sum surds (4 ^ n) (λ r. surd_times (w row r) (identity surds r s)) ≡ w row s
    plain s h = product-identity surds_laws (4 ^ n) w row s h

    by : (b s : Bool)
        → sum surds (4 ^ n) (λ r. surd_times (w row r) (if b then surd_times root2_surd (identity surds r k) else surd_plus (identity surds r k) (signed s (identity surds r (product_code p k)))))
        ≡ (if b then surd_times root2_surd (w row k) else surd_plus (w row k) (signed s (w row (product_code p k))))
    by true s =
        sum_cong surds_laws (4 ^ n) _ _ (λ r h. mul_left_comm surds_laws (w row r) root2_surd (identity surds r k))
        ∙ sym (mul-sum surds_laws (4 ^ n) root2_surd (λ r. surd_times (w row r) (identity surds r k))) ∙ ap (surd_times root2_surd) (plain k l)
    by false s =
        sum_cong surds_laws (4 ^ n) _ _ (λ r h. surd_times-plus (w row r) (identity surds r k) (signed s (identity surds r (product_code p k))))
        ∙ sum-add surds_laws (4 ^ n) (λ r. surd_times (w row r) (identity surds r k)) (λ r. surd_times (w row r) (signed s (identity surds r (product_code p k))))
        ∙ (λ i. surd_plus (plain k l i) (signed_column (4 ^ n) s w row (product_code p k) (product_code-lt n p k lp l) i))

-- so a rotation changes the weights alone, in the whole sum
pub whole_rotation : (n : ℕ) (inverse : Bool) (p : ℕ) → p < 4 ^ n → (w m : SurdTable) (column : ℕ)
    → product surds (4 ^ n) w (product surds (4 ^ n) (rotation_table n inverse p) m) 0 column ≡ product surds (4 ^ n) (rotated_weights n inverse p w) m 0 column
unfolding product
whole_rotation n inverse p lp w m column =
    sym (product_assoc surds_laws (4 ^ n) (4 ^ n) w (rotation_table n inverse p) m 0 column)
    ∙ sum_cong surds_laws (4 ^ n) _ _ (λ k l. ap (λ x. surd_times x (m k column)) (weights_rotated n inverse p lp w 0 k l))

-- and in the fold
pub weighed_rotation : (n : ℕ) (inverse : Bool) (p : ℕ) → p < 4 ^ n → (w m : SurdTable) (column : ℕ)
    → weighed (4 ^ n) w (product surds (4 ^ n) (rotation_table n inverse p) m) column ≡ weighed (4 ^ n) (rotated_weights n inverse p w) m column
weighed_rotation n inverse p lp w m column = ap (λ (x : Surd). x.b) (whole_rotation n inverse p lp w m column)

-- ---- division
-- weights times √2 come to √2 times the sum
pub root2_out : (size : ℕ) (w m : SurdTable) (column : ℕ) → product surds size (root2_weights w) m 0 column ≡ surd_times root2_surd (product surds size w m 0 column)
unfolding product
root2_out size w m column =
    sum_cong surds_laws size _ _ (λ k l. surd_times_assoc root2_surd (w 0 k) (m k column)) ∙ sym (mul-sum surds_laws size root2_surd (λ k. surd_times (w 0 k) (m k column)))

-- and cells that are √2 times others do
root2_cells : (size : ℕ) (w m half : SurdTable) (column : ℕ) → ((row : ℕ) → row < size → surd_times root2_surd (half row column) ≡ m row column)
    → product surds size w m 0 column ≡ surd_times root2_surd (product surds size w half 0 column)
unfolding product
root2_cells size w m half column h =
    sum_cong surds_laws size _ _ (λ k l. ap (surd_times (w 0 k)) (sym (h k l)) ∙ mul_left_comm surds_laws (w 0 k) root2_surd (half k column))
    ∙ sym (mul-sum surds_laws size root2_surd (λ k. surd_times (w 0 k) (half k column)))

-- √2 twice
root2_twice : (x : Surd) → (surd_times root2_surd (surd_times root2_surd x)).b ≡ pos 2 *ℤ x.b
root2_twice x = ap (λ (s : Surd). s.b) (root2_surd-times (surd_times root2_surd x)) ∙ ap (λ (s : Surd). s.a) (root2_surd-times x)

-- divided once: by weights times √2 the fold is twice that of the half
pub weighed_once : (size : ℕ) (w m half : SurdTable) (column : ℕ) → ((row : ℕ) → row < size → surd_times root2_surd (half row column) ≡ m row column)
    → weighed size (root2_weights w) m column ≡ pos 2 *ℤ weighed size w half column
weighed_once size w m half column h =
    ap (λ (s : Surd). s.b) (root2_out size w m column ∙ ap (surd_times root2_surd) (root2_cells size w m half column h)) ∙ root2_twice (product surds size w half 0 column)

-- divided twice
pub weighed_twice : (size : ℕ) (w m half : SurdTable) (column : ℕ) → ((row : ℕ) → row < size → surd_times root2_surd (surd_times root2_surd (half row column)) ≡ m row column)
    → weighed size w m column ≡ pos 2 *ℤ weighed size w half column
weighed_twice size w m half column h =
    ap (λ (s : Surd). s.b)
    (root2_cells size w m (λ r c. surd_times root2_surd (half r c)) column h ∙ ap (surd_times root2_surd) (root2_cells size w (λ r c. surd_times root2_surd (half r c)) half column (λ r l. refl)))
    ∙ root2_twice (product surds size w half 0 column)
