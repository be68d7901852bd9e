-- Lemmas for the crates above: tables up to one power of √2, and tables that are built of steps.
use Rattle.std.proofs.Common.{◌≡◌, ℕ, ◌+◌, ◌^◌, ◌<◌, List, [], ◌∷◌, ◌++◌, refl, ap, sym, ◌∙◌}
use Rattle.ring_laws.specs.Ring.{power}
use Rattle.ring_laws.specs.Matrix.{product, identity, Agree}
use Rattle.ring_laws.proofs.Ring.{power-add, mul_left_comm}
use Rattle.ring_laws.proofs.Sums.{sum_cong, mul-sum}
use Rattle.tc_ring.specs.Surds.{Surd, surds, surd_times, root2_surd}
use Rattle.tc_ring.proofs.Surds.{surds_laws, surd_times_assoc, cancel_root2_power}
use Rattle.channel_rep.specs.Tables.{SurdTable, ScaledTable, Step, step_table, step_exponent, stepped, built_on, built, SameTable, IsBuiltOf}

-- √2 to a power
abbrev pub root2_to : ℕ → Surd
root2_to k = power surds root2_surd k

-- exponents add up
pub root2_to-add : (j k : ℕ) (x : Surd) → surd_times (root2_to (j + k)) x ≡ surd_times (root2_to j) (surd_times (root2_to k) x)
root2_to-add j k x = ap (λ y. surd_times y x) (power-add surds_laws root2_surd j k) ∙ surd_times_assoc (root2_to j) (root2_to k) x

-- two factors change places
times_swap : (x y z : Surd) → surd_times x (surd_times y z) ≡ surd_times y (surd_times x z)
times_swap = mul_left_comm surds_laws

-- ---- sameness up to one power
pub same_table_refl : (n : ℕ) (a : ScaledTable) → SameTable n a a
same_table_refl n a r c l m = refl

-- both ways round
pub same_table_sym : (n : ℕ) (a b : ScaledTable) → SameTable n a b → SameTable n b a
same_table_sym n a b h r c l m = sym (h r c l m)

-- through a third table: its power cancels
pub same_table_trans : (n : ℕ) (a b c : ScaledTable) → SameTable n a b → SameTable n b c → SameTable n a c
same_table_trans n a b d h g r c l m =
    cancel_root2_power b.exponent _ _
    (times_swap (root2_to b.exponent) (root2_to d.exponent) (a.table r c) ∙ ap (surd_times (root2_to d.exponent)) (h r c l m)
    ∙ times_swap (root2_to d.exponent) (root2_to a.exponent) (b.table r c) ∙ ap (surd_times (root2_to a.exponent)) (g r c l m)
    ∙ times_swap (root2_to a.exponent) (root2_to b.exponent) (d.table r c))

-- ---- one step more
-- a factor goes into the table that is stepped
factor_inside : (size : ℕ) (x : Surd) (t m : SurdTable) (r c : ℕ) → surd_times x (product surds size t m r c) ≡ product surds size t (λ k c. surd_times x (m k c)) r c
unfolding product
factor_inside size x t m r c = mul-sum surds_laws size x (λ k. surd_times (t r k) (m k c)) ∙ sum_cong surds_laws size _ _ (λ k l. times_swap x (t r k) (m k c))

-- the product of a table with equal ones
product_of_same : (size : ℕ) (t m m' : SurdTable) (r c : ℕ) → ((k : ℕ) → k < size → m k c ≡ m' k c) → product surds size t m r c ≡ product surds size t m' r c
unfolding product
product_of_same size t m m' r c h = sum_cong surds_laws size _ _ (λ k l. ap (surd_times (t r k)) (h k l))

-- a step keeps tables the same
pub same_step : (n : ℕ) (s : Step) (a b new : ScaledTable) → SameTable n a b → new.exponent ≡ step_exponent s + a.exponent
    → Agree surds (4 ^ n) new.table (product surds (4 ^ n) (step_table n s) a.table) → SameTable n new (stepped n s b)
same_step n s a b new h e agree r c l m =
    ap (surd_times (root2_to (step_exponent s + b.exponent))) (agree r c l m)
    ∙ root2_to-add (step_exponent s) b.exponent _
    ∙ ap (surd_times (root2_to (step_exponent s))) inner
    ∙ sym (root2_to-add (step_exponent s) a.exponent _)
    ∙ ap (λ k. surd_times (root2_to k) (product surds (4 ^ n) (step_table n s) b.table r c)) (sym e)
  where
    inner : surd_times (root2_to b.exponent) (product surds (4 ^ n) (step_table n s) a.table r c) ≡ surd_times (root2_to a.exponent) (product surds (4 ^ n) (step_table n s) b.table r c)
    inner =
        factor_inside (4 ^ n) (root2_to b.exponent) (step_table n s) a.table r c
        ∙ product_of_same (4 ^ n) (step_table n s) _ _ r c (λ k h'. h k c h' m)
        ∙ sym (factor_inside (4 ^ n) (root2_to a.exponent) (step_table n s) b.table r c)

-- a step at the end is the last one made
built_on-push : (n : ℕ) (m : ScaledTable) (steps : List Step) (s : Step) → built_on n m (steps ++ s ∷ []) ≡ stepped n s (built_on n m steps)
built_on-push n m [] s = refl
built_on-push n m (t ∷ steps) s = built_on-push n (stepped n t m) steps s

-- a list of steps, and one more
pub built_more : (n : ℕ) (steps : List Step) (s : Step) (old new : ScaledTable) → new.exponent ≡ step_exponent s + old.exponent
    → Agree surds (4 ^ n) new.table (product surds (4 ^ n) (step_table n s) old.table) → IsBuiltOf n steps old → IsBuiltOf n (steps ++ s ∷ []) new
built_more n steps s old new e agree h =
    let same = same_step n s old (built n steps) new h e agree in
    let pushed = built_on-push n (record { table = identity surds; exponent = 0 }) steps s in
    λ r c l m. ap (λ (t : ScaledTable). surd_times (root2_to t.exponent) (new.table r c)) pushed ∙ same r c l m ∙ ap (λ (t : ScaledTable). surd_times (root2_to new.exponent) (t.table r c)) (sym pushed)

-- the same table is built of the same steps
pub built_same : (n : ℕ) (steps : List Step) (old new : ScaledTable) → SameTable n new old → IsBuiltOf n steps old → IsBuiltOf n steps new
built_same n steps old new h g = same_table_trans n new old (built n steps) h g

-- the identity is built of no step
pub built_none : (n : ℕ) (m : ScaledTable) → m.exponent ≡ 0 → Agree surds (4 ^ n) m.table (identity surds) → IsBuiltOf n [] m
built_none n m e agree r c l h = (λ i. surd_times (root2_to (sym e i)) (agree r c l h i))
