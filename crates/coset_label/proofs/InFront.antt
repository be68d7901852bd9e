-- Lemmas for the crates above: what stands in front keeps cosets.
use Rattle.std.proofs.Common.{◌≡◌, ℕ, Bool, ◌^◌, List, [], ◌∷◌, ap, sym, ◌∙◌}
use Rattle.ring_laws.specs.Matrix.{product}
use Rattle.tc_ring.specs.Surds.{Surd, surd_times, one_surd}
use Rattle.tc_ring.proofs.Surds.{surd_times_assoc}
use Rattle.channel_rep.specs.Tables.{ScaledTable, Step, stepped, built_on, SameTable, signed}
use Rattle.channel_rep.specs.Products.{table_product, table_of_step}
use Rattle.channel_rep.proofs.Built.{root2_to, root2_to-add}
use Rattle.channel_rep.proofs.Products.{sums_agree}
use Rattle.channel_rep.proofs.Signs.{signed_is, times-signed}
use Rattle.coset_label.specs.Cosets.{IsColumnUpToSign, SameCoset}
use Rattle.coset_label.proofs.OneCoset.{same_coset_trans, same_coset_of_same}

-- a sign and a power of √2 as one factor
one_factor : (b : Bool) (x y : Surd) → signed b (surd_times x y) ≡ surd_times (surd_times (signed b one_surd) x) y
one_factor b x y = signed_is b (surd_times x y) ∙ sym (surd_times_assoc (signed b one_surd) x y)

module _ (n : ℕ) where
  -- a column of a·b is, up to sign, that of a·b' where the columns of b and b' are
  product_column : (a b b' : ScaledTable) (c d : ℕ) → IsColumnUpToSign n b c b' d → IsColumnUpToSign n (table_product n a b) c (table_product n a b') d
  unfolding product
  product_column a b b' c d is = record {
    negative = is.negative;
    cells = λ row l.
        root2_to-add a.exponent b'.exponent _
        ∙ ap (surd_times (root2_to a.exponent))
        (sums_agree (4 ^ n) (λ k. a.table row k) (λ k. b.table k c) (λ k. b'.table k d) (root2_to b'.exponent) (surd_times (signed is.negative one_surd) (root2_to b.exponent))
        (λ k lk. is.cells k lk ∙ one_factor is.negative (root2_to b.exponent) (b'.table k d))
        ∙ sym (one_factor is.negative (root2_to b.exponent) _))
        ∙ times-signed is.negative (root2_to a.exponent) _
        ∙ ap (signed is.negative) (sym (root2_to-add a.exponent b.exponent _));
  }

  -- products from the left keep cosets
  pub product_coset : (a b b' : ScaledTable) → SameCoset n b b' → SameCoset n (table_product n a b) (table_product n a b')
  product_coset a b b' same = record {
    there = λ c l. let at = same.there c l in (at.0, at.1, product_column a b b' c at.0 at.2);
    back = λ c l. let at = same.back c l in (at.0, at.1, product_column a b' b c at.0 at.2);
  }

  -- so does a step
  pub step_coset : (s : Step) (m m' : ScaledTable) → SameCoset n m m' → SameCoset n (stepped n s m) (stepped n s m')
  step_coset s m m' same = product_coset (table_of_step n s) m m' same

  -- and a list of steps
  pub built_on_coset : (steps : List Step) (m m' : ScaledTable) → SameCoset n m m' → SameCoset n (built_on n m steps) (built_on n m' steps)
  built_on_coset [] m m' same = same
  built_on_coset (s ∷ steps) m m' same = built_on_coset steps (stepped n s m) (stepped n s m') (step_coset s m m' same)

  -- a table that is the same has the same cosets
  pub coset_before : (a b d : ScaledTable) → SameTable n a b → SameCoset n b d → SameCoset n a d
  coset_before a b d h g = same_coset_trans n a b d (same_coset_of_same n a b h) g

  pub coset_after : (a b d : ScaledTable) → SameCoset n a b → SameTable n b d → SameCoset n a d
  coset_after a b d h g = same_coset_trans n a b d h (same_coset_of_same n b d g)
