-- Lemmas for the crates above: a rotation and its inverse undo each other.
use Rattle.std.proofs.Common.{◌≡◌, ◌≢◌, ℕ, ◌^◌, ◌<◌, Bool, true, false, not, refl, ap, sym, ◌∙◌, inl, inr, arith}
use Rattle.std.proofs.lemmas.Bool.{cases_Bool}
use Rattle.std.proofs.lemmas.Int.{ints}
use Rattle.ring_laws.specs.Matrix.{product, identity}
use Rattle.ring_laws.proofs.Ring.{power-zero, power-one, one-mul}
use Rattle.ring_laws.proofs.Sums.{product-identity}
use Rattle.tc_ring.specs.Surds.{Surd, surds, surd_integer, surd_plus, surd_times, surd_negative, root2_surd}
use Rattle.tc_ring.proofs.Surds.{surds_laws, same_surd, root2_surd-times}
use Rattle.pauli_basis.specs.Products.{product_code, commute, anti_sign}
use Rattle.pauli_basis.proofs.Products.{product_code-lt, product_code-back, commute-back, anti_sign-back}
use Rattle.channel_rep.specs.Tables.{ScaledTable, rotation_table, signed, turned_over, SameTable}
use Rattle.channel_rep.specs.Products.{identity_table, table_product}
use Rattle.channel_rep.specs.Rows.{rotated}
use Rattle.channel_rep.proofs.Built.{root2_to-add, same_table_sym, same_table_trans}
use Rattle.channel_rep.proofs.Independent.{commuting_row, mixed_row}
use Rattle.channel_rep.proofs.Products.{tables_left, tables_assoc, identity-table}
use Rattle.channel_rep.proofs.Rules.{rotation_rule}

-- the table of a rotation, or of its inverse
abbrev pub turned : ℕ → Bool → ℕ → ScaledTable
turned n inverse p = record { table = rotation_table n inverse p; exponent = 1 }

-- ---- numbers
-- √2·√2 is 2
twice : (x : Surd) → surd_times root2_surd (surd_times root2_surd x) ≡ surd_plus x x
unfolding surd_plus
twice x = ap (surd_times root2_surd) (root2_surd-times x) ∙ root2_surd-times _ ∙ same_surd (omega (arith, ints)) (omega (arith, ints))

-- of two numbers that are subtracted and added, and then added and subtracted, twice the first is left
both_signs : (b : Bool) (x y : Surd) → surd_plus (surd_plus x (signed (not b) y)) (signed b (surd_plus y (signed b x))) ≡ surd_plus x x
unfolding signed surd_plus surd_negative surd_integer
both_signs true x y = same_surd (omega (arith, ints)) (omega (arith, ints))
both_signs false x y = same_surd (omega (arith, ints)) (omega (arith, ints))

-- the sign of the inverse at a row is the other one, and at the row's partner the same
sign_here : (inverse b : Bool) → turned_over (not inverse) b ≡ not (turned_over inverse b)
sign_here true true = refl
sign_here true false = refl
sign_here false b = refl

sign_there : (inverse b : Bool) → turned_over (not inverse) (not b) ≡ turned_over inverse b
sign_there true true = refl
sign_there true false = refl
sign_there false true = refl
sign_there false false = refl

-- ---- tables
module _ (n : ℕ) (inverse : Bool) (p : ℕ) (lp : p < 4 ^ n) (d : p ≢ 0) where
  -- the rows of the inverse's table
  inverse_row : (r c : ℕ) → r < 4 ^ n → c < 4 ^ n → rotation_table n (not inverse) p r c ≡ rotated n (not inverse) p (identity surds) r c
  inverse_row r c l m = sym (product-identity surds_laws (4 ^ n) (rotation_table n (not inverse) p) r c m) ∙ rotation_rule n (not inverse) p lp d (identity surds) r c l

  -- under the rotation they become twice those of the identity
  undone_row : (r c : ℕ) → r < 4 ^ n → c < 4 ^ n → rotated n inverse p (rotation_table n (not inverse) p) r c ≡ surd_plus (identity surds r c) (identity surds r c)
  undone_row r c l m = elim (cases_Bool (commute n p r)) [
    | inl e ↦
        commuting_row n inverse p _ r c e
        ∙ ap (surd_times root2_surd) (inverse_row r c l m ∙ commuting_row n (not inverse) p (identity surds) r c e) ∙ twice (identity surds r c)
    | inr e ↦
        mixed_row n inverse p _ r c e
        ∙ (λ i. surd_plus (here e i) (signed (turned_over inverse (not (anti_sign n p r))) (there e i)))
        ∙ both_signs (turned_over inverse (not (anti_sign n p r))) (identity surds r c) (identity surds (product_code p r) c)
  ]
    where
      sign : Bool
      sign = turned_over inverse (not (anti_sign n p r))

      partner : ℕ
      partner = product_code p r

      here : commute n p r ≡ false → rotation_table n (not inverse) p r c ≡ surd_plus (identity surds r c) (signed (not sign) (identity surds partner c))
      here e =
          inverse_row r c l m ∙ mixed_row n (not inverse) p (identity surds) r c e
          ∙ ap (λ b. surd_plus (identity surds r c) (signed b (identity surds partner c))) (sign_here inverse (not (anti_sign n p r)))

      there : commute n p r ≡ false → rotation_table n (not inverse) p partner c ≡ surd_plus (identity surds partner c) (signed sign (identity surds r c))
      there e =
          inverse_row partner c (product_code-lt n p r lp l) m
          ∙ mixed_row n (not inverse) p (identity surds) partner c (commute-back n p r ∙ e)
          ∙ (λ i. surd_plus (identity surds partner c) (signed (turned_over (not inverse) (not (anti_sign-back n p r e i))) (identity surds (product_code-back p r i) c)))
          ∙ ap (λ b. surd_plus (identity surds partner c) (signed b (identity surds r c))) (sign_there inverse (not (anti_sign n p r)))

  -- a rotation times its inverse is the identity, both ways round
  pub turned_back : SameTable n (table_product n (turned n inverse p) (turned n (not inverse) p)) identity_table
  turned_back r c l m =
      ap (λ x. surd_times x (product surds (4 ^ n) (rotation_table n inverse p) (rotation_table n (not inverse) p) r c)) (power-zero surds_laws root2_surd) ∙ one-mul surds_laws _
      ∙ rotation_rule n inverse p lp d (rotation_table n (not inverse) p) r c l ∙ undone_row r c l m ∙ sym (twice (identity surds r c))
      ∙ sym (root2_to-add 1 1 (identity surds r c) ∙ (λ i. surd_times (power-one surds_laws root2_surd i) (surd_times (power-one surds_laws root2_surd i) (identity surds r c))))

  -- so it is undone
  pub step_undone : (m : ScaledTable) → SameTable n (table_product n (turned n inverse p) (table_product n (turned n (not inverse) p) m)) m
  step_undone m =
      same_table_trans n _ (table_product n (table_product n (turned n inverse p) (turned n (not inverse) p)) m) _ (same_table_sym n _ _ (tables_assoc n _ _ m))
      (same_table_trans n _ (table_product n identity_table m) _ (tables_left n _ _ m turned_back) (identity-table n m))
