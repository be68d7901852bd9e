-- Lemmas for the crates above: square matrices over any commutative ring, by their laws: equations below a size, and what
-- products, sums, multiples and linear combinations keep.
use mathlib.Core.Path.{◌≡◌, refl, sym, ap, ◌∙◌}
use Prim.Native.Nat.{ℕ, ◌<◌}
use lib.IntN.{pos}
use Rattle.ring_laws.proofs.Ring as laws
use Rattle.ring_laws.specs.Ring.{RingOps, RingLaws}
use Rattle.ring_laws.specs.Matrix.{sum, product, identity, Agree}
use Rattle.ring_laws.proofs.Sums.{sum_cong, sum-zero, mul-sum, sum-mul, sum-add, sum_swap, sum_single, product_assoc, product-add, add-product, identity-product, product-identity}
use Rattle.tc_bridge.proofs.Identities.{identity_same, identity_apart}

-- an entry for each row and column
abbrev pub Entries : RingOps → Type 0
Entries O = ℕ → ℕ → O.Carrier

module _ (O : RingOps) where
  open O use {Carrier, add, mul, num}

  -- the matrix 0
  abbrev pub nothing : Entries O
  nothing row column = num (pos 0)

  -- a + b
  unfoldable pub matrix_add : Entries O → Entries O → Entries O
  matrix_add a b row column = add (a row column) (b row column)

  -- w·a
  unfoldable pub multiple : Carrier → Entries O → Entries O
  multiple w a row column = mul w (a row column)

  -- the sum of w p · a p over p below m
  unfoldable pub combination : ℕ → (ℕ → Carrier) → (ℕ → Entries O) → Entries O
  combination m w a row column = sum O m (λ p. mul (w p) (a p row column))

  -- the same entries below n. A record, so that antt finds the matrices of a chain from its links
  pub record Alike (n : ℕ) (a b : Entries O) : Type 0 where
    pub at : Agree O n a b

module _ {O : RingOps} {n : ℕ} where
  -- equal everywhere, and so below n
  pub alike : {a b : Entries O} → ((row column : ℕ) → a row column ≡ b row column) → Alike O n a b
  alike e = record { at = λ r c lr lc. e r c }

  -- each matrix is equal to itself
  pub alike-refl : (a : Entries O) → Alike O n a a
  alike-refl a = record { at = λ r c lr lc. refl }

  -- an equation the other way round
  pub alike-sym : {a b : Entries O} → Alike O n a b → Alike O n b a
  alike-sym h = record { at = λ r c lr lc. sym (h.at r c lr lc) }

  infixr 30 ◌⊙◌
  -- one equation after another
  pub ◌⊙◌ : {a b c : Entries O} → Alike O n a b → Alike O n b c → Alike O n a c
  ◌⊙◌ h g = record { at = λ r c lr lc. h.at r c lr lc ∙ g.at r c lr lc }

module _ {O : RingOps} (L : RingLaws O) {n : ℕ} where
  open O use {Carrier, add, mul, num}

  -- ---- equal parts make equal wholes
  pub product-left : (g : Entries O) {a b : Entries O} → Alike O n a b → Alike O n (product O n g a) (product O n g b)
  unfolding product
  product-left g h = record { at = λ r c lr lc. sum_cong L n _ _ (λ k l i. mul (g r k) (h.at k c l lc i)) }

  -- of the first factor
  pub product-right : {a b : Entries O} → Alike O n a b → (g : Entries O) → Alike O n (product O n a g) (product O n b g)
  unfolding product
  product-right h g = record { at = λ r c lr lc. sum_cong L n _ _ (λ k l i. mul (h.at r k lr l i) (g k c)) }

  -- of both terms
  pub add-cong : {a a' b b' : Entries O} → Alike O n a a' → Alike O n b b' → Alike O n (matrix_add O a b) (matrix_add O a' b')
  unfolding matrix_add
  add-cong h g = record { at = λ r c lr lc i. add (h.at r c lr lc i) (g.at r c lr lc i) }

  -- of the matrix
  pub multiple-cong : (w : Carrier) {a b : Entries O} → Alike O n a b → Alike O n (multiple O w a) (multiple O w b)
  unfolding multiple
  multiple-cong w h = record { at = λ r c lr lc i. mul w (h.at r c lr lc i) }

  -- one factor for another
  pub multiple-factor : {v w : Carrier} → v ≡ w → (a : Entries O) → Alike O n (multiple O v a) (multiple O w a)
  unfolding multiple
  multiple-factor e a = alike (λ r c i. mul (e i) (a r c))

  -- of each matrix of a combination
  pub combination-cong : (m : ℕ) (w : ℕ → Carrier) (a b : ℕ → Entries O) → ((p : ℕ) → p < m → Alike O n (a p) (b p)) → Alike O n (combination O m w a) (combination O m w b)
  unfolding combination
  combination-cong m w a b h = record { at = λ r c lr lc. sum_cong L m _ _ (λ p l i. mul (w p) ((h p l).at r c lr lc i)) }

  -- of each of its weights
  pub combination-weights : (m : ℕ) (v w : ℕ → Carrier) (a : ℕ → Entries O) → ((p : ℕ) → p < m → v p ≡ w p) → Alike O n (combination O m v a) (combination O m w a)
  unfolding combination
  combination-weights m v w a h = alike (λ r c. sum_cong L m _ _ (λ p l i. mul (h p l i) (a p r c)))

  -- ---- multiples
  pub multiple-one : (a : Entries O) → Alike O n (multiple O (num (pos 1)) a) a
  unfolding multiple
  multiple-one a = alike (λ r c. laws.one-mul L (a r c))

  pub multiple-zero : (a : Entries O) → Alike O n (multiple O (num (pos 0)) a) (nothing O)
  unfolding multiple
  multiple-zero a = alike (λ r c. laws.zero-mul L (a r c))

  -- v·(w·a) is (v·w)·a, in either order
  pub multiple-multiple : (v w : Carrier) (a : Entries O) → Alike O n (multiple O v (multiple O w a)) (multiple O (mul v w) a)
  unfolding multiple
  multiple-multiple v w a = alike (λ r c. sym (L.mul_assoc v w (a r c)))

  pub multiple_comm : (v w : Carrier) (a : Entries O) → Alike O n (multiple O v (multiple O w a)) (multiple O w (multiple O v a))
  unfolding multiple
  multiple_comm v w a = alike (λ r c. laws.mul_left_comm L v w (a r c))

  -- multiples of sums, and by sums
  pub multiple-add : (w : Carrier) (a b : Entries O) → Alike O n (multiple O w (matrix_add O a b)) (matrix_add O (multiple O w a) (multiple O w b))
  unfolding multiple matrix_add
  multiple-add w a b = alike (λ r c. L.mul-add w (a r c) (b r c))

  pub add-multiple : (v w : Carrier) (a : Entries O) → Alike O n (multiple O (add v w) a) (matrix_add O (multiple O v a) (multiple O w a))
  unfolding multiple matrix_add
  add-multiple v w a = alike (λ r c. laws.add-mul L v w (a r c))

  -- multiples of 0 and of combinations
  pub multiple-nothing : (w : Carrier) → Alike O n (multiple O w (nothing O)) (nothing O)
  unfolding multiple
  multiple-nothing w = alike (λ r c. laws.mul-zero L w)

  pub multiple-combination : (w : Carrier) (m : ℕ) (v : ℕ → Carrier) (a : ℕ → Entries O) → Alike O n (multiple O w (combination O m v a)) (combination O m v (λ p. multiple O w (a p)))
  unfolding multiple combination
  multiple-combination w m v a = alike (λ r c. mul-sum L m w (λ p. mul (v p) (a p r c)) ∙ sum_cong L m _ _ (λ p l. laws.mul_left_comm L w (v p) (a p r c)))

  -- ---- weights
  pub combination-multiple : (m : ℕ) (s : Carrier) (w : ℕ → Carrier) (a : ℕ → Entries O) → Alike O n (combination O m (λ p. mul s (w p)) a) (multiple O s (combination O m w a))
  unfolding multiple combination
  combination-multiple m s w a = alike (λ r c. sum_cong L m _ _ (λ p l. L.mul_assoc s (w p) (a p r c)) ∙ sym (mul-sum L m s (λ p. mul (w p) (a p r c))))

  pub combination-add : (m : ℕ) (v w : ℕ → Carrier) (a : ℕ → Entries O) → Alike O n (combination O m (λ p. add (v p) (w p)) a) (matrix_add O (combination O m v a) (combination O m w a))
  unfolding matrix_add combination
  combination-add m v w a = alike (λ r c. sum_cong L m _ _ (λ p l. laws.add-mul L (v p) (w p) (a p r c)) ∙ sum-add L m (λ p. mul (v p) (a p r c)) (λ p. mul (w p) (a p r c)))

  -- the combination whose weights are a column of the identity
  pub combination-identity : (m k : ℕ) (a : ℕ → Entries O) → k < m → Alike O n (combination O m (λ p. identity O p k) a) (a k)
  unfolding combination
  combination-identity m k a l = alike (λ r c. sum_single L m k (λ p. mul (identity O p k) (a p r c)) l (λ p lp d. ap (λ x. mul x (a p r c)) (identity_apart L p k d) ∙ laws.zero-mul L (a p r c))
      ∙ ap (λ x. mul x (a k r c)) (identity_same L k k refl) ∙ laws.one-mul L (a k r c))

  -- ---- sums
  pub add-nothing : (a : Entries O) → Alike O n (matrix_add O a (nothing O)) a
  unfolding matrix_add
  add-nothing a = alike (λ r c. L.add-zero (a r c))

  -- terms in another order
  pub add_left_comm : (a b c : Entries O) → Alike O n (matrix_add O a (matrix_add O b c)) (matrix_add O b (matrix_add O a c))
  unfolding matrix_add
  add_left_comm a b c = alike (λ r k. laws.add_left_comm L (a r k) (b r k) (c r k))

  -- ---- products
  pub assoc : (a b c : Entries O) → Alike O n (product O n (product O n a b) c) (product O n a (product O n b c))
  assoc a b c = alike (product_assoc L n n a b c)

  -- a number before a factor stands before the product
  pub multiple-product : (w : Carrier) (a b : Entries O) → Alike O n (product O n (multiple O w a) b) (multiple O w (product O n a b))
  unfolding multiple product
  multiple-product w a b = alike (λ r c. sum_cong L n _ _ (λ k l. L.mul_assoc w (a r k) (b k c)) ∙ sym (mul-sum L n w (λ k. mul (a r k) (b k c))))

  pub product-multiple : (w : Carrier) (a b : Entries O) → Alike O n (product O n a (multiple O w b)) (multiple O w (product O n a b))
  unfolding multiple product
  product-multiple w a b = alike (λ r c. sum_cong L n _ _ (λ k l. laws.mul_left_comm L (a r k) w (b k c)) ∙ sym (mul-sum L n w (λ k. mul (a r k) (b k c))))

  -- products of sums
  pub product-matrix_add : (a b c : Entries O) → Alike O n (product O n a (matrix_add O b c)) (matrix_add O (product O n a b) (product O n a c))
  unfolding matrix_add
  product-matrix_add a b c = alike (product-add L n a b c)

  pub matrix_add-product : (a b c : Entries O) → Alike O n (product O n (matrix_add O a b) c) (matrix_add O (product O n a c) (product O n b c))
  unfolding matrix_add
  matrix_add-product a b c = alike (add-product L n a b c)

  -- products with 0
  pub product-nothing : (a : Entries O) → Alike O n (product O n a (nothing O)) (nothing O)
  unfolding product
  product-nothing a = alike (λ r c. sum-zero L n _ (λ k l. laws.mul-zero L (a r k)))

  pub nothing-product : (a : Entries O) → Alike O n (product O n (nothing O) a) (nothing O)
  unfolding product
  nothing-product a = alike (λ r c. sum-zero L n _ (λ k l. laws.zero-mul L (a k c)))

  -- products of combinations
  pub product-combination : (v : Entries O) (m : ℕ) (w : ℕ → Carrier) (a : ℕ → Entries O) → Alike O n (product O n v (combination O m w a)) (combination O m w (λ p. product O n v (a p)))
  unfolding product combination
  product-combination v m w a = alike (λ r c.
      sum_cong L n _ _ (λ k l. mul-sum L m (v r k) (λ p. mul (w p) (a p k c)) ∙ sum_cong L m _ _ (λ p l'. laws.mul_left_comm L (v r k) (w p) (a p k c)))
      ∙ sum_swap L n m (λ k p. mul (w p) (mul (v r k) (a p k c)))
      ∙ sum_cong L m _ _ (λ p l. sym (mul-sum L n (w p) (λ k. mul (v r k) (a p k c)))))

  pub combination-product : (m : ℕ) (w : ℕ → Carrier) (a : ℕ → Entries O) (v : Entries O) → Alike O n (product O n (combination O m w a) v) (combination O m w (λ p. product O n (a p) v))
  unfolding product combination
  combination-product m w a v = alike (λ r c.
      sum_cong L n _ _ (λ k l. sum-mul L m (λ p. mul (w p) (a p r k)) (v k c) ∙ sum_cong L m _ _ (λ p l'. L.mul_assoc (w p) (a p r k) (v k c)))
      ∙ sum_swap L n m (λ k p. mul (w p) (mul (a p r k) (v k c)))
      ∙ sum_cong L m _ _ (λ p l. sym (mul-sum L n (w p) (λ k. mul (a p r k) (v k c)))))

  -- a combination of combinations
  pub combination-combination : (m k : ℕ) (w : ℕ → Carrier) (v : ℕ → ℕ → Carrier) (a : ℕ → Entries O)
      → Alike O n (combination O m w (λ p. combination O k (λ s. v s p) a)) (combination O k (λ s. sum O m (λ p. mul (v s p) (w p))) a)
  unfolding combination
  combination-combination m k w v a = alike (λ r c.
      sum_cong L m _ _ (λ p l. mul-sum L k (w p) (λ s. mul (v s p) (a s r c)) ∙ sum_cong L k _ _ (λ s l'. sym (L.mul_assoc (w p) (v s p) (a s r c)) ∙ ap (λ x. mul x (a s r c)) (L.mul_comm (w p) (v s p))))
      ∙ sum_swap L m k (λ p s. mul (mul (v s p) (w p)) (a s r c))
      ∙ sum_cong L k _ _ (λ s l. sym (sum-mul L m (λ p. mul (v s p) (w p)) (a s r c))))

  -- ---- the identity
  pub one-product : (a : Entries O) → Alike O n (product O n (identity O) a) a
  one-product a = record { at = λ r c lr lc. identity-product L n a r c lr }

  pub product-one : (a : Entries O) → Alike O n (product O n a (identity O)) a
  product-one a = record { at = λ r c lr lc. product-identity L n a r c lc }

  -- a multiple of the identity is a number
  pub scalar-product : (w : Carrier) (a : Entries O) → Alike O n (product O n (multiple O w (identity O)) a) (multiple O w a)
  scalar-product w a = multiple-product w (identity O) a ⊙ multiple-cong w (one-product a)

  pub product-scalar : (w : Carrier) (a : Entries O) → Alike O n (product O n a (multiple O w (identity O))) (multiple O w a)
  product-scalar w a = product-multiple w a (identity O) ⊙ multiple-cong w (product-one a)

  -- b·b' in the middle is a number
  pub scalar_between : (a b b' c : Entries O) (w : Carrier) → Alike O n (product O n b b') (multiple O w (identity O))
      → Alike O n (product O n (product O n a b) (product O n b' c)) (multiple O w (product O n a c))
  scalar_between a b b' c w h =
      assoc a b (product O n b' c) ⊙ product-left a (alike-sym (assoc b b' c) ⊙ product-right h c ⊙ scalar-product w c) ⊙ product-multiple w a c
