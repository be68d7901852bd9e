-- Lemmas for the crates above: finite sums over index functions, and matrices as functions of two indices.
use mathlib.Core.Path.{◌≡◌, refl, sym, ap, ◌∙◌, subst}
use mathlib.Core.Bool.{Bool, true, false, cond}
use mathlib.Core.List.{[], ◌∷◌}
use Prim.Native.Nat.{ℕ, zero, suc, ◌+◌, ◌*◌, ◌/◌, ◌%◌, ◌<◌}
use native.Mathlib.Omega.{arith}
use native.Mathlib.Nat.{add-zero, add-suc, zero-mul, suc-mul}
use lib.Arith.{digits_div, digits_mod}
use lib.Dec.{T, eqb, eqb→eq, eqb_refl}
use lib.IntN.{pos}
use Rattle.ring_laws.proofs.Ring as laws
use Rattle.ring_laws.specs.Ring.{RingOps, RingLaws}
use Rattle.ring_laws.specs.Matrix.{sum, product, identity, kronecker, Agree}
use Rattle.ring_laws.proofs.Reader.{ring, reads}

module _ {O : RingOps} (L : RingLaws O) where
  open O use {Carrier, add, mul, neg, num}

  pub sum_cong : (n : ℕ) (f g : ℕ → Carrier) → ((k : ℕ) → k < n → f k ≡ g k) → sum O n f ≡ sum O n g
  unfolding sum
  sum_cong zero f g h = refl
  sum_cong (suc n) f g h = λ i. add (sum_cong n f g (λ k l. h k (omega arith)) i) (h n (omega arith) i)

  pub sum-zero : (n : ℕ) (f : ℕ → Carrier) → ((k : ℕ) → k < n → f k ≡ num (pos 0)) → sum O n f ≡ num (pos 0)
  unfolding sum
  sum-zero zero f h = refl
  sum-zero (suc n) f h = (λ i. add (sum-zero n f (λ k l. h k (omega arith)) i) (h n (omega arith) i)) ∙ L.add-zero (num (pos 0))

  pub sum-add : (n : ℕ) (f g : ℕ → Carrier) → sum O n (λ k. add (f k) (g k)) ≡ add (sum O n f) (sum O n g)
  unfolding sum
  sum-add zero f g = sym (L.add-zero (num (pos 0)))
  sum-add (suc n) f g = ap (λ x. add x (add (f n) (g n))) (sum-add n f g) ∙ ring L (sum O n f ∷ sum O n g ∷ f n ∷ g n ∷ []) (search reads depth 30 parts 0) tt

  pub mul-sum : (n : ℕ) (a : Carrier) (f : ℕ → Carrier) → mul a (sum O n f) ≡ sum O n (λ k. mul a (f k))
  unfolding sum
  mul-sum zero a f = laws.mul-zero L a
  mul-sum (suc n) a f = L.mul-add a (sum O n f) (f n) ∙ ap (λ x. add x (mul a (f n))) (mul-sum n a f)

  pub sum-mul : (n : ℕ) (f : ℕ → Carrier) (a : Carrier) → mul (sum O n f) a ≡ sum O n (λ k. mul (f k) a)
  sum-mul n f a = L.mul_comm (sum O n f) a ∙ mul-sum n a f ∙ sum_cong n _ _ (λ k l. L.mul_comm a (f k))

  pub sum_swap : (n m : ℕ) (f : ℕ → ℕ → Carrier) → sum O n (λ i. sum O m (λ j. f i j)) ≡ sum O m (λ j. sum O n (λ i. f i j))
  unfolding sum
  sum_swap zero m f = sym (sum-zero m (λ j. num (pos 0)) (λ k l. refl))
  sum_swap (suc n) m f =
      ap (λ x. add x (sum O m (f n))) (sum_swap n m f) ∙ sym (sum-add m (λ j. sum O n (λ i. f i j)) (f n))

  -- a sum whose terms are 0 but for one
  pub sum_single : (n k : ℕ) (f : ℕ → Carrier) → k < n → ((i : ℕ) → i < n → ¬ (i ≡ k) → f i ≡ num (pos 0)) → sum O n f ≡ f k
  unfolding sum
  sum_single zero k f l h = absurd (omega arith)
  sum_single (suc n) k f l h = by (eqb k n) refl (sum_single n k f)
    where
      by : (t : Bool) → eqb k n ≡ t → (k < n → ((i : ℕ) → i < n → ¬ (i ≡ k) → f i ≡ num (pos 0)) → sum O n f ≡ f k) → add (sum O n f) (f n) ≡ f k
      by true e ih =
          let s : k ≡ n = eqb→eq k n (subst T (sym e) tt) in
          ap (λ x. add x (f n)) (sum-zero n f (λ i j. h i (omega arith) (λ q. omega arith))) ∙ laws.zero-plus L (f n) ∙ ap f (sym s)
      by false e ih =
          let d : ¬ (k ≡ n) = λ q. subst T e (subst (λ x. T (eqb k x)) q (eqb_refl k)) in
          (λ i. add (ih (omega arith) (λ j m. h j (omega arith)) i) (h n (omega arith) (λ q. d (sym q)) i)) ∙ L.add-zero (f k)

  -- a sum whose terms are 0 but for two
  pub sum_pair : (n i j : ℕ) (f : ℕ → Carrier) → i < n → j < n → ¬ (i ≡ j) → ((k : ℕ) → k < n → ¬ (k ≡ i) → ¬ (k ≡ j) → f k ≡ num (pos 0)) → sum O n f ≡ add (f i) (f j)
  unfolding sum
  sum_pair zero i j f l m d h = absurd (omega arith)
  sum_pair (suc n) i j f l m d h = by (eqb i n) (eqb j n) refl refl (sum_pair n i j f)
    where
      is : (a b : ℕ) → eqb a b ≡ true → a ≡ b
      is a b e = eqb→eq a b (subst T (sym e) tt)

      not : (a b : ℕ) → eqb a b ≡ false → ¬ (a ≡ b)
      not a b e q = subst T e (subst (λ x. T (eqb a x)) q (eqb_refl a))

      by : (s t : Bool) → eqb i n ≡ s → eqb j n ≡ t
          → (i < n → j < n → ¬ (i ≡ j) → ((k : ℕ) → k < n → ¬ (k ≡ i) → ¬ (k ≡ j) → f k ≡ num (pos 0)) → sum O n f ≡ add (f i) (f j))
          → add (sum O n f) (f n) ≡ add (f i) (f j)
      by true true e g ih = absurd (d (is i n e ∙ sym (is j n g)))
      by true false e g ih =
          let last = is i n e in
          let other = not j n g in
          ap (λ x. add x (f n)) (sum_single n j f (omega arith) (λ k b c. h k (omega arith) (omega arith) c))
          ∙ ap (λ k. add (f j) (f k)) (sym last) ∙ L.add_comm (f j) (f i)
      by false true e g ih =
          let last = is j n g in
          let other = not i n e in
          ap (λ x. add x (f n)) (sum_single n i f (omega arith) (λ k b c. h k (omega arith) c (omega arith)))
          ∙ ap (λ k. add (f i) (f k)) (sym last)
      by false false e g ih =
          let p = not i n e in
          let q = not j n g in
          (λ t. add (ih (omega arith) (omega arith) d (λ k b. h k (omega arith)) t) (h n (omega arith) (λ x. p (sym x)) (λ x. q (sym x)) t))
          ∙ L.add-zero (add (f i) (f j))

  pub sum-plus : (m n : ℕ) (f : ℕ → Carrier) → sum O (m + n) f ≡ add (sum O m f) (sum O n (λ k. f (m + k)))
  unfolding sum
  sum-plus m zero f = ap (λ k. sum O k f) (add-zero m) ∙ sym (L.add-zero (sum O m f))
  sum-plus m (suc n) f =
      ap (λ k. sum O k f) (add-suc m n) ∙ ap (λ x. add x (f (m + n))) (sum-plus m n f) ∙ L.add_assoc (sum O m f) (sum O n (λ k. f (m + k))) (f (m + n))

  -- a sum over m · n indices, row by row
  pub sum-times : (m n : ℕ) (f : ℕ → Carrier) → sum O (m * n) f ≡ sum O m (λ a. sum O n (λ b. f (a * n + b)))
  unfolding sum
  sum-times zero n f = ap (λ k. sum O k f) (zero-mul n)
  sum-times (suc m) n f =
      ap (λ k. sum O k f) (suc-mul m n) ∙ sum-plus (m * n) n f ∙ ap (λ x. add x (sum O n (λ b. f (m * n + b)))) (sum-times m n f)

  pub product_assoc : (m n : ℕ) (a b c : ℕ → ℕ → Carrier) (i j : ℕ) → product O n (product O m a b) c i j ≡ product O m a (product O n b c) i j
  unfolding product
  product_assoc m n a b c i j =
      sum_cong n _ _ (λ k l. sum-mul m (λ h. mul (a i h) (b h k)) (c k j))
      ∙ sum_swap n m (λ k h. mul (mul (a i h) (b h k)) (c k j))
      ∙ sum_cong m _ _ (λ h l. sum_cong n _ _ (λ k l. L.mul_assoc (a i h) (b h k) (c k j)) ∙ sym (mul-sum n (a i h) (λ k. mul (b h k) (c k j))))

  pub product-add : (n : ℕ) (a b c : ℕ → ℕ → Carrier) (i j : ℕ) → product O n a (λ h k. add (b h k) (c h k)) i j ≡ add (product O n a b i j) (product O n a c i j)
  unfolding product
  product-add n a b c i j = sum_cong n _ _ (λ k l. L.mul-add (a i k) (b k j) (c k j)) ∙ sum-add n (λ k. mul (a i k) (b k j)) (λ k. mul (a i k) (c k j))

  pub add-product : (n : ℕ) (a b c : ℕ → ℕ → Carrier) (i j : ℕ) → product O n (λ h k. add (a h k) (b h k)) c i j ≡ add (product O n a c i j) (product O n b c i j)
  unfolding product
  add-product n a b c i j = sum_cong n _ _ (λ k l. laws.add-mul L (a i k) (b i k) (c k j)) ∙ sum-add n (λ k. mul (a i k) (c k j)) (λ k. mul (b i k) (c k j))

  identity_same : (i j : ℕ) → i ≡ j → identity O i j ≡ num (pos 1)
  unfolding identity
  identity_same i j e = by (eqb i j) (subst (λ x. T (eqb i x)) e (eqb_refl i))
    where
      by : (t : Bool) → T t → cond t (num (pos 1)) (num (pos 0)) ≡ num (pos 1)
      by true h = refl
      by false h = absurd h

  identity_apart : (i j : ℕ) → ¬ (i ≡ j) → identity O i j ≡ num (pos 0)
  unfolding identity
  identity_apart i j d = by (eqb i j) (λ t. d (eqb→eq i j t))
    where
      by : (t : Bool) → ¬ (T t) → cond t (num (pos 1)) (num (pos 0)) ≡ num (pos 0)
      by true h = absurd (h tt)
      by false h = refl

  pub identity-product : (n : ℕ) (a : ℕ → ℕ → Carrier) (i j : ℕ) → i < n → product O n (identity O) a i j ≡ a i j
  unfolding product
  identity-product n a i j l =
      sum_single n i (λ k. mul (identity O i k) (a k j)) l (λ k h d. ap (λ x. mul x (a k j)) (identity_apart i k (λ e. d (sym e))) ∙ laws.zero-mul L (a k j))
      ∙ ap (λ x. mul x (a i j)) (identity_same i i refl) ∙ laws.one-mul L (a i j)

  pub product-identity : (n : ℕ) (a : ℕ → ℕ → Carrier) (i j : ℕ) → j < n → product O n a (identity O) i j ≡ a i j
  unfolding product
  product-identity n a i j l =
      sum_single n j (λ k. mul (a i k) (identity O k j)) l (λ k h d. ap (mul (a i k)) (identity_apart k j d) ∙ laws.mul-zero L (a i k))
      ∙ ap (mul (a i j)) (identity_same j j refl) ∙ L.mul-one (a i j)

  pub product-Agree : (n : ℕ) (a a' b b' : ℕ → ℕ → Carrier) → Agree O n a a' → Agree O n b b' → Agree O n (product O n a b) (product O n a' b')
  unfolding product
  product-Agree n a a' b b' p q i j l h = sum_cong n _ _ (λ k s. λ t. mul (p i k l s t) (q k j s h t))

  pub sum_by_sum : (m n : ℕ) (f g : ℕ → Carrier) → sum O m (λ p. sum O n (λ q. mul (f p) (g q))) ≡ mul (sum O m f) (sum O n g)
  sum_by_sum m n f g = sum_cong m _ _ (λ p l. sym (mul-sum n (f p) g)) ∙ sym (sum-mul m f (sum O n g))

  -- (a ⊗ b)(c ⊗ d) = (a c) ⊗ (b d), at every index
  pub kronecker_product : (m n : ℕ) (a b c d : ℕ → ℕ → Carrier) (i j : ℕ) → product O (m * n) (kronecker O n a b) (kronecker O n c d) i j ≡ kronecker O n (product O m a c) (product O n b d) i j
  unfolding kronecker product
  kronecker_product m n a b c d i j =
      sum-times m n (λ k. mul (mul (a (i / n) (k / n)) (b (i % n) (k % n))) (mul (c (k / n) (j / n)) (d (k % n) (j % n))))
      ∙ sum_cong m _ _ (λ p l. sum_cong n _ _ (λ q h. at p q h))
      ∙ sum_by_sum m n (λ p. mul (a (i / n) p) (c p (j / n))) (λ q. mul (b (i % n) q) (d q (j % n)))
    where
      at : (p q : ℕ) → q < n
          → mul (mul (a (i / n) ((p * n + q) / n)) (b (i % n) ((p * n + q) % n))) (mul (c ((p * n + q) / n) (j / n)) (d ((p * n + q) % n) (j % n)))
          ≡ mul (mul (a (i / n) p) (c p (j / n))) (mul (b (i % n) q) (d q (j % n)))
      at p q h = (λ t. mul (mul (a (i / n) (digits_div p h t)) (b (i % n) (digits_mod p h t))) (mul (c (digits_div p h t) (j / n)) (d (digits_mod p h t) (j % n))))
          ∙ laws.mul_mul_comm L (a (i / n) p) (b (i % n) q) (c p (j / n)) (d q (j % n))
