-- The parities of a table that is 0 between different blocks, from those of its blocks.
use Rattle.std.proofs.Common.{◌≡◌, ℕ, zero, suc, ◌+◌, ◌<◌, ◌&&◌, Bool, true, false, List, refl, ap, sym, ◌∙◌, subst, arith, inl, inr}
use Rattle.std.specs.Prelude.{cond, nat_eq}
use Rattle.std.specs.Int.{bit_at}
use Rattle.std.specs.List.{count_by, range_with_len}
use Rattle.std.proofs.lemmas.Bool.{cases_eq, cases_Bool, eq-eqb, ne_eqb}
use Rattle.tc_ring.specs.Surds.{Surd, zero_surd, surd_integer}
use Rattle.channel_rep.specs.Tables.{SurdTable}
use Rattle.word_laws.specs.Parities.{parity}
use Rattle.quick_label.specs.Blocks.{in_block, block_rows}
use Rattle.quick_label.specs.ParityWords.{HasBitsAt}
use Rattle.quick_label.specs.Tables.{IsSparseTable}
use Rattle.quick_label.proofs.Counts.{count_kept, counted_more}
use Rattle.quick_label.proofs.Graded.{in_block_swap}

-- ---- counting one number
-- one that passes is counted
some_counted : (q : ℕ → Bool) (k n : ℕ) → k < n → q k ≡ true → 0 < count_by q (range_with_len 0 n)
some_counted q k zero l e = absurd (omega arith)
some_counted q k (suc n) l e = elim (cases_eq k n) [
  | inl same ↦ (let here : cond {A = ℕ} (q n) 1 0 ≡ 1 = subst (λ j. cond {A = ℕ} (q j) 1 0 ≡ 1) same (λ i. cond (e i) 1 0) in omega (arith, counted_more q n))
  | inr apart ↦ (let before = some_counted q k n (omega arith) e in omega (arith, counted_more q n))
]

-- where none passes there is nothing to count
none_counted : (q : ℕ → Bool) (n : ℕ) → ((x : ℕ) → q x ≡ false) → count_by q (range_with_len 0 n) ≡ 0
none_counted q zero h = refl
none_counted q (suc n) h = let here : cond {A = ℕ} (q n) 1 0 ≡ 0 = (λ i. cond (h n i) 1 0) in omega (arith, counted_more q n, none_counted q n h)

-- a number that fails the first test passes no two
not_both : (p : ℕ → Bool) (k : ℕ) → p k ≡ false → (x : ℕ) → p x && nat_eq k x ≡ false
not_both p k e x = elim (cases_eq k x) [
  | inl same ↦ (λ i. (ap p (sym same) ∙ e) i && nat_eq k x)
  | inr apart ↦ (λ i. p x && ne_eqb k x apart i) ∙ fails (p x)
]
  where
    fails : (b : Bool) → b && false ≡ false
    fails true = refl
    fails false = refl

-- ---- a row's bits
-- those of its block are all, where there is nothing outside it
block_bits : (size : ℕ) (span : List Bool) (row : ℕ) (bit : ℕ → ℕ) (word : ℕ) → HasBitsAt (block_rows size span row) bit word
    → ((k : ℕ) → k < size → in_block span row k ≡ false → bit k ≡ 0) → (k : ℕ) → k < size → bit_at word k ≡ bit k
block_bits size span row bit word h zeros k l =
    let counted = count_kept (in_block span row) (nat_eq k) (range_with_len 0 size) in
    elim (cases_Bool (in_block span row k)) [
      | inl within ↦ h.inside k (subst (λ c. 0 < c) (sym counted) (some_counted (λ x. in_block span row x && nat_eq k x) k size l (λ i. within i && eq-eqb k k refl i)))
      | inr outside ↦ h.outside k (counted ∙ none_counted (λ x. in_block span row x && nat_eq k x) size (not_both (in_block span row) k outside)) ∙ sym (zeros k l outside)
    ]

module _ (size : ℕ) (span : List Bool) (m : SurdTable) (sparse : IsSparseTable size span m) (row : ℕ) (low : row < size) (places : List ℕ) (block : places ≡ block_rows size span row) (word : ℕ) where
  -- of the whole parts
  pub whole_bits : HasBitsAt places (λ k. parity (m row k).a) word → (k : ℕ) → k < size → bit_at word k ≡ parity (m row k).a
  unfolding surd_integer
  whole_bits h =
      block_bits size span row (λ k. parity (m row k).a) word (subst (λ xs. HasBitsAt xs (λ k. parity (m row k).a) word) block h)
      (λ k l out. ap (λ (s : Surd). parity s.a) (sparse row k low l (in_block_swap span k row ∙ out)))

  -- and of the parts of √2
  pub part_bits : HasBitsAt places (λ k. parity (m row k).b) word → (k : ℕ) → k < size → bit_at word k ≡ parity (m row k).b
  unfolding surd_integer
  part_bits h =
      block_bits size span row (λ k. parity (m row k).b) word (subst (λ xs. HasBitsAt xs (λ k. parity (m row k).b) word) block h)
      (λ k l out. ap (λ (s : Surd). parity s.b) (sparse row k low l (in_block_swap span k row ∙ out)))
