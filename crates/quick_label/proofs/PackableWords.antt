-- The channel of a word is 0 between different blocks of its letters' span, and its numbers are small where its exponent is.
use Rattle.std.proofs.Common.{◌≡◌, ℕ, ◌^◌, ◌<◌, ◌≤◌, Bool, true, List, ◌∙◌, subst}
use Rattle.pauli_basis.specs.Products.{product_code}
use Rattle.pauli_basis.proofs.Products.{product_code-lt}
use Rattle.channel_rep.specs.Tables.{ScaledTable, IsBuiltOf}
use Rattle.channel_rep.specs.Words.{IsWord}
use Rattle.channel_rep.proofs.Squares.{codes_some}
use Rattle.coset_label.specs.Words.{word_steps}
use Rattle.coset_label.proofs.WordChannels.{word_circuit}
use Rattle.word_laws.specs.Spans.{IsInSpan}
use Rattle.word_laws.proofs.Spans.{code_both, span-zero, span_closed}
use Rattle.word_laws.proofs.Sparse.{sparse}
use Rattle.quick_label.specs.Blocks.{in_block}
use Rattle.quick_label.specs.Spans.{AreSpan}
use Rattle.quick_label.specs.Tables.{SurdUpTo, IsPackable, IsSparseTable}
use Rattle.quick_label.proofs.Graded.{in_block_swap}
use Rattle.quick_label.proofs.SmallNumbers.{small_numbers}

module _ (n : ℕ) (word : List ℕ) (span : List Bool) (are : AreSpan n word span) where
  -- what is marked lies in the span
  marked : (x y : ℕ) → x < 4 ^ n → y < 4 ^ n → in_block span x y ≡ true → IsInSpan word (product_code x y)
  marked x y lx ly e = (are.tells (product_code x y) (product_code-lt n x y lx ly)).0 e

  -- and the span is marked
  marks : (x y : ℕ) → x < 4 ^ n → y < 4 ^ n → IsInSpan word (product_code x y) → in_block span x y ≡ true
  marks x y lx ly h = (are.tells (product_code x y) (product_code-lt n x y lx ly)).1 h

  -- they mark a subspace: 0 is in it
  pub zero_marked : 0 < 4 ^ n → in_block span 0 0 ≡ true
  zero_marked some = marks 0 0 some some (span-zero word)

  -- and a block holds what is in one with its own
  pub closed_marks : (x y z : ℕ) → x < 4 ^ n → y < 4 ^ n → z < 4 ^ n → in_block span x y ≡ true → in_block span y z ≡ true → in_block span x z ≡ true
  closed_marks x y z lx ly lz e d =
      marks x z lx lz
      (subst (IsInSpan word) (code_both y x z) (span_closed word (product_code y x) (product_code y z) (marked y x ly lx (in_block_swap span y x ∙ e)) (marked y z ly lz d)))

-- so a word's channel is 0 between different blocks
pub word_sparse : (n : ℕ) (word : List ℕ) → IsWord n word → (span : List Bool) → AreSpan n word span → (m : ScaledTable) → IsBuiltOf n (word_steps word) m → IsSparseTable (4 ^ n) span m.table
word_sparse n word is span are m built = λ row column lr lc out.
    sparse n word is m built row column lr lc (λ h. let e = in_block_swap span column row ∙ marks n word span are row column lr lc h in cc)

pub words_packable : (n : ℕ) → 0 < n → n ≤ 3 → (word : List ℕ) → IsWord n word → (span : List Bool) → AreSpan n word span → (m : ScaledTable) → IsBuiltOf n (word_steps word) m
    → (m.exponent ≤ 6 → IsPackable n span 8 5 m.table) × (m.exponent ≤ 5 → IsPackable n span 5 4 m.table)
words_packable n some few word is span are m built = (
  λ h. packable 8 5 (λ row column lr lc. (small row column lr lc).0 h),
  λ h. packable 5 4 (λ row column lr lc. (small row column lr lc).1 h),
)
  where
    small : (row column : ℕ) → row < 4 ^ n → column < 4 ^ n → (m.exponent ≤ 6 → SurdUpTo 8 5 (m.table row column)) × (m.exponent ≤ 5 → SurdUpTo 5 4 (m.table row column))
    small row column lr lc = small_numbers n some few m (word_circuit n word m is built) row column lr lc

    packable : (most_a most_b : ℕ) → ((row column : ℕ) → row < 4 ^ n → column < 4 ^ n → SurdUpTo most_a most_b (m.table row column)) → IsPackable n span most_a most_b m.table
    packable most_a most_b numbers = record {
      long = are.long;
      zero = zero_marked n word span are (codes_some n);
      closed = closed_marks n word span are;
      sparse = λ row column lr lc out. sparse n word is m built row column lr lc
          (λ h. let e = in_block_swap span column row ∙ marks n word span are row column lr lc h in cc);
      small = numbers;
    }
