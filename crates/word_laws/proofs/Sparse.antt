-- Lemmas for the crates above: the channel of a word is 0 outside the blocks of its letters' span.
use Rattle.std.proofs.Common.{◌≡◌, ◌≢◌, ℕ, ◌^◌, ◌<◌, Bool, true, false, List, [], ◌∷◌, bit_xor, not, ap, sym, ◌∙◌, subst, inl, inr}
use Rattle.std.specs.Int.Bits.{xor_self, xor_assoc}
use Rattle.std.specs.Prelude.{if◌then◌else◌}
use Rattle.ring_laws.proofs.Ring.{mul-zero}
use Rattle.tc_ring.specs.Surds.{surd_plus, surd_times, zero_surd, root2_surd}
use Rattle.tc_ring.proofs.Surds.{surds_laws, surd_plus-zero, cancel_root2_power}
use Rattle.pauli_basis.specs.Products.{product_code, commute, anti_sign}
use Rattle.pauli_basis.proofs.Products.{product_code-lt}
use Rattle.channel_rep.specs.Tables.{SurdTable, ScaledTable, by_rotation, stepped, built, IsBuiltOf, signed, turned_over}
use Rattle.channel_rep.specs.Rows.{rotated}
use Rattle.channel_rep.specs.Words.{IsWord}
use Rattle.channel_rep.specs.Products.{identity_table}
use Rattle.channel_rep.proofs.Built.{root2_to}
use Rattle.channel_rep.proofs.Products.{built_on-append}
use Rattle.channel_rep.proofs.Rules.{zero_at, rotation_rule}
use Rattle.channel_rep.proofs.Signs.{signed-zero}
use Rattle.coset_label.specs.Words.{word_steps, word_channel}
use Rattle.word_laws.specs.Spans.{IsInSpan}
use Rattle.word_laws.proofs.Spans.{span_closed, decide_span, code_both}

-- one letter in front is one rotation more
pub word_channel-front : (n p : ℕ) (word : List ℕ) → word_channel n (p ∷ word) ≡ stepped n (by_rotation p) (word_channel n word)
word_channel-front n p word = built_on-append n (word_steps word) (by_rotation p ∷ []) identity_table

-- a row of it, by the rule of rows
pub front_row : (n p : ℕ) (word : List ℕ) → p < 4 ^ n → p ≢ 0 → (row column : ℕ) → row < 4 ^ n
    → (word_channel n (p ∷ word)).table row column ≡ rotated n false p (word_channel n word).table row column
front_row n p word l d row column h =
    ap (λ (m : ScaledTable). m.table row column) (word_channel-front n p word) ∙ rotation_rule n false p l d (word_channel n word).table row column h

-- a rotation makes 0 of two zeros
rotated-zero : (n p : ℕ) (m : SurdTable) (row column : ℕ) → m row column ≡ zero_surd → m (product_code p row) column ≡ zero_surd → rotated n false p m row column ≡ zero_surd
unfolding rotated
rotated-zero n p m row column e d = by (commute n p row) (turned_over false (not (anti_sign n p row)))
  where
    by : (b s : Bool) → (if b then surd_times root2_surd (m row column) else surd_plus (m row column) (signed s (m (product_code p row) column))) ≡ zero_surd
    by true s = ap (surd_times root2_surd) e ∙ mul-zero surds_laws root2_surd
    by false s = (λ i. surd_plus (e i) (signed s (d i))) ∙ ap (surd_plus zero_surd) (signed-zero s) ∙ surd_plus-zero zero_surd

-- the channel of a word as it is built
pub sparse_word : (n : ℕ) (word : List ℕ) → IsWord n word → (row column : ℕ) → row < 4 ^ n → ¬ IsInSpan word (product_code row column) → (word_channel n word).table row column ≡ zero_surd
sparse_word n [] is row column l d = zero_at row column (λ e. d (ap (λ x. bit_xor x column) e ∙ xor_self column))
sparse_word n (p ∷ word) is row column l d =
    front_row n p word is.0.0 is.0.1 row column l
    ∙ rotated-zero n p (word_channel n word).table row column
    (sparse_word n word is.1 row column l (λ h. d (inl h)))
    (sparse_word n word is.1 (product_code p row) column (product_code-lt n p row is.0.0 l) (λ h. d (inr (subst (IsInSpan word) (xor_assoc p row column) h))))

-- the same for each table that is the same
pub sparse : (n : ℕ) (word : List ℕ) → IsWord n word → (m : ScaledTable) → IsBuiltOf n (word_steps word) m
    → (row column : ℕ) → row < 4 ^ n → column < 4 ^ n → ¬ IsInSpan word (product_code row column) → m.table row column ≡ zero_surd
sparse n word is m built row column l k d =
    cancel_root2_power (word_channel n word).exponent _ _
    (built row column l k ∙ ap (surd_times (root2_to m.exponent)) (sparse_word n word is row column l d) ∙ mul-zero surds_laws (root2_to m.exponent) ∙ sym (mul-zero surds_laws (root2_to (word_channel n word).exponent)))

-- an entry other than 0 stands in the block of its column
pub in_block : (n : ℕ) (word : List ℕ) → IsWord n word → (m : ScaledTable) → IsBuiltOf n (word_steps word) m
    → (row column : ℕ) → row < 4 ^ n → column < 4 ^ n → m.table row column ≢ zero_surd → IsInSpan word (product_code row column)
in_block n word is m built row column l k d = elim (decide_span word (product_code row column)) [
  | inl h ↦ h
  | inr e ↦ absurd (d (sparse n word is m built row column l k e))
]

-- columns other than 0 in one row lie in one block
pub shared_block : (n : ℕ) (word : List ℕ) → IsWord n word → (m : ScaledTable) → IsBuiltOf n (word_steps word) m
    → (row x y : ℕ) → row < 4 ^ n → x < 4 ^ n → y < 4 ^ n → m.table row x ≢ zero_surd → m.table row y ≢ zero_surd → IsInSpan word (product_code x y)
shared_block n word is m built row x y l lx ly hx hy =
    subst (IsInSpan word) (code_both row x y) (span_closed word (product_code row x) (product_code row y) (in_block n word is m built row x l lx hx) (in_block n word is m built row y l ly hy))
