-- Letters of one class before a word.
use Rattle.std.proofs.Common.{◌≡◌, ℕ, ◌^◌, ◌<◌, ◌⊎◌, true, Bool, List, ◌∷◌, length, slice_index, slice_index_or, inl, inr, ap, sym, ◌∙◌, subst}
use Rattle.std.specs.Int.Bits.{xor_comm}
use Rattle.pauli_basis.specs.Products.{product_code}
use Rattle.pauli_basis.proofs.Products.{product_code-lt}
use Rattle.word_laws.specs.Spans.{IsInSpan}
use Rattle.word_laws.proofs.Spans.{code_both, span_closed}
use Rattle.quick_label.specs.Blocks.{in_block}
use Rattle.quick_label.specs.Classes.{IsClass, AreClasses}
use Rattle.quick_label.specs.Rooms.{HeldBlocks, AreBlocks}
use Rattle.quick_label.specs.Spans.{AreSpan}
use Rattle.quick_label.specs.declared.classes.Class.{Class}

-- ---- spans
-- what lies in the span with one letter lies in that with another of its class
other_letter : (letters : List ℕ) (p q v : ℕ) → IsInSpan letters (product_code q p) → IsInSpan (q ∷ letters) v → IsInSpan (p ∷ letters) v
other_letter letters p q v both (inl h) = inl h
other_letter letters p q v both (inr h) = inr (subst (IsInSpan letters) (code_both q p v) (span_closed letters (product_code q p) (product_code q v) both h))

pub span_of_other : (n : ℕ) (letters : List ℕ) (p q : ℕ) (span : List Bool) → IsInSpan letters (product_code q p) → AreSpan n (q ∷ letters) span → AreSpan n (p ∷ letters) span
span_of_other n letters p q span both are = record {
  long = are.long;
  tells = λ v l.
      let e = are.tells v l in
      (λ t. other_letter letters p q v both (e.0 t), λ h. e.1 (other_letter letters q p v (subst (IsInSpan letters) (xor_comm q p) both) h));
}

-- ---- classes
-- the class at a letter's home is the letter's
pub class_of_letter : (n : ℕ) (letters : List ℕ) (span : List Bool) (blocks : HeldBlocks) (classes : List Class) (p code home : ℕ) (class : Class)
    → AreSpan n letters span → AreBlocks (4 ^ n) span blocks → AreClasses n letters blocks.homes classes → length classes ≡ 4 ^ n → code ≡ p → code < 4 ^ n
    → home ≡ slice_index blocks.homes code → home < 4 ^ n → class ≡ slice_index_or classes home class → IsClass n (p ∷ letters) class
class_of_letter n letters span blocks classes p code home class are held all long same low at below is =
    let own : slice_index blocks.homes home ≡ home = ap (slice_index blocks.homes) at ∙ held.settled code low ∙ sym at in
    let inside : in_block span home code ≡ true = ap (λ k. in_block span k code) at ∙ held.homes code low in
    let both : IsInSpan letters (product_code home p) = subst (λ k. IsInSpan letters (product_code home k)) same ((are.tells (product_code home code) (product_code-lt n home code below low)).0 inside) in
    let its : IsClass n (home ∷ letters) class = subst (IsClass n (home ∷ letters)) (sym is) (all home class (subst (λ k. home < k) (sym long) below) own) in
    record { span = span_of_other n letters p home class.span.items both its.span; blocks = its.blocks; small = its.small; high = its.high; low = its.low }
