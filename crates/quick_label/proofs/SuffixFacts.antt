-- What a suffix and a letter before it give to the steps of a quick mark.
use Rattle.std.proofs.Common.{◌≡◌, ◌≢◌, ℕ, ◌+◌, ◌^◌, ◌<◌, ◌≤◌, Bool, false, List, ◌∷◌, length, slice_index_or, sym, ◌∙◌, subst}
use Rattle.channel_rep.specs.Cells.{table_of, scaled}
use Rattle.channel_rep.specs.Rows.{rotated}
use Rattle.coset_label.proofs.WordChannels.{word_circuit}
use Rattle.word_laws.specs.Divisions.{IsDivisionCount}
use Rattle.word_laws.proofs.Norms.{divisions_below}
use Rattle.quick_label.specs.Rooms.{MarksSubspace}
use Rattle.quick_label.specs.Spans.{AreSpan}
use Rattle.quick_label.specs.Suffixes.{SuffixParts, IsSuffix}
use Rattle.quick_label.proofs.PackableWords.{zero_marked, closed_marks}

-- flags of a letter's rows, by equal numbers of qubits and equal codes
pub letter_rows : (f : ℕ → ℕ → ℕ → Bool) (n k p code : ℕ) (flags : List Bool) → k ≡ n → code ≡ p
    → ((row : ℕ) → row < 4 ^ k → slice_index_or flags row false ≡ f k code row) → (row : ℕ) → row < 4 ^ n → slice_index_or flags row false ≡ f n p row
letter_rows f n k p code flags e d are row l = are row (subst (λ j. row < 4 ^ j) (sym e) l) ∙ (λ i. f (e i) (d i) row)

-- the divisions are at most the exponent and 1
pub divisions_fit : {s : SuffixParts} → IsSuffix s → (p : ℕ) → p < 4 ^ s.word.qubits → p ≢ 0 → (divisions : ℕ)
    → IsDivisionCount s.word.qubits (rotated s.word.qubits false p (table_of s.narrow)) divisions → divisions ≤ s.narrow.exponent + 1
divisions_fit {s} is p lp d divisions count =
    divisions_below s.word.qubits is.word.some is.word.few false p lp d (scaled s.narrow) (word_circuit s.word.qubits s.word.letters (scaled s.narrow) is.word.word is.built) divisions count

-- the marks of a span are those of a subspace
pub span_subspace : (n : ℕ) (word : List ℕ) (span : List Bool) → 0 < 4 ^ n → AreSpan n word span → (size : ℕ) → size ≡ 4 ^ n → MarksSubspace size span
span_subspace n word span some are size e = record {
  long = are.long ∙ sym e;
  zero = zero_marked n word span are some;
  closed = λ x y z lx ly lz. closed_marks n word span are x y z (subst (λ k. x < k) e lx) (subst (λ k. y < k) e ly) (subst (λ k. z < k) e lz);
}

-- the span with a letter, as it is read back
pub span_widened : (n p code : ℕ) (letters : List ℕ) (given span wider items : List Bool) → given ≡ span → AreSpan n letters span → code ≡ p
    → ((n : ℕ) (word : List ℕ) → AreSpan n word given → AreSpan n (code ∷ word) wider) → (length wider ≡ 4 ^ n → items ≡ wider) → AreSpan n (p ∷ letters) items
span_widened n p code letters given span wider items e are d widens read =
    let wide = widens n letters (subst (AreSpan n letters) (sym e) are) in
    subst (λ x. x) (λ i. AreSpan n (d i ∷ letters) (sym (read wide.long) i)) wide
