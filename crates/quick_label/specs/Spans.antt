-- The span of a word's letters, as a truth value for each code.
-- Source: Gottesman, The Heisenberg representation of quantum computers, 1998, for Paulis as vectors of bits.
use Rattle.std.specs.Prelude.{◌≡◌, ◌↔◌, ℕ, ◌^◌, ◌<◌, Bool, false, IsTrue, List, length, slice_index_or}
use Rattle.word_laws.specs.Spans.{IsInSpan}

-- each code on n qubits is marked exactly where it lies in the span of the letters
pub record AreSpan (n : ℕ) (word : List ℕ) (span : List Bool) : Type 0 where
  pub long : length span ≡ 4 ^ n
  pub tells : (v : ℕ) → v < 4 ^ n → IsTrue (slice_index_or span v false) ↔ IsInSpan word v
