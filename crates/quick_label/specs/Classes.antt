-- Classes of letters before a word. Letters that differ by a code of the word's span have one span with it, and so one set of
-- blocks, and one weight of each row's digit.
-- Source: Gottesman, The Heisenberg representation of quantum computers, 1998, for Paulis as vectors of bits, of whose spans these
-- are the cosets.
use Rattle.std.specs.Prelude.{◌≡◌, ℕ, ◌^◌, ◌<◌, IsTrue, List, ◌∷◌, length, slice_index, slice_index_or}
use Rattle.label_laws.specs.Sparse.{AreWeights}
use Rattle.quick_label.specs.Numbers.{high_weights, low_weights}
use Rattle.quick_label.specs.Rooms.{AreBlocks, HasSmallBlocks}
use Rattle.quick_label.specs.Spans.{AreSpan}
use Rattle.quick_label.specs.declared.classes.Class.{Class}

-- a place for each of the 4^n codes in all of it
pub record IsClassRoom (n : ℕ) (c : Class) : Type 0 where
  pub span : length c.span.items ≡ 4 ^ n
  pub blocks : c.blocks.size ≡ 4 ^ n
  pub high : length c.high.wholes ≡ 4 ^ n
  pub low : length c.low.wholes ≡ 4 ^ n

-- the span of these letters with its blocks and the weights of their digits
pub record IsClass (n : ℕ) (letters : List ℕ) (c : Class) : Type 0 where
  pub span : AreSpan n letters c.span.items
  pub blocks : AreBlocks (4 ^ n) c.span.items c.blocks
  pub small : IsTrue c.small → HasSmallBlocks (4 ^ n) c.span.items
  pub high : AreWeights (4 ^ n) (high_weights (4 ^ n) c.span.items) c.high.wholes c.high.parts
  pub low : AreWeights (4 ^ n) (low_weights (4 ^ n) c.span.items) c.low.wholes c.low.parts

-- at each home stands the class of the letters with this home, before a word of these letters
abbrev pub AreClasses : ℕ → List ℕ → List ℕ → List Class → Type 0
AreClasses n letters homes classes = (home : ℕ) (d : Class) → home < length classes → slice_index homes home ≡ home → IsClass n (home ∷ letters) (slice_index_or classes home d)
