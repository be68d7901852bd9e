-- What the laws of this crate say.
-- Source: Gosset, Kliuchnikov, Mosca and Russo, An algorithm for the T-count, 2014, for words, channels and cosets; the laws on
-- spans, parities and divisions are this program's own.
use Rattle.std.specs.Prelude.{◌≡◌, ◌≢◌, ◌↔◌, ℕ, ◌+◌, ◌-◌, ◌^◌, ◌<◌, ◌≤◌, Bool, true, false, List, ◌∷◌, ◌++◌}
use Rattle.tc_ring.specs.Surds.{zero_surd}
use Rattle.pauli_basis.specs.Products.{product_code, commute}
use Rattle.channel_rep.specs.Tables.{SurdTable, ScaledTable, stepped, SameTable, IsBuiltOf, IsCircuitChannel}
use Rattle.channel_rep.specs.Rows.{rotated}
use Rattle.channel_rep.specs.Words.{IsWord}
use Rattle.coset_label.specs.Words.{word_steps, word_channel}
use Rattle.coset_label.specs.Labels.{HasOddEntry, HasLeastExponent}
use Rattle.coset_label.specs.Cosets.{SameCoset, SameCosetWords, IsSignedPermutationTable}
use Rattle.word_laws.specs.Divisions.{IsMultiple, IsDivisionCount, letter_step}
use Rattle.word_laws.specs.Parities.{WholesAgree, PartsAgree, CommutingEven}
use Rattle.word_laws.specs.Rests.{taken_off}
use Rattle.word_laws.specs.Spans.{IsInSpan, IsSubspace}

-- the span of codes holds 0, each of the codes, and the exclusive or of any two of its own
abbrev pub SpansAreSubspaces : Type 0
SpansAreSubspaces = (codes : List ℕ) → IsSubspace codes

-- the channel of a word is 0 where the exclusive or of row and column isn't in the span of its letters
abbrev pub ColumnsAreSparse : Type 0
ColumnsAreSparse = (n : ℕ) (word : List ℕ) → IsWord n word → (m : ScaledTable) → IsBuiltOf n (word_steps word) m
    → (row column : ℕ) → row < 4 ^ n → column < 4 ^ n → ¬ IsInSpan word (product_code row column) → m.table row column ≡ zero_surd

-- columns that are other than 0 in one row differ by a code of the span, so they lie in one of its blocks
abbrev pub ColumnsShareBlocks : Type 0
ColumnsShareBlocks = (n : ℕ) (word : List ℕ) → IsWord n word → (m : ScaledTable) → IsBuiltOf n (word_steps word) m
    → (row x y : ℕ) → row < 4 ^ n → x < 4 ^ n → y < 4 ^ n → m.table row x ≢ zero_surd → m.table row y ≢ zero_surd → IsInSpan word (product_code x y)

-- a rotation's product can be divided by √2 exactly where the whole parts have one parity in the pairs of rows that anticommute
abbrev pub RotationsDivideOnce : Type 0
RotationsDivideOnce = (n : ℕ) (inverse : Bool) (p : ℕ) (m : SurdTable) → IsMultiple n 1 (rotated n inverse p m) ↔ WholesAgree n p m

-- twice exactly where also the whole parts are even in the rows that commute, and the parts of √2 have one parity in the pairs
abbrev pub RotationsDivideTwice : Type 0
RotationsDivideTwice = (n : ℕ) (inverse : Bool) (p : ℕ) (m : SurdTable)
    → IsMultiple n 2 (rotated n inverse p m) ↔ (WholesAgree n p m × CommutingEven n p m × PartsAgree n p m)

-- and never three times, where the table before has an odd entry
abbrev pub RotationsDivideNoMore : Type 0
RotationsDivideNoMore = (n : ℕ) (inverse : Bool) (p : ℕ) → p < 4 ^ n → (m : ScaledTable) → HasOddEntry n m → ¬ IsMultiple n 3 (rotated n inverse p m.table)

-- a letter before a table, or its inverse, changes the least exponent by at most one
abbrev pub ExponentsStepByOne : Type 0
ExponentsStepByOne = (n : ℕ) (inverse : Bool) (p : ℕ) → p < 4 ^ n → p ≢ 0 → (a b : ScaledTable) → SameTable n b (stepped n (letter_step inverse p) a) → HasLeastExponent n a → HasLeastExponent n b
    → (b.exponent ≤ a.exponent + 1) × (a.exponent ≤ b.exponent + 1)

-- behind it the least exponent is the one before and 1, less the number of divisions, or 0 where these are more
abbrev pub DivisionsTellExponents : Type 0
DivisionsTellExponents = (n : ℕ) (inverse : Bool) (p : ℕ) → p < 4 ^ n → p ≢ 0 → (a b : ScaledTable) → SameTable n b (stepped n (letter_step inverse p) a) → HasLeastExponent n a
    → (count : ℕ) → IsDivisionCount n (rotated n inverse p a.table) count → HasLeastExponent n b ↔ (b.exponent ≡ a.exponent + 1 - count)

-- which of a circuit's channel they are not
abbrev pub DivisionsStayBelow : Type 0
DivisionsStayBelow = (n : ℕ) → 0 < n → n ≤ 3 → (inverse : Bool) (p : ℕ) → p < 4 ^ n → p ≢ 0 → (a : ScaledTable) → IsCircuitChannel n a
    → (count : ℕ) → IsDivisionCount n (rotated n inverse p a.table) count → count ≤ a.exponent + 1

-- rotations by letters that commute may be made in either order
abbrev pub RotationsExchange : Type 0
RotationsExchange = (n p q : ℕ) → commute n p q ≡ true → (m : SurdTable) (row column : ℕ) → rotated n false p (rotated n false q m) row column ≡ rotated n false q (rotated n false p m) row column

-- so neighbours that commute may change places in a word, and it stays in its coset
abbrev pub WordsExchange : Type 0
WordsExchange = (n p q : ℕ) (front back : List ℕ) → commute n p q ≡ true → IsWord n (p ∷ q ∷ back) → SameCosetWords n (front ++ p ∷ q ∷ back) (front ++ q ∷ p ∷ back)

-- a channel lies in a word's coset exactly where the word's inverse before it, with the least exponent, is a signed permutation
abbrev pub RestsTellCosets : Type 0
RestsTellCosets = (n : ℕ) → 0 < n → n ≤ 3 → (word : List ℕ) → IsWord n word → (m : ScaledTable) → IsCircuitChannel n m
    → (rest : ScaledTable) → SameTable n rest (taken_off n word m) → HasLeastExponent n rest
    → ((rest.exponent ≡ 0) × IsSignedPermutationTable n rest.table) ↔ SameCoset n m (word_channel n word)
