-- What the seats of the best word know, and the rule that the word keeps.
use Rattle.std.specs.Prelude.{◌≡◌, ℕ, ◌<◌, ◌≤◌, ◌⊎◌, min, List, [], ◌∷◌, length, slice_index, sum_by, Contains}
use mathlib.Core.Option.{some}
use lib.ListN.{get_elem?}
use Rattle.atomic_table.specs.Table.{State, Me, Step}
use Rattle.steal_sweep.specs.declared.rule.Known.{Known}

-- what a seat with these parts knows, put and has seen
abbrev pub known : ℕ → ℕ → List ℕ → List ℕ → Known
known parts least put seen = record { parts = parts; least = least; put = put; seen = seen }

-- the word before anything was put, 2^64 − 1
abbrev pub none_yet : ℕ
none_yet = 18446744073709551615

-- the parts of all seats
abbrev pub all_parts : List Known → ℕ
all_parts views = sum_by (λ v. v.parts) views

-- nothing was put yet, or a seat put the word
abbrev pub WasPut : List Known → ℕ → Type 0
WasPut views word = (word ≡ none_yet) ⊎ ((seat : ℕ) × (v : Known) × (get_elem? views seat ≡ some v) × Contains v.put word)

-- a seat that has a part knows a number that the word isn't above; one without a part was spent in a join
pub record Bounds (word : ℕ) (v : Known) : Type 0 where
  pub least : 0 < v.parts → word ≤ v.least
  pub spent : v.parts ≡ 0 → v.put ≡ []

-- the rule of the best word, for eight parts
pub record Leads (s : State (Unit {0}) Known) : Type 0 where
  pub one : length s.words ≡ 1
  pub parts : all_parts s.views ≡ 8
  pub bounds : (seat : ℕ) (v : Known) → get_elem? s.views seat ≡ some v → Bounds (slice_index s.words 0) v
  pub source : WasPut s.views (slice_index s.words 0)

-- what a step tells of the seat before it, the word found and the seat after it
abbrev pub Told : Type 1
Told = Step (Unit {0}) → Me (Unit {0}) Known → ℕ → Me (Unit {0}) Known → Type 0

-- a load found a number that isn't above what the seat knew; the seat knows it now, and has seen it last
abbrev pub Looked : Told
Looked st m found m' = (m'.1 ≡ m.1) × (found ≤ m.0.least) × (m'.0 ≡ known m.0.parts found m.0.put (found ∷ m.0.seen))

-- the word is now the lesser of the number found and the position, which the seat has put; it has seen nothing more
abbrev pub PutThere : Told
PutThere st m found m' = (m'.1 ≡ m.1) × (found ≤ m.0.least) × (m'.0 ≡ known m.0.parts (min found st.first) (st.first ∷ m.0.put) m.0.seen)
