-- The pieces that a definition is made of, and the gates that they stand for.
use Rattle.std.specs.Prelude.{◌≡◌, ℕ, ◌+◌, ◌-◌, ◌*◌, ◌<◌, ◌≤◌, ◌==◌, List, [], ◌∷◌, ◌++◌, length, map, reverse, get_or, Option, Some, None, slice_index, if◌then◌else◌}
use Rattle.std.specs.List.{AllByRecursion, flat_map}
use Rattle.tc_circuit.specs.declared.circuit.Gate.{Gate}
use Rattle.tc_circuit.specs.declared.circuit.Gate.TheVariants.{H, S, Sdg, T, Tdg, Cx}
use Rattle.qasm_reader.specs.declared.pieces.Places.{Places}
use Rattle.qasm_reader.specs.declared.pieces.Piece.{Piece}
use Rattle.qasm_reader.specs.declared.pieces.Piece.TheVariants.{One, Call}
use Rattle.qasm_reader.specs.declared.pieces.Source.{Source}
use Rattle.qasm_reader.specs.declared.pieces.Source.TheVariants.{Listed, Defined as DefinedAt}
use Rattle.qasm_reader.specs.declared.scan.Defined.{Defined}
use Rattle.qasm_reader.specs.Known.{Known}
use Rattle.qasm_reader.specs.Limits.{most_qubits}

-- the place that stands for the number of an argument
abbrev pub place_at : Places → ℕ → ℕ
place_at ps a = if a == 0 then ps.first else if a == 1 then ps.second else ps.third

-- the gate with places in place of the numbers of the arguments
abbrev pub image : Places → Gate → Gate
image ps (H a) = H (place_at ps a)
image ps (S a) = S (place_at ps a)
image ps (Sdg a) = Sdg (place_at ps a)
image ps (T a) = T (place_at ps a)
image ps (Tdg a) = Tdg (place_at ps a)
image ps (Cx a b) = Cx (place_at ps a) (place_at ps b)

-- the places behind the inner places
abbrev pub composite : Places → Places → Places
composite outer inner = record { first = place_at outer inner.first; second = place_at outer inner.second; third = place_at outer inner.third }

abbrev pub piece_image : Places → Piece → Piece
piece_image ps (One g) = One (image ps g)
piece_image ps (Call place inner) = Call place (composite ps inner)

-- the first three numbers, as places
abbrev pub places_of : List ℕ → Places
places_of qs = record { first = slice_index qs 0; second = slice_index qs 1; third = slice_index qs 2 }

-- a gate that stands for nothing
abbrev pub nothing : Known
nothing = record { arity = 0; gates = [] }

-- the gate at a place among the defined gates
abbrev pub meaning : List Known → ℕ → Known
meaning gs place = get_or gs place nothing

-- the gates that a piece stands for, where these are the defined gates
abbrev pub piece_gates : List Known → Piece → List Gate
piece_gates gs (One g) = g ∷ []
piece_gates gs (Call place ps) = map (image ps) (meaning gs place).gates

abbrev pub gates_of_pieces : List Known → List Piece → List Gate
gates_of_pieces gs pieces = flat_map (piece_gates gs) pieces

-- the definition at the place is there, takes few arguments, is made of two pieces or more, and has a gate
pub record IsCallable (gs : List Known) (ds : List Defined) (place : ℕ) : Type 0 where
  pub within : place < length ds
  pub narrow : (meaning gs place).arity ≤ most_qubits
  pub pieces : (d : Defined) → 2 ≤ length (get_or ds place d).pieces.items
  pub some : 0 < length (meaning gs place).gates

abbrev pub IsSound : List Known → List Defined → Piece → Type 0
IsSound gs ds (One g) = Unit {0}
IsSound gs ds (Call place ps) = IsCallable gs ds place

abbrev pub AreSound : List Known → List Defined → List Piece → Type 0
AreSound gs ds pieces = AllByRecursion (IsSound gs ds) pieces

-- the definition's pieces are sound and, where it takes few arguments, stand for the gates of the gate at the place
pub record IsMade (gs : List Known) (ds : List Defined) (place : ℕ) (d : Defined) : Type 0 where
  pub sound : AreSound gs ds d.pieces.items
  pub gates : (meaning gs place).arity ≤ most_qubits → gates_of_pieces gs d.pieces.items ≡ (meaning gs place).gates

-- pieces that stand for the gates were added, and they are sound
pub record Adds (gs : List Known) (ds : List Defined) (old : List Piece) (added : List Gate) (new : List Piece) : Type 0 where
  pub more : List Piece
  pub items : new ≡ old ++ more
  pub gates : gates_of_pieces gs more ≡ added
  pub sound : AreSound gs ds more

-- how many steps pieces take to be written at most
abbrev pub weight : List Known → List Piece → ℕ
weight gs [] = 0
weight gs (p ∷ ps) = (2 * length (piece_gates gs p) - 1) + weight gs ps

-- one step: the piece's gates are written, or sound pieces that take fewer steps are to be written in its place
pub record IsStep (gs : List Known) (ds : List Defined) (piece : Piece) (gates : List Gate) (todo : List Piece) (new_gates : List Gate) (new_todo : List Piece) : Type 0 where
  pub more : List Piece
  pub waiting : reverse new_todo ≡ more ++ reverse todo
  pub written : new_gates ++ gates_of_pieces gs more ≡ gates ++ piece_gates gs piece
  pub sound : AreSound gs ds more
  pub less : weight gs more + 1 ≤ weight gs (piece ∷ [])

-- the gates of a source
abbrev pub source_gates : List Known → Source → List Gate
source_gates gs (Listed gates) = gates.now
source_gates gs (DefinedAt place) = (meaning gs place).gates

-- a definition that is a source is there, and takes few arguments
abbrev pub IsNarrow : List Known → List Defined → Source → Type 0
IsNarrow gs ds (Listed gates) = Unit {0}
IsNarrow gs ds (DefinedAt place) = (place < length ds) × ((meaning gs place).arity ≤ most_qubits)

-- the gates that a known gate stands for
abbrev pub gates_of : Option Known → List Gate
gates_of None = []
gates_of (Some g) = g.gates

-- it is the source of the gate, if this is known
abbrev pub IsSource : List Known → List Defined → Option Known → Source → Type 0
IsSource gs ds o (Listed gates) = gates.now ≡ gates_of o
IsSource gs ds o (DefinedAt place) = (place < length ds) × (o ≡ Some (meaning gs place))
