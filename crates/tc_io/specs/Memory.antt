-- What callers see of the source and the sink that live in memory.
use Rattle.std.specs.Prelude.{◌≡◌, ℕ, ◌-◌, ◌<◌, min, ◌⊎◌, List, length, Contains}
use Rattle.tc_io.specs.Fault.{counted}

-- a source in memory
pub record HeldSource : Type 0 where
  -- the bytes that are still to come
  pub left : List ℕ
  -- the most bytes that one call gives
  pub most : ℕ
  -- the numbers of the calls that fail, the first call being number 1
  pub failing : List ℕ
  -- the number of the last call
  pub calls : ℕ
  -- how many calls failed
  pub faults : ℕ

-- how many bytes a call that doesn't fail gives into a buffer of this length
abbrev pub given_count : HeldSource → ℕ → ℕ
given_count s room = min (min s.most room) (length s.left)

-- the next call fails: its number is listed
abbrev pub ReadFails : HeldSource → Type 0
ReadFails s = Contains s.failing (counted s.calls)

-- a sink in memory
pub record HeldSink : Type 0 where
  -- the bytes that were written
  pub written : List ℕ
  -- how many bytes it takes in all
  pub room : ℕ
  -- the most bytes that one call takes
  pub most : ℕ
  -- the numbers of the calls that fail, the first call being number 1
  pub failing : List ℕ
  -- the number of the last call
  pub calls : ℕ
  -- how many calls failed
  pub faults : ℕ

-- how many bytes of a piece of this length a call that doesn't fail takes
abbrev pub taken_count : HeldSink → ℕ → ℕ
taken_count s piece = min (min s.most piece) (s.room - length s.written)

-- the next call fails on a piece: its number is listed, or the piece has bytes and no room is left
abbrev pub WriteFails : HeldSink → List ℕ → Type 0
WriteFails s piece = Contains s.failing (counted s.calls) ⊎ ((0 < length piece) × (length s.written ≡ s.room))
