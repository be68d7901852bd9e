-- What reading and writing as a whole do to the bytes of a source and a sink.
use Rattle.std.specs.Prelude.{◌≡◌, ℕ, ◌<◌, ◌≤◌, List, length, take}
use Rattle.std.specs.declared.option.Option.{Option}
use Rattle.std.specs.Io.KnownBytes.{Consumes, Appends, IsAtEnd}

-- the source held these bytes, at most `limit` of them, and all are read
pub record ReadsAll (limit : ℕ) (old new : Option (List ℕ)) (bytes : List ℕ) : Type 0 where
  pub short : length bytes ≤ limit
  pub gone : Consumes old new bytes
  pub ended : IsAtEnd new

-- this many bytes were taken from the front of the source, and no more
pub record TakesFront (count : ℕ) (old new : Option (List ℕ)) : Type 0 where
  pub taken : List ℕ
  pub exact : length taken ≡ count
  pub gone : Consumes old new taken

-- at most `limit` bytes were taken from the front of the source
pub record TakesAtMost (limit : ℕ) (old new : Option (List ℕ)) : Type 0 where
  pub count : ℕ
  pub short : count ≤ limit
  pub front : TakesFront count old new

-- a part of the bytes was appended to the sink, from their front and short of their end
pub record AppendsPart (old new : Option (List ℕ)) (bytes : List ℕ) : Type 0 where
  pub count : ℕ
  pub part : count < length bytes
  pub gone : Appends old new (take count bytes)
