-- What callers see of a source or a sink over a stream of std.
use Rattle.std.specs.Prelude.{ℕ, List}
use Rattle.std.specs.declared.option.Option.{Option}

pub record Edge : Type 0 where
  -- how many calls failed
  pub faults : ℕ
  -- what the stream tells of its bytes: of a reader those to come, of a writer those that it holds
  pub bytes : Option (List ℕ)
