-- What a worker holds while it fills a table.
use Rattle.std.specs.Prelude.{◌≡◌, ℕ}
use Rattle.level_store.specs.declared.hand.Hand.{Hand}

-- a word on n qubits, and room for a label and a channel
pub record IsHand (n : ℕ) (h : Hand) : Type 0 where
  pub label : h.label.qubits ≡ n
  pub room : h.room.qubits ≡ n
  pub suffix : h.suffix.qubits ≡ n
