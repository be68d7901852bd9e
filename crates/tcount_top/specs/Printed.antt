-- The circuit that is printed for a circuit: of all circuits with its least T-count one that its channel alone determines.
-- Source: Gosset, Kliuchnikov, Mosca and Russo, An algorithm for the T-count, 2014, for the word and the rest; which word
-- and which rest is this project's own.
use Rattle.std.specs.Prelude.{◌≡◌, ℕ, List, ◌++◌, map}
use Rattle.tc_circuit.specs.Circuit.{Gates}
use Rattle.tc_circuit.specs.declared.circuit.Gate.{Gate}
use Rattle.pauli_basis.specs.Pauli.{PauliString, pauli_text}
use Rattle.channel_rep.specs.Cells.{ChannelGrid, scaled, IsChannelGrid, IsReduced}
use Rattle.channel_rep.specs.Tables.{ScaledTable, SameTable, IsBuiltOf}
use Rattle.tc_bridge.specs.Block.{word_gates}
use Rattle.tc_bridge.specs.Steps.{steps_of}
use Rattle.clifford_rest.specs.Rest.{rest_of}
use Rattle.circuit_writer.specs.Shown.{shown}
use Rattle.level_laws.specs.Levels.{IsLeastWord, removed}

-- the codes of letters
abbrev pub codes_of : List PauliString → List ℕ
codes_of letters = map (λ (p : PauliString). p.code) letters

-- the texts of the letters of a word on n qubits
abbrev pub word_texts : ℕ → List ℕ → List (List ℕ)
word_texts n word = map (pauli_text n) word

-- what is left of a channel on n qubits without a word: R(w)⁻¹ times it, as a grid with the least exponent of √2
pub record IsLeft (n : ℕ) (channel : ScaledTable) (word : List ℕ) (left : ChannelGrid) : Type 0 where
  pub qubits : left.qubits ≡ n
  pub grid : IsChannelGrid left
  pub reduced : IsReduced left
  pub table : SameTable n (scaled left) (removed n channel word)

-- the word is the least word of c's channel; and d is the rest, which is a circuit without T gates for what is left of the
-- channel without the word, with the blocks of the word's letters behind it, from the last letter to the first
pub record IsRestThenWord (c : Gates) (word : List ℕ) (d : List Gate) : Type 0 where
  pub channel : ScaledTable
  pub built : IsBuiltOf c.qubits (steps_of c.gates) channel
  pub least : IsLeastWord c.qubits channel word
  pub left : ChannelGrid
  pub is_left : IsLeft c.qubits channel word left
  pub gates : d ≡ rest_of left ++ word_gates c.qubits word

-- the bytes are the print of this circuit, with this word's letters
pub record IsPrinted (c : Gates) (bytes : List ℕ) : Type 0 where
  pub word : List ℕ
  pub gates : List Gate
  pub is : IsRestThenWord c word gates
  pub shows : bytes ≡ shown c.qubits gates (word_texts c.qubits word)
