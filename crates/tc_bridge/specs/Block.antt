-- The block of a letter: a circuit of R(P) with one T gate. Clifford gates take P to Z on the highest qubit that P touches, t
-- stands there, and the Clifford gates are undone: R(V†·Z·V) = V†·R(Z)·V.
-- Source: Gosset, Kliuchnikov, Mosca and Russo, An algorithm for the T-count, 2014, section 2.2; the order of the gates is
-- this program's own.
use Rattle.std.specs.Prelude.{◌≡◌, ℕ, zero, suc, ◌+◌, ◌==◌, ◌||◌, if◌then◌else◌, List, [], ◌∷◌, ◌++◌, length, vec_len, vec_capacity}
use Rattle.std.specs.declared.vec.Vec.{Vec}
use Rattle.std.specs.declared.alloc.Global.{Global}
use Rattle.tc_circuit.specs.declared.circuit.Gate.{Gate}
use Rattle.channel_rep.specs.declared.gate.ChannelGate.{ChannelGate}
use Rattle.channel_rep.specs.declared.gate.ChannelGate.TheVariants.{H, S, Sdg, Cx}
use Rattle.pauli_basis.specs.Letters.{letter_of}

-- a Clifford gate as a gate of a circuit
abbrev pub as_gate : ChannelGate → Gate
as_gate (H q) = Gate.H q
as_gate (S q) = Gate.S q
as_gate (Sdg q) = Gate.Sdg q
as_gate (Cx control target) = Gate.Cx control target

-- a list of them
abbrev pub as_gates : List ChannelGate → List Gate
as_gates [] = []
as_gates (g ∷ gates) = as_gate g ∷ as_gates gates

-- h and cx undo themselves, and s and sdg each other
abbrev pub inverse_gate : ChannelGate → ChannelGate
inverse_gate (H q) = H q
inverse_gate (S q) = Sdg q
inverse_gate (Sdg q) = S q
inverse_gate (Cx control target) = Cx control target

-- the inverses in reverse order
abbrev pub undone : List ChannelGate → List ChannelGate
undone [] = []
undone (g ∷ gates) = undone gates ++ (inverse_gate g ∷ [])

-- what takes a letter on qubit q to Z: h for X, and sdg and then h for Y
abbrev pub letter_to_z : ℕ → ℕ → List ChannelGate
letter_to_z q zero = []
letter_to_z q (suc zero) = H q ∷ []
letter_to_z q (suc (suc zero)) = Sdg q ∷ H q ∷ []
letter_to_z q (suc (suc (suc _))) = []

-- the same for the letter that p has there
abbrev pub to_z : ℕ → ℕ → List ChannelGate
to_z p q = letter_to_z q (letter_of q p)

-- the highest of the qubits below `count` that p touches, whose letter isn't I
abbrev pub highest : ℕ → ℕ → ℕ
highest zero p = 0
highest (suc q) p = if letter_of q p == 0 then highest q p else q

-- cx from qubit q onto z, where p touches q and q isn't z
abbrev pub gather : ℕ → ℕ → ℕ → List ChannelGate
gather z p q = if (letter_of q p == 0) || (q == z) then [] else (Cx q z ∷ [])

-- the gates for each of `count` qubits from q on, in rising order
abbrev pub rising : (ℕ → List ChannelGate) → ℕ → ℕ → List ChannelGate
rising f zero q = []
rising f (suc count) q = f q ++ rising f count (suc q)

-- V: what takes p to Z on its highest qubit
abbrev pub opening : ℕ → ℕ → List ChannelGate
opening n p = rising (to_z p) n 0 ++ rising (gather (highest n p) p) n 0

-- the Clifford gates, one gate, and the Clifford gates undone
abbrev pub conjugated_gates : List ChannelGate → Gate → List Gate
conjugated_gates gates center = as_gates gates ++ (center ∷ as_gates (undone gates))

-- the block of p
abbrev pub block : ℕ → ℕ → List Gate
block n p = conjugated_gates (opening n p) (Gate.T (highest n p))

-- the blocks of a word, the last letter's first, so that the matrix is R(P1)· .. ·R(Pt)
abbrev pub word_gates : ℕ → List ℕ → List Gate
word_gates n [] = []
word_gates n (p ∷ word) = word_gates n word ++ block n p

-- the vector has these gates behind its others, in the memory that it had
pub record Appends (old new : Vec Gate Global) (gates : List Gate) : Type 0 where
  pub items : new.items ≡ old.items ++ gates
  pub len : vec_len new ≡ vec_len old + length gates
  pub capacity : vec_capacity new ≡ vec_capacity old
