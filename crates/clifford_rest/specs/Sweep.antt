-- The sweep that undoes a Clifford operator, qubit by qubit: gates are put behind the operator until it takes X and Z on
-- each qubit to themselves. Source: Aaronson and Gottesman, Improved simulation of stabilizer circuits, 2004, section VI,
-- which brings a tableau to the identity's; the order of the gates is this program's own.
use Rattle.std.specs.Prelude.{ℕ, zero, suc, ◌+◌, ◌-◌, ◌*◌, ◌^◌, ◌==◌, Bool, true, false, not, ◌&&◌, Option, Some, None, List, [], ◌∷◌, ◌++◌, if◌then◌else◌}
use Rattle.pauli_basis.specs.Letters.{letter_of}
use Rattle.pauli_basis.specs.Products.{Signed}
use Rattle.channel_rep.specs.Conjugations.{conjugated, conjugated_by}
use Rattle.channel_rep.specs.declared.gate.ChannelGate.{ChannelGate}
use Rattle.channel_rep.specs.declared.gate.ChannelGate.TheVariants.{H, Sdg, Cx}

-- ---- the sweep of one qubit
-- A and B, what the operator makes of X and Z on the qubit, and the gates undone so far, the first undone first
pub record Sweep : Type 0 where
  pub a : Signed
  pub b : Signed
  pub gates : List ChannelGate

-- a gate behind the operator
abbrev pub undo : ℕ → ChannelGate → Sweep → Sweep
undo n g s = record { a = conjugated n g s.a; b = conjugated n g s.b; gates = s.gates ++ (g ∷ []) }

abbrev pub undo_if : Bool → ℕ → ChannelGate → Sweep → Sweep
undo_if true n g s = undo n g s
undo_if false n g s = s

-- a step at each of `count` qubits from the qubit `first` on, in rising order
abbrev pub each : (ℕ → Sweep → Sweep) → ℕ → ℕ → Sweep → Sweep
each step first zero s = s
each step first (suc count) s = step (first + count) (each step first count s)

-- whether a Pauli has this letter on qubit j: I = 0, X = 1, Y = 2, Z = 3
abbrev pub has_letter : ℕ → ℕ → Signed → Bool
has_letter letter j p = letter_of j p.code == letter

-- the letter of A on qubit j becomes I or X: h takes Z to X, sdg takes Y to X
abbrev pub clear_a : ℕ → ℕ → Sweep → Sweep
clear_a n j s =
    let z = undo_if (has_letter 3 j s.a) n (H j) s in
    undo_if (has_letter 2 j z.a) n (Sdg j) z

-- the first of the qubits from `first` on, `count` of them, on which p has X
abbrev pub first_x : ℕ → ℕ → Signed → Option ℕ
first_x first zero p = None
first_x first (suc count) p = if has_letter 1 first p then Some first else first_x (suc first) count p

-- X from another qubit onto q, where there is one
abbrev pub fetch_x : ℕ → ℕ → Option ℕ → Sweep → Sweep
fetch_x n q None s = s
fetch_x n q (Some j) s = undo n (Cx j q) s

-- A has X on q: the lowest qubit above with X gives it, where A has I there
abbrev pub put_x : ℕ → ℕ → Sweep → Sweep
put_x n q s = if has_letter 0 q s.a then fetch_x n q (first_x (suc q) (n - suc q) s.a) s else s

-- X on j goes from A, or from B, by cx from q
abbrev pub drop_a : ℕ → ℕ → ℕ → Sweep → Sweep
drop_a n q j s = undo_if (has_letter 1 j s.a) n (Cx q j) s

abbrev pub drop_b : ℕ → ℕ → ℕ → Sweep → Sweep
drop_b n q j s = undo_if (has_letter 1 j s.b) n (Cx q j) s

-- the letter of B on qubit j becomes I or X, but Z on q stays
abbrev pub clear_b : ℕ → ℕ → ℕ → Sweep → Sweep
clear_b n q j s =
    let y = undo_if (has_letter 2 j s.b) n (Sdg j) s in
    undo_if (has_letter 3 j y.b && not (j == q)) n (H j) y

-- A becomes X on q up to its sign
abbrev pub sweep_a : ℕ → ℕ → Sweep → Sweep
sweep_a n q s = each (drop_a n q) (suc q) (n - suc q) (put_x n q (each (clear_a n) q (n - q) s))

-- B becomes Z on q up to its sign, with h on q before and behind, which keep A
abbrev pub sweep_b : ℕ → ℕ → Sweep → Sweep
sweep_b n q s =
    if s.b.code == 3 * 4 ^ q then s else
    undo n (H q) (each (drop_b n q) (suc q) (n - suc q) (each (clear_b n q) q (n - q) (undo n (H q) s)))

-- z turns the sign of X
abbrev pub sign_a : ℕ → ℕ → Sweep → Sweep
sign_a n q s = if s.a.is_negative then undo n (Sdg q) (undo n (Sdg q) s) else s

-- x turns the sign of Z
abbrev pub sign_b : ℕ → ℕ → Sweep → Sweep
sign_b n q s = if s.b.is_negative then undo n (H q) (undo n (Sdg q) (undo n (Sdg q) (undo n (H q) s))) else s

abbrev pub sweep : ℕ → ℕ → Sweep → Sweep
sweep n q s = sign_b n q (sign_a n q (sweep_b n q (sweep_a n q s)))

-- the gates that the sweep of qubit q undoes, where the operator makes a of X and b of Z on q
abbrev pub qubit_gates : ℕ → ℕ → Signed → Signed → List ChannelGate
qubit_gates n q a b = (sweep n q (record { a = a; b = b; gates = [] })).gates

-- ---- all qubits
-- the gates that undo the qubits below `count`, where the operator makes `made p` of the code p: each qubit's sweep begins
-- with what the gates before it make of the images of X and Z on it
unfoldable pub undo_list : ℕ → (ℕ → Signed) → ℕ → List ChannelGate
undo_list n made zero = []
undo_list n made (suc q) =
    let gates = undo_list n made q in
    gates ++ qubit_gates n q (conjugated_by n gates (made (4 ^ q))) (conjugated_by n gates (made (3 * 4 ^ q)))
