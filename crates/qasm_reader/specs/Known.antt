-- The gates that a text may name, as one table, and those of an angle. Names and meanings are those of `qelib1.inc` of OpenQASM
-- 2.0, up to global phase, and ccx is its very list of gates; `swap` is known whether a version of that file has it or not.
use Rattle.std.specs.Prelude.{ℕ, List, [], ◌∷◌, ◌++◌, ◌==◌, Option, Some, None, codes, cond, if◌then◌else◌}
use Rattle.std.specs.Str.{bytes_eq}
use Rattle.tc_circuit.specs.declared.circuit.Gate.{Gate}
use Rattle.tc_circuit.specs.declared.circuit.Gate.TheVariants.{H, S, Sdg, T, Tdg, Cx}
use Rattle.qasm_angle.specs.declared.angles.AngleValue.{AngleValue}
use Rattle.qasm_angle.specs.declared.angles.AngleValue.TheVariants.{Eighths, Inexact, NotAngle}

-- how many arguments a gate takes, and the gates that it stands for, whose qubits are the numbers of its arguments
pub record Known : Type 0 where
  pub arity : ℕ
  pub gates : List Gate

abbrev pub on_one : List Gate → Known
on_one gates = record { arity = 1; gates = gates }

abbrev pub on_two : List Gate → Known
on_two gates = record { arity = 2; gates = gates }

abbrev pub on_three : List Gate → Known
on_three gates = record { arity = 3; gates = gates }

-- the value beside the name
abbrev pub look_up : {A : Type 0} → List (List ℕ × A) → List ℕ → Option A
look_up [] name = None
look_up (e ∷ es) name = cond (bytes_eq name e.0) (Some e.1) (look_up es name)

-- the gates of ccx
abbrev pub toffoli : List Gate
toffoli = H 2 ∷ Cx 1 2 ∷ Tdg 2 ∷ Cx 0 2 ∷ T 2 ∷ Cx 1 2 ∷ Tdg 2 ∷ Cx 0 2 ∷ T 1 ∷ T 2 ∷ H 2 ∷ Cx 0 1 ∷ T 0 ∷ Tdg 1 ∷ Cx 0 1 ∷ []

-- each name with its gates, in order of application
abbrev pub table : List (List ℕ × Known)
table =
    (codes "h", on_one (H 0 ∷ []))
    ∷ (codes "s", on_one (S 0 ∷ []))
    ∷ (codes "sdg", on_one (Sdg 0 ∷ []))
    ∷ (codes "t", on_one (T 0 ∷ []))
    ∷ (codes "tdg", on_one (Tdg 0 ∷ []))
    ∷ (codes "id", on_one [])
    ∷ (codes "x", on_one (H 0 ∷ S 0 ∷ S 0 ∷ H 0 ∷ []))
    ∷ (codes "z", on_one (S 0 ∷ S 0 ∷ []))
    ∷ (codes "y", on_one (S 0 ∷ S 0 ∷ H 0 ∷ S 0 ∷ S 0 ∷ H 0 ∷ []))
    ∷ (codes "cx", on_two (Cx 0 1 ∷ []))
    ∷ (codes "cz", on_two (H 1 ∷ Cx 0 1 ∷ H 1 ∷ []))
    ∷ (codes "swap", on_two (Cx 0 1 ∷ Cx 1 0 ∷ Cx 0 1 ∷ []))
    ∷ (codes "ccx", on_three toffoli)
    ∷ (codes "ch", on_two (S 1 ∷ H 1 ∷ T 1 ∷ Cx 0 1 ∷ Tdg 1 ∷ H 1 ∷ Sdg 1 ∷ []))
    ∷ (codes "cy", on_two (Sdg 1 ∷ Cx 0 1 ∷ S 1 ∷ []))
    ∷ (codes "cswap", on_three (Cx 2 1 ∷ toffoli ++ Cx 2 1 ∷ []))
    ∷ []

unfoldable pub known : List ℕ → Option Known
known name = look_up table name

-- the gates of diag(1, ω^j), where ω is e^(iπ/4), for j from 0 to 7
abbrev pub turn : ℕ → List Gate
turn j =
    if j == 1 then T 0 ∷ []
    else if j == 2 then S 0 ∷ []
    else if j == 3 then S 0 ∷ T 0 ∷ []
    else if j == 4 then S 0 ∷ S 0 ∷ []
    else if j == 5 then S 0 ∷ S 0 ∷ T 0 ∷ []
    else if j == 6 then Sdg 0 ∷ []
    else if j == 7 then Tdg 0 ∷ []
    else []

-- the gate of an angle: that of its eighths where it is exact, and else none
abbrev pub turned : AngleValue → Option Known
turned (Eighths j) = Some (on_one (turn j))
turned Inexact = None
turned NotAngle = None
