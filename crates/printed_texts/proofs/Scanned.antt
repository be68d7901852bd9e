-- What the scan makes of statements, one after another.
use Rattle.std.proofs.Common.{◌≡◌, ℕ, List, ◌∷◌, ◌++◌, Option, Some, Ok, ap, ◌∙◌, sym}
use Rattle.tc_circuit.specs.declared.circuit.Gate.{Gate}
use Rattle.qasm_reader.specs.Lexemes.{Lexeme, statements}
use Rattle.qasm_reader.specs.Forms.{Form, IsForm}
use Rattle.qasm_reader.specs.State.{State, after}
use Rattle.qasm_reader.specs.Rows.{Statement}
use Rattle.qasm_reader.specs.Within.{MeetsNoRow}
use Rattle.qasm_reader.specs.Read.{place_of, AreStatements, refused_or, scan}

-- from this state on no row applies to a statement of the lexemes, and behind all of them these are the qubits and the gates
pub record Reaches (n : ℕ) (gates : List Gate) (s : State) (ws : List Lexeme) : Type 0 where
  pub list : List Statement
  pub are : AreStatements ws list
  pub state : State
  pub unrefused : scan s list ≡ Ok state
  pub qubits : state.qubits ≡ n
  pub same : state.gates ≡ gates

-- a statement that is taken, and those behind it
pub one_more : (n : ℕ) (gates : List Gate) (s t : State) (first ws : List Lexeme) (f : Form) → statements (first ++ ws) ≡ first ∷ statements ws
    → IsForm first f → MeetsNoRow s first f → after s (Some f) ≡ t → Reaches n gates t ws → Reaches n gates s (first ++ ws)
one_more n gates s t first ws f cut form taken next h = record {
  list = record { lexemes = first; form = Some f } ∷ h.list;
  are = record { cut = ap (λ (l : List (List Lexeme)). first ∷ l) h.are.cut ∙ sym cut; forms = (form, h.are.forms) };
  state = h.state;
  unrefused = ap (λ (o : Option _). refused_or o (place_of 0 first) (scan (after s (Some f)) h.list)) taken
      ∙ ap (λ (u : State). scan u h.list) next
      ∙ h.unrefused;
  qubits = h.qubits;
  same = h.same;
}
