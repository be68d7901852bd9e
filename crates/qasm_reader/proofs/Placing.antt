-- Gates with qubits in place of the numbers of arguments: their T gates, and that they fit.
use Rattle.std.proofs.Common.{◌≡◌, ℕ, zero, suc, ◌+◌, ◌*◌, ◌<◌, ◌≤◌, ◌==◌, Bool, true, false, cond, Option, Some, None, List, [], ◌∷◌, ◌++◌, length, map, get_or, arith, ap, ◌∙◌, refl, length-append}
use Rattle.std.proofs.lemmas.List.{length-map}
use Rattle.std.specs.Prelude.{option_map}
use Rattle.std.specs.List.{flat_map}
use Rattle.tc_circuit.specs.declared.circuit.Gate.{Gate}
use Rattle.tc_circuit.specs.declared.circuit.Gate.TheVariants.{H, S, Sdg, T, Tdg, Cx}
use Rattle.tc_circuit.specs.Gate.{Fits, is_t}
use Rattle.tc_circuit.specs.Model.{IsCircuit, t_count_of}
use Rattle.tc_circuit.proofs.Counts.{t_of, t_count-cons, t_count-append}
use Rattle.qasm_reader.specs.State.{placed, gates_at}
use Rattle.qasm_reader.specs.Known.{Known}
use Rattle.qasm_reader.specs.View.{size_of, count_at}

-- a T gate stays one
is_t-placed : (qs : List ℕ) (g : Gate) → is_t (placed qs g) ≡ is_t g
is_t-placed qs (H a) = refl
is_t-placed qs (S a) = refl
is_t-placed qs (Sdg a) = refl
is_t-placed qs (T a) = refl
is_t-placed qs (Tdg a) = refl
is_t-placed qs (Cx a b) = refl

-- the T gates of placed gates
pub t_count-placed : (qs : List ℕ) (gs : List Gate) → t_count_of (map (placed qs) gs) ≡ t_count_of gs
t_count-placed qs [] = refl
t_count-placed qs (g ∷ gs) =
    let one : t_of (placed qs g) ≡ t_of g = ap (λ (b : Bool). cond b 1 0) (is_t-placed qs g) in
    omega (arith, t_count-cons (placed qs g) (map (placed qs) gs), t_count-cons g gs, one, t_count-placed qs gs)

-- the T gates of gates on each qubit
pub t_count-each : (gs : List Gate) (qs : List ℕ) → t_count_of (flat_map (λ q. map (placed (q ∷ [])) gs) qs) ≡ t_count_of gs * length qs
t_count-each gs [] = omega arith
t_count-each gs (q ∷ qs) =
    let front = t_count-placed (q ∷ []) gs in
    let more = t_count-each gs qs in
    let whole = t_count-append (map (placed (q ∷ [])) gs) (flat_map (λ q. map (placed (q ∷ [])) gs) qs) in
    omega (arith, front, more, whole)

-- a gate of a circuit fits
pub fits_at : (n : ℕ) (f : Gate → Gate) (gs : List Gate) (i : ℕ) (d : Gate) → IsCircuit n (map f gs) → i < length gs → Fits n (f (get_or gs i d))
fits_at n f [] i d c h = absurd (omega arith)
fits_at n f (g ∷ gs) zero d c h = c.0
fits_at n f (g ∷ gs) (suc i) d c h = fits_at n f gs i d c.1 (omega arith)

-- the parts of a circuit
circuit_parts : (n : ℕ) (gs more : List Gate) → IsCircuit n (gs ++ more) → IsCircuit n gs × IsCircuit n more
circuit_parts n [] more c = (tt, c)
circuit_parts n (g ∷ gs) more c = let p = circuit_parts n gs more c.1 in ((c.0, p.0), p.1)

-- the gates on one of the qubits
pub circuit_at : (n : ℕ) (gs : List Gate) (qs : List ℕ) (i : ℕ) → IsCircuit n (flat_map (λ q. map (placed (q ∷ [])) gs) qs) → i < length qs
    → IsCircuit n (map (placed (get_or qs i 0 ∷ [])) gs)
circuit_at n gs [] i c h = absurd (omega arith)
circuit_at n gs (q ∷ qs) zero c h = (circuit_parts n (map (placed (q ∷ [])) gs) _ c).0
circuit_at n gs (q ∷ qs) (suc i) c h = circuit_at n gs qs i (circuit_parts n (map (placed (q ∷ [])) gs) _ c).1 (omega arith)

-- so many gates on each qubit
length-each : (gs : List Gate) (qs : List ℕ) → length (flat_map (λ q. map (placed (q ∷ [])) gs) qs) ≡ length gs * length qs
length-each gs [] = omega arith
length-each gs (q ∷ qs) =
    let whole = length-append (map (placed (q ∷ [])) gs) (flat_map (λ q. map (placed (q ∷ [])) gs) qs) in
    omega (arith, whole, length-map gs (placed (q ∷ [])), length-each gs qs)

-- the T gates of a gate that may be known, by its size
pub t_count-at : (o : Option Known) (qs : List ℕ) → t_count_of (gates_at o qs) ≡ count_at (λ z. z.t_count) (option_map size_of o) (length qs)
t_count-at None qs = refl
t_count-at (Some g) qs = go (g.arity == 1)
  where
    go : (b : Bool) → t_count_of (cond b (flat_map (λ q. map (placed (q ∷ [])) g.gates) qs) (map (placed qs) g.gates)) ≡ cond b (t_count_of g.gates * length qs) (t_count_of g.gates)
    go true = t_count-each g.gates qs
    go false = t_count-placed qs g.gates

-- and all its gates
pub length-at : (o : Option Known) (qs : List ℕ) → length (gates_at o qs) ≡ count_at (λ z. z.length) (option_map size_of o) (length qs)
length-at None qs = refl
length-at (Some g) qs = go (g.arity == 1)
  where
    go : (b : Bool) → length (cond b (flat_map (λ q. map (placed (q ∷ [])) g.gates) qs) (map (placed qs) g.gates)) ≡ cond b (length g.gates * length qs) (length g.gates)
    go true = length-each g.gates qs
    go false = length-map g.gates (placed qs)

-- there are no more T gates than gates
pub t_count-few : (gs : List Gate) → t_count_of gs ≤ length gs
t_count-few [] = omega arith
t_count-few (g ∷ gs) =
    let one : t_of g ≤ 1 = go (is_t g) in
    omega (arith, t_count-cons g gs, t_count-few gs, one)
  where
    go : (b : Bool) → cond b 1 0 ≤ 1
    go true = omega arith
    go false = omega arith
