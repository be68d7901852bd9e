-- Lists of gates, one more at a time.
use Rattle.std.proofs.Common.{◌≡◌, ℕ, suc, ◌+◌, ◌-◌, ◌<◌, ◌≤◌, List, [], ◌∷◌, ◌++◌, length, get_or, take, drop, ap, sym, ◌∙◌, add-one, arith}
use Rattle.std.proofs.Math.Seq.{drop-cons}
use Rattle.std.proofs.lemmas.List.{take_more, take_all}
use Rattle.pauli_basis.specs.Products.{Signed}
use Rattle.tc_circuit.specs.declared.circuit.Gate.{Gate}
use Rattle.channel_rep.specs.Cells.{ChannelGrid, table_of}
use Rattle.channel_rep.specs.declared.gate.ChannelGate.{ChannelGate}
use Rattle.tc_bridge.specs.Block.{as_gate, as_gates, inverse_gate, undone}
use Rattle.tc_bridge.proofs.Conjugations.{as_gates-append}
use Rattle.clifford_rest.specs.Rest.{sent_to, undo_gates, rest_of}
use Rattle.clifford_rest.specs.State.{gates_behind}
use Rattle.channel_rep.specs.Conjugations.{conjugated, conjugated_by}
use Rattle.clifford_rest.specs.Sweep.{undo_list}
use Rattle.channel_rep.proofs.Conjugated.{conjugated_by-append}

-- one qubit more
pub undo_list_more : (c : ChannelGrid) (q : ℕ) (gates now more new : List ChannelGate) → gates ≡ undo_list c.qubits (sent_to c.qubits (table_of c)) q → now ≡ gates → more ≡ gates_behind c now q → new ≡ gates ++ more
    → new ≡ undo_list c.qubits (sent_to c.qubits (table_of c)) (q + 1)
unfolding undo_list
undo_list_more c q gates now more new e d f g =
    g ∙ (λ i. e i ++ (f ∙ ap (λ (x : List ChannelGate). gates_behind c x q) (d ∙ e)) i) ∙ ap (undo_list c.qubits (sent_to c.qubits (table_of c))) (sym (add-one q))

-- one place before
pub reversed_more : (gates : List ChannelGate) (place : ℕ) (d : ChannelGate) (inverse : Gate) (done new : List Gate) → 0 < place → place ≤ length gates → inverse ≡ as_gate (inverse_gate (get_or gates (place - 1) d))
    → done ≡ as_gates (undone (drop place gates)) → new ≡ done ++ (inverse ∷ []) → new ≡ as_gates (undone (drop (place - 1) gates))
reversed_more gates place d inverse done new some low e f g =
    let here = get_or gates (place - 1) d in
    let next : suc (place - 1) ≡ place = omega arith in
    let within : place - 1 < length gates = omega arith in
    let front : drop (place - 1) gates ≡ here ∷ drop place gates = drop-cons gates (place - 1) d within ∙ ap (λ (k : ℕ). here ∷ drop k gates) next in
    g ∙ (λ i. f i ++ (e i ∷ [])) ∙ sym (as_gates-append (undone (drop place gates)) (inverse_gate here ∷ [])) ∙ ap (λ (x : List ChannelGate). as_gates (undone x)) (sym front)

-- one gate more
pub conjugated_by_more : (n : ℕ) (gates : List ChannelGate) (i : ℕ) (d : ChannelGate) (s p q : Signed) → i < length gates → p ≡ conjugated_by n (take i gates) s → q ≡ conjugated n (get_or gates i d) p
    → q ≡ conjugated_by n (take (i + 1) gates) s
conjugated_by_more n gates i d s p q l e f =
    f ∙ ap (conjugated n (get_or gates i d)) e ∙ sym (conjugated_by-append n (take i gates) (get_or gates i d ∷ []) s) ∙ ap (λ (x : List ChannelGate). conjugated_by n x s) (sym (take_more gates i d l))

-- all gates
pub conjugated_by_all : (n : ℕ) (gates : List ChannelGate) (i : ℕ) (s p : Signed) → length gates ≤ i → p ≡ conjugated_by n (take i gates) s → p ≡ conjugated_by n gates s
conjugated_by_all n gates i s p l e = e ∙ ap (λ (x : List ChannelGate). conjugated_by n x s) (take_all i gates l)

-- the inverses in reverse order are the rest
pub rest_gates : (c : ChannelGrid) (gates lent : List ChannelGate) (made : List Gate) → gates ≡ undo_gates c → lent ≡ gates → made ≡ as_gates (undone lent) → made ≡ rest_of c
rest_gates c gates lent made e d f = f ∙ ap (λ (x : List ChannelGate). as_gates (undone x)) (d ∙ e)
