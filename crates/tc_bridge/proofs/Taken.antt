-- One step more of a channel under way.
use Rattle.std.proofs.Common.{◌≡◌, ℕ, List, [], ◌∷◌, ◌++◌, refl, ap, sym, ◌∙◌, subst, append_assoc}
use Rattle.channel_rep.specs.Conjugations.{gate_steps}
use Rattle.channel_rep.specs.Tables.{Step, ScaledTable, by_gate, IsBuiltOf}
use Rattle.channel_rep.specs.declared.gate.ChannelGate.{ChannelGate}

-- the steps of two lists of gates
gate_steps-append : (c d : List ChannelGate) → gate_steps (c ++ d) ≡ gate_steps c ++ gate_steps d
gate_steps-append [] d = refl
gate_steps-append (g ∷ c) d = ap (λ (steps : List Step). by_gate g ∷ steps) (gate_steps-append c d)

-- one more pending gate
pub gathered : (steps settled : List Step) (gates : List ChannelGate) (g : ChannelGate) → steps ≡ settled ++ gate_steps gates → steps ++ by_gate g ∷ [] ≡ settled ++ gate_steps (gates ++ g ∷ [])
gathered steps settled gates g all =
    ap (λ (s : List Step). s ++ by_gate g ∷ []) all ∙ append_assoc settled (gate_steps gates) (by_gate g ∷ []) ∙ ap (λ (s : List Step). settled ++ s) (sym (gate_steps-append gates (g ∷ [])))

-- one more step of the channel, with a step and numbers of qubits that are given by equations
pub step_built : (k m n : ℕ) (old new : ScaledTable) (steps : List Step) (s t : Step) → m ≡ n → k ≡ m → s ≡ t → IsBuiltOf n steps old
    → ((steps : List Step) → IsBuiltOf m steps old → IsBuiltOf m (steps ++ s ∷ []) new) → IsBuiltOf k (steps ++ t ∷ []) new
step_built k m n old new steps s t e d same h step =
    subst (λ (t : Step). IsBuiltOf k (steps ++ t ∷ []) new) same
    (subst (λ (k : ℕ). IsBuiltOf k (steps ++ s ∷ []) new) (sym d) (step steps (subst (λ (k : ℕ). IsBuiltOf k steps old) (sym e) h)))
