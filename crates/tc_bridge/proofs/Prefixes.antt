-- The first gates of a circuit: their steps and their T gates.
use Rattle.std.proofs.Common.{◌≡◌, ℕ, ◌+◌, ◌<◌, ◌≤◌, List, [], ◌∷◌, ◌++◌, length, take, drop, get_or, cond, refl, ap, sym, ◌∙◌, subst, subst₂, add-one, add-zero, arith}
use Rattle.std.proofs.Math.Seq.{take-suc}
use Rattle.std.proofs.lemmas.List.{take_all}
use Rattle.std.proofs.lemmas.List.Sums.{sum_by-take-drop}
use Rattle.tc_circuit.specs.Gate.{is_t}
use Rattle.tc_circuit.specs.Model.{t_count_of}
use Rattle.tc_circuit.specs.declared.circuit.Gate.{Gate}
use Rattle.channel_rep.specs.Tables.{Step, ScaledTable, IsBuiltOf}
use Rattle.tc_bridge.specs.Steps.{step_of, steps_of}
use Rattle.tc_circuit.proofs.Counts.{t_of, t_count-cons, t_count-append}

-- the steps of two lists of gates
steps_of-append : (c d : List Gate) → steps_of (c ++ d) ≡ steps_of c ++ steps_of d
steps_of-append [] d = refl
steps_of-append (g ∷ c) d = ap (λ (steps : List Step). step_of g ∷ steps) (steps_of-append c d)

module _ (gates : List Gate) (i : ℕ) (l : i < length gates) (none : Gate) where
  -- the first gates, and then the next
  one_more : take (i + 1) gates ≡ take i gates ++ (get_or gates i none ∷ [])
  one_more = ap (λ k. take k gates) (add-one i) ∙ take-suc gates i none l

  -- their T gates
  pub count_more : t_count_of (take (i + 1) gates) ≡ t_count_of (take i gates) + cond (is_t (get_or gates i none)) 1 0
  count_more = ap t_count_of one_more ∙ t_count-append (take i gates) (get_or gates i none ∷ []) ∙ ap (λ k. t_count_of (take i gates) + k) (t_count-cons (get_or gates i none) [] ∙ add-zero _)

  -- no more than all have
  pub count_low : t_count_of (take i gates) + cond (is_t (get_or gates i none)) 1 0 ≤ t_count_of gates
  count_low =
      let all : t_count_of (take (i + 1) gates) + t_count_of (drop (i + 1) gates) ≡ t_count_of gates = sum_by-take-drop t_of gates (i + 1) in
      omega (arith, count_more)

  -- their steps
  pub steps_more : steps_of (take (i + 1) gates) ≡ steps_of (take i gates) ++ step_of (get_or gates i none) ∷ []
  steps_more = ap steps_of one_more ∙ steps_of-append (take i gates) (get_or gates i none ∷ [])

-- the table of all of them
pub built_all : (gates whole : List Gate) (i q m n : ℕ) (old new : ScaledTable) → length gates ≤ i → gates ≡ whole → q ≡ n → m ≡ q → IsBuiltOf q (steps_of (take i gates)) old
    → ((steps : List Step) → IsBuiltOf m steps old → IsBuiltOf m steps new) → IsBuiltOf n (steps_of whole) new
built_all gates whole i q m n old new l same e d h step =
    subst₂ (λ (k : ℕ) (steps : List Step). IsBuiltOf k steps new) (d ∙ e) (ap steps_of (take_all i gates l ∙ same))
    (step (steps_of (take i gates)) (subst (λ (k : ℕ). IsBuiltOf k (steps_of (take i gates)) old) (sym d) h))
