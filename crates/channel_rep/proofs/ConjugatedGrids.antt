-- A channel whose rows a conjugation moves.
use Rattle.std.proofs.Common.{◌≡◌, ℕ, ◌*◌, ◌^◌, List, ◌++◌, length, take, drop, refl, ap, sym, ◌∙◌, subst}
use Rattle.tc_ring.specs.declared.root2.Root2.{Root2}
use Rattle.channel_rep.specs.Tables.{Step, IsBuiltOf}
use Rattle.channel_rep.specs.Cells.{IsChannelGrid, entries, scaled}
use Rattle.channel_rep.specs.Conjugations.{PauliMap, IsPauliMap, IsConjugationBy, MovesRows, gate_steps}
use Rattle.channel_rep.specs.declared.gate.ChannelGate.{ChannelGate}
use Rattle.channel_rep.proofs.Moves.{moves_built}
use Rattle.channel_rep.proofs.Norms.{moved_orthogonal}
use Rattle.channel_rep.proofs.Grids.{grid, given_back}

-- the channel after it
pub record ConjugationDone (n m k : ℕ) (by : PauliMap) (old new : List Root2) : Type 0 where
  pub valid : IsChannelGrid (grid m k new)
  pub built : (gates : List ChannelGate) → IsConjugationBy gates by → (steps : List Step) → IsBuiltOf n steps (scaled (grid n k old)) → IsBuiltOf n (steps ++ gate_steps gates) (scaled (grid m k new))

-- on as many qubits
done_here : (k : ℕ) (by : PauliMap) (old new : List Root2) → IsPauliMap by → IsChannelGrid (grid by.qubits k old) → length new ≡ 4 ^ by.qubits * 4 ^ by.qubits
    → MovesRows by (entries (4 ^ by.qubits) old) (entries (4 ^ by.qubits) new) → ConjugationDone by.qubits by.qubits k by old new
done_here k by old new map valid whole moves = record {
  valid = record {
    some = valid.some;
    few = valid.few;
    whole = whole;
    low = valid.low;
    orthogonal = moved_orthogonal k by (entries (4 ^ by.qubits) old) (entries (4 ^ by.qubits) new) map moves valid.orthogonal;
  };
  built = λ gates is. moves_built by map gates is (scaled (grid by.qubits k old)) (scaled (grid by.qubits k new)) refl moves;
}

-- with numbers of qubits that are given by equations, over cells that were lent
pub conjugation_done : (n m k len : ℕ) (by : PauliMap) (from lent_from old lent new : List Root2) → by.qubits ≡ n → m ≡ n → IsPauliMap by → IsChannelGrid (grid n k from) → lent_from ≡ from
    → length old ≡ 4 ^ m * 4 ^ m → lent ≡ old → length lent ≡ len → length new ≡ 4 ^ by.qubits * 4 ^ by.qubits
    → MovesRows by (entries (4 ^ by.qubits) lent_from) (entries (4 ^ by.qubits) new) → ConjugationDone n m k by from (take len (new ++ drop (length new) old))
conjugation_done n m k len by from lent_from old lent new e d map valid is whole lent_is long new_whole moves =
    subst (ConjugationDone n m k by from) (sym (given_back len _ old lent new lent_is long (whole ∙ ap (λ (q : ℕ). 4 ^ q * 4 ^ q) (d ∙ sym e)) new_whole))
    (subst (λ (q : ℕ). ConjugationDone n q k by from new) (sym d)
    (subst (λ (q : ℕ). ConjugationDone q q k by from new) e
    (done_here k by from new map (subst (λ (q : ℕ). IsChannelGrid (grid q k from)) (sym e) valid) new_whole
    (subst (λ (xs : List Root2). MovesRows by (entries (4 ^ by.qubits) xs) (entries (4 ^ by.qubits) new)) is moves))))
