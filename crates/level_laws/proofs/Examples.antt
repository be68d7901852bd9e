-- The first levels of one qubit, and the first turns and repeats of two, computed from the definitions.
use Rattle.std.proofs.Common.{◌≡◌, [], ◌∷◌, refl, true}
use Rattle.std.proofs.lemmas.List.Elements.{All-from_recursion}
use Rattle.coset_label.specs.Order.{words_of}
use Rattle.ring_laws.specs.Matrix.{identity, product, sum}
use Rattle.ring_laws.specs.Ring.{power}
use Rattle.tc_ring.specs.Surds.{root2_surd, surd_integer, surd_negative, surd_plus, surd_times}
use Rattle.pauli_basis.specs.Products.{commute, clashes, anti_sign, turns}
use Rattle.channel_rep.specs.Tables.{signed, rotation_table}
use Rattle.coset_label.specs.Decided.{in_one_coset}
use Rattle.level_laws.specs.Levels.{has_word, level}
use Rattle.level_laws.specs.Laws.{FirstTurns, FirstRepeats}

-- each letter
pub one_letter : level 1 1 ≡ (1 ∷ []) ∷ (2 ∷ []) ∷ (3 ∷ []) ∷ []
unfolding level has_word in_one_coset signed rotation_table commute clashes anti_sign turns identity product sum power root2_surd surd_integer surd_negative surd_plus surd_times
one_letter = refl

-- two letters that differ: twice the same letter is in the coset of the empty word
pub two_letters : level 1 2 ≡ (1 ∷ 2 ∷ []) ∷ (1 ∷ 3 ∷ []) ∷ (2 ∷ 1 ∷ []) ∷ (2 ∷ 3 ∷ []) ∷ (3 ∷ 1 ∷ []) ∷ (3 ∷ 2 ∷ []) ∷ []
unfolding level has_word in_one_coset signed rotation_table commute clashes anti_sign turns identity product sum power root2_surd surd_integer surd_negative surd_plus surd_times
two_letters = refl

-- turns of two qubits
pub first_turns : FirstTurns
unfolding commute clashes
first_turns = record { both = refl; none = refl; apart = refl; equal = refl }

-- letters that come again
pub first_repeats : FirstRepeats
unfolding commute clashes
first_repeats = record {
  at_once = record { front = []; back = []; is = refl; commuting = All-from_recursion (λ q. commute 2 1 q ≡ true) [] tt };
  behind = record { front = 4 ∷ []; back = []; is = refl; commuting = All-from_recursion (λ q. commute 2 1 q ≡ true) (4 ∷ []) (refl, tt) };
}
