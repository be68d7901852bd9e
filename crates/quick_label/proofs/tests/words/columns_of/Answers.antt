use Rattle.std.proofs.Common.{◌≡◌, ◌^◌, Bool, true, false, List, [], ◌∷◌, T, not, ap, sym, ◌∙◌, subst, refl}
use Rattle.std.specs.Prelude.{◌||◌}
use Rattle.pauli_basis.proofs.Small.{all_at3}
use Rattle.quick_label.specs.Blocks.{in_block}
use Rattle.quick_label.specs.Rooms.{MarksSubspace, AreBlocks}
use Rattle.quick_label.proofs.tests.words.columns_of.Goals as goal

-- the span of Z on one qubit
abbrev span : List Bool
span = true ∷ false ∷ false ∷ true ∷ []

-- is a subspace
marks : MarksSubspace 4 span
marks = record {
  long = refl;
  zero = refl;
  closed = λ x y z lx ly lz first second. read _ _ _ first second (all_at3 4 4 4 (λ x y z. not (in_block span x y) || (not (in_block span y z) || in_block span x z)) tt x y z lx ly lz);
}
  where
    read : (a b c : Bool) → a ≡ true → b ≡ true → T (not a || (not b || c)) → c ≡ true
    read true true true e f t = refl
    read true true false e f t = absurd t
    read true false c e f t = cc
    read false b c e f t = cc

pub take-requires : goal.take-requires
take-requires c = subst (λ s. MarksSubspace s span) (sym c.in_ok-blocks.ensures) marks
