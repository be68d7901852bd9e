use Rattle.std.proofs.Common.{◌^◌, subst, sym}
use Rattle.std.specs.Prelude.{pos}
use Rattle.coset_label.specs.Labels.{column_of}
use Rattle.coset_label.specs.Sums.{column_sum}
use Rattle.label_laws.specs.Congruence.{IsCongruent}
use Rattle.label_laws.proofs.Congruences.{congruent_self}
use Rattle.label_laws.proofs.Wholes.{weighed_is, whole_fold_is}
use Rattle.label_laws.proofs.Folds.{weighed_rotation, weighed_once, weighed_twice}
use Rattle.label_laws.proofs.laws.folds_are_sums.Goals as goal

pub returns-clause-columns : goal.returns-clause-columns
returns-clause-columns a n m column =
    subst (λ z. IsCongruent (2 ^ 38) z (column_sum (column_of n m column))) (sym (weighed_is n m column)) (whole_fold_is (pos 0) 0 (column_of n m column) (congruent_self (2 ^ 38) 0))

pub returns-clause-rotations : goal.returns-clause-rotations
returns-clause-rotations a = weighed_rotation

pub returns-clause-once : goal.returns-clause-once
returns-clause-once a = weighed_once

pub returns-clause-twice : goal.returns-clause-twice
returns-clause-twice a = weighed_twice
