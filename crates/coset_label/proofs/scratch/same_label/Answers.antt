use Rattle.channel_rep.proofs.Independent.{circuit_independent}
use Rattle.coset_label.proofs.OneLabel.{one_coset_of_label, one_label_of_coset}
use Rattle.coset_label.proofs.scratch.same_label.Goals as goal

pub returns-clause-cosets : goal.returns-clause-cosets
returns-clause-cosets c =
    let n = c.args.a.now.qubits in
    let some = c.equal_labels.ensures.some in
    let few = c.equal_labels.ensures.few in
    let equal = c.equal_labels.ensures.equal in
    λ a b ca cb label other. (
      (λ yes. one_coset_of_label n a b _ _ label other (equal.0 yes)),
      (λ same. equal.1 (one_label_of_coset n a b (circuit_independent n some few a ca) (circuit_independent n some few b cb) _ _ label other same)),
    )
