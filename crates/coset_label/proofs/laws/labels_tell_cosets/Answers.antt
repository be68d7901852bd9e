use Rattle.channel_rep.proofs.Independent.{circuit_independent}
use Rattle.coset_label.proofs.OneLabel.{one_coset_of_label, one_label_of_coset}
use Rattle.coset_label.proofs.laws.labels_tell_cosets.Goals as goal

pub returns : goal.returns
returns c = λ n some few a b ca cb label other is is_other. (
  one_coset_of_label n a b label other is is_other,
  one_label_of_coset n a b (circuit_independent n some few a ca) (circuit_independent n some few b cb) label other is is_other,
)
