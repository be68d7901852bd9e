use Rattle.coset_label.proofs.WordChannels.{label_tells_word, equal_is_label, equal_is_coset}
use Rattle.coset_label.proofs.scratch.lies_in.Goals as goal

pub returns-clause-words : goal.returns-clause-words
returns-clause-words c =
    let w = c.args.word in
    let valid = c.label_of_word.ensures.valid in
    let equal = c.equal_labels.ensures.equal in
    λ v hv is.
    let at = equal_is_coset w.qubits valid.some valid.few w.letters valid.word c.args.label.now.label c.label_of_word.new.s.label c.label_of_word.ensures.label v hv is in
    (λ yes. at.0 (equal.0 yes), λ same. equal.1 (at.1 same))

pub returns-clause-channels : goal.returns-clause-channels
returns-clause-channels c =
    let w = c.args.word in
    let valid = c.label_of_word.ensures.valid in
    let equal = c.equal_labels.ensures.equal in
    λ m circuit is.
    let at = label_tells_word w.qubits valid.some valid.few m circuit w.letters valid.word c.args.label.now.label c.label_of_word.new.s.label is c.label_of_word.ensures.label in
    (λ yes. at.0 (equal.0 yes), λ same. equal.1 (at.1 same))

pub returns-clause-label : goal.returns-clause-label
returns-clause-label c =
    let w = c.args.word in
    let valid = c.label_of_word.ensures.valid in
    let equal = c.equal_labels.ensures.equal in
    let at = equal_is_label w.qubits valid.some valid.few w.letters valid.word c.args.label.now.label c.label_of_word.new.s.label c.label_of_word.ensures.label in
    (λ yes. at.0 (equal.0 yes), λ is. equal.1 (at.1 is))
