use Rattle.tc_bridge.proofs.Clauses.{word_then_clifford}
use Rattle.tc_bridge.proofs.laws.circuits_are_words.Goals as goal

pub returns : goal.returns
returns c = word_then_clifford
