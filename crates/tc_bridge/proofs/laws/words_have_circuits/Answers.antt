use Rattle.tc_bridge.proofs.Clauses.{circuit_of_word}
use Rattle.tc_bridge.proofs.laws.words_have_circuits.Goals as goal

pub returns : goal.returns
returns c = circuit_of_word
