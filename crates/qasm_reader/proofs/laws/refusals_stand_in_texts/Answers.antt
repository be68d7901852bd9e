use Rattle.qasm_reader.proofs.Refusing.{refused_within}
use Rattle.qasm_reader.proofs.laws.refusals_stand_in_texts.Goals as goal

pub returns : goal.returns
returns c = refused_within
