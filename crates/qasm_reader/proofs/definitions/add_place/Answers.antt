use Rattle.qasm_reader.proofs.Kept.{inserted}
use Rattle.qasm_reader.proofs.definitions.add_place.Goals as goal

pub returns : goal.returns
returns c = λ other. inserted c.args.places.now c.insert.new.self c.args.name c.args.place other c.in_ok-insert.ensures.updates.0
