use Rattle.qasm_reader.proofs.Kept.{kept_none}
use Rattle.qasm_reader.proofs.declare.new_scan.Goals as goal

pub returns-clause-kept : goal.returns-clause-kept
returns-clause-kept c = kept_none _ c.new-3.ensures.items c.new-4.ensures.empty
