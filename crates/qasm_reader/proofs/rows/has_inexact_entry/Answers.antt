use Rattle.std.proofs.Common.{◌∙◌, sym}
use Rattle.qasm_reader.specs.Rows.{is_inexact_entry}
use Rattle.qasm_reader.specs.View.{entry}
use Rattle.qasm_reader.proofs.Lookups.{list_any-map}
use Rattle.qasm_reader.proofs.rows.has_inexact_entry.Goals as goal

pub returns : goal.returns
returns c = c.any_inexact.ensures ∙ sym (list_any-map is_inexact_entry entry c.args.body.now)
