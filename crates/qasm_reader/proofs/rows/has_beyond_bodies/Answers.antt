use Rattle.std.proofs.Common.{◌∙◌, sym}
use Rattle.qasm_reader.specs.Rows.{is_beyond_bodies}
use Rattle.qasm_reader.specs.View.{lexeme}
use Rattle.qasm_reader.proofs.Lookups.{list_any-map}
use Rattle.qasm_reader.proofs.rows.has_beyond_bodies.Goals as goal

pub returns : goal.returns
returns c = c.any_beyond_bodies.ensures ∙ sym (list_any-map is_beyond_bodies lexeme c.args.ws.now)
