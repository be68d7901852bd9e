use Rattle.std.proofs.Common.{ℕ, List, Bor, ap, ◌∙◌}
use Rattle.std.specs.List.{list_any}
use Rattle.std.specs.Str.{bytes_eq}
use Rattle.qasm_reader.proofs.Names.{any_insert_key}
use Rattle.qasm_reader.proofs.finding.add_name.Goals as goal

pub returns : goal.returns
returns c = λ other. ap (λ (ks : List (Bor (List ℕ))). list_any (λ x. bytes_eq other x.now) ks) c.in_ok-insert.ensures.keys ∙ any_insert_key other c.args.name c.args.set.now.keys
