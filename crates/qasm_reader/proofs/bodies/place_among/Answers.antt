use Rattle.std.proofs.Common.{◌∙◌, not, sym, Bor, List, ℕ}
use Rattle.std.specs.Str.{bytes_eq}
use Rattle.qasm_reader.proofs.Splits.{prefix_len-map}
use Rattle.qasm_reader.proofs.bodies.place_among.Goals as goal

pub returns : goal.returns
returns c = c.len_before.ensures.value ∙ sym (prefix_len-map (λ (n : List ℕ). not (bytes_eq c.args.name.now n)) (λ (b : Bor (List ℕ)). b.now) c.args.list.now)
