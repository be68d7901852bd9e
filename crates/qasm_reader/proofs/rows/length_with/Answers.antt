use Rattle.std.proofs.Common.{ℕ, List, length, min, arith, ap, ◌∙◌, sym}
use Rattle.qasm_reader.specs.View.{count_at, state}
use Rattle.qasm_reader.proofs.Kept.{length-behind}
use Rattle.qasm_reader.proofs.rows.length_with.Goals as goal

pub returns : goal.returns
returns c =
    let scan = c.args.scan.now in
    let added = length-behind (state scan) c.args.statement.now c.requires in
    let more = c.length_at.ensures ∙ ap (λ (qs : List ℕ). min (count_at (λ z. z.length) c.args.statement.now.size (length qs)) 18446744073709551615) c.deref.ensures.value in
    omega (arith, c.saturating_add.ensures, c.length_of.ensures, added, more)
