use Rattle.std.proofs.Common.{ℕ, List, length, min, arith, ap, ◌∙◌, sym}
use Rattle.qasm_reader.specs.View.{count_at, state}
use Rattle.qasm_reader.proofs.Kept.{t_count-made, t_count-behind}
use Rattle.qasm_reader.proofs.rows.t_count_with.Goals as goal

pub returns : goal.returns
returns c =
    let scan = c.args.scan.now in
    let made = t_count-made scan.circuit scan.t_count scan.t_is scan.t_none in
    let added = t_count-behind (state scan) c.args.statement.now c.requires in
    let more = c.t_count_at.ensures ∙ ap (λ (qs : List ℕ). min (count_at (λ z. z.t_count) c.args.statement.now.size (length qs)) 18446744073709551615) c.deref.ensures.value in
    omega (arith, c.saturating_add.ensures, made, added, more)
