use Rattle.std.proofs.Common.{◌≡◌, ℕ, ap, subst, ◌∙◌}
use Rattle.channel_rep.specs.Cells.{ChannelGrid, scaled}
use Rattle.channel_rep.specs.Tables.{SameTable}
use Rattle.level_laws.specs.Levels.{removed}
use Rattle.tcount_top.specs.Printed.{codes_of}
use Rattle.tcount_top.proofs.print.left_without.Goals as goal

pub returns : goal.returns
returns c =
    let m : ChannelGrid = c.args.channel.now in
    let letters = codes_of c.args.letters.now in
    let copy : ChannelGrid = c.copy_from.new.self in
    let same : copy ≡ m = c.copy_from.ensures in
    let off : ChannelGrid = c.take_off.new.channel in
    let left : ChannelGrid = c.reduce.new.self in
    let qubits : off.qubits ≡ m.qubits = c.take_off.ensures.qubits ∙ ap (λ (x : ChannelGrid). x.qubits) same in
    let value : SameTable m.qubits (scaled left) (scaled off) = subst (λ (k : ℕ). SameTable k (scaled left) (scaled off)) qubits c.reduce.ensures.value in
    let table : SameTable m.qubits (scaled off) (removed m.qubits (scaled m) letters) = subst (λ (x : ChannelGrid). SameTable x.qubits (scaled off) (removed x.qubits (scaled x) letters)) same c.take_off.ensures.table in
    record {
      qubits = c.reduce.ensures.qubits ∙ qubits;
      grid = c.qubits-grid.ensures.valid;
      reduced = c.reduce.ensures.reduced;
      table = (c.tables_compare.ensures m.qubits).transitive (scaled left) (scaled off) (removed m.qubits (scaled m) letters) value table;
    }
