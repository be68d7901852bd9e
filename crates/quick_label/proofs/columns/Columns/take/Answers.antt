use Rattle.std.proofs.Common.{◌≡◌, ◌^◌, length, ap, sym, ◌∙◌, subst}
use Rattle.std.proofs.lemmas.List.{with_items_is}
use Rattle.channel_rep.specs.Cells.{table_of}
use Rattle.quick_label.specs.Columns.{StoredColumns, HoldsColumns}
use Rattle.quick_label.proofs.HeldColumns.{columns_held}
use Rattle.quick_label.proofs.columns.Columns.take.Goals as goal

pub returns-clause-columns : goal.returns-clause-columns
returns-clause-columns c span are sparse =
    let q = c.args.channel.now.qubits in
    let size : c.self.inside.size ≡ 4 ^ q = ap (λ (s : StoredColumns). s.size) c.self.view_is ∙ c.requires.size in
    let starts : length c.write_columns.new.starts ≡ c.self.inside.starts.len = c.write_columns.ensures.starts ∙ c.deref_mut.ensures.len in
    let rows : length c.write_columns.new.rows ≡ c.self.inside.rows.len = c.write_columns.ensures.rows ∙ c.deref_mut-2.ensures.len in
    let values : length c.write_columns.new.values ≡ c.self.inside.values.len = c.write_columns.ensures.values ∙ c.deref_mut-3.ensures.len in
    subst (HoldsColumns (4 ^ q) (table_of c.args.channel.now))
    (λ i. record {
      size = c.self.inside.size;
      starts = sym (with_items_is c.self.inside.starts c.write_columns.new.starts starts) i;
      rows = sym (with_items_is c.self.inside.rows c.write_columns.new.rows rows) i;
      values = sym (with_items_is c.self.inside.values c.write_columns.new.values values) i;
    })
    (columns_held (4 ^ q) span (table_of c.args.channel.now) _ size sparse (c.write_columns.ensures.columns span are))
