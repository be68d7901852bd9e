use Rattle.std.proofs.Common.{◌≡◌, ℕ, ◌+◌, ◌*◌, ◌^◌, ◌<◌, ◌≤◌, List, length, slice_index, slice_set, refl, ap, sym, ◌∙◌, subst, arith}
use Rattle.std.proofs.Math.ListN.{length-set}
use Rattle.std.proofs.lemmas.Nat.{mul-le}
use Rattle.channel_rep.specs.Cells.{table_of}
use Rattle.quick_label.specs.Blocks.{block_rows}
use Rattle.quick_label.specs.ColumnParts.{IsRunOf, AreRuns}
use Rattle.quick_label.specs.Rooms.{AreBlocks}
use Rattle.quick_label.proofs.BlockSums.{block_low, block_few, block_held}
use Rattle.quick_label.proofs.ColumnParts.{no_runs, starts_more, runs_more, first_start}
use Rattle.quick_label.proofs.columns.write_columns.Goals as goal

pub loop-column-init : goal.loop-column-init
loop-column-init c = record {
  starts = refl;
  rows = refl;
  values = refl;
  most = omega arith;
  below = c.requires.below;
  places = first_start c.args.starts.now (omega arith);
  runs = λ span are. no_runs _ _ _ _ _;
}

pub write_run-middle-requires-clause-block : goal.write_run-middle-requires-clause-block
write_run-middle-requires-clause-block c =
    let q = c.args.channel.now.qubits in
    let held = c.requires.blocks in
    let block = block_held (4 ^ q) held.0 c.args.blocks.now c.loop-column.column c.rows_of-block.result.now c.requires.size held.1 c.rows_of-block.ensures in
    subst (λ xs. (k : ℕ) → k < length xs → slice_index xs k < 4 ^ q) (sym block) (block_low (4 ^ q) held.0 c.loop-column.column)

pub write_run-middle-requires-clause-room : goal.write_run-middle-requires-clause-room
write_run-middle-requires-clause-room c =
    let q = c.args.channel.now.qubits in
    let held = c.requires.blocks in
    let size = c.size-size.result in
    let block = block_held (4 ^ q) held.0 c.args.blocks.now c.loop-column.column c.rows_of-block.result.now c.requires.size held.1 c.rows_of-block.ensures in
    let few : length c.rows_of-block.result.now ≤ 4 ^ q = subst (λ xs. length xs ≤ 4 ^ q) (sym block) (block_few (4 ^ q) held.0 c.loop-column.column) in
    let column : (c.loop-column.column + 1) * size ≤ size * size = mul-le (c.loop-column.column + 1) size size size (omega arith) (omega arith) in
    let all : size * size ≡ c.args.blocks.now.size * c.args.blocks.now.size = ap (λ (s : ℕ). s * s) c.size-size.ensures.value in
    omega (arith, c.loop-column.invariant.rows, c.loop-column.invariant.most, c.requires.size, c.size-size.ensures.value)

pub write_run-end-requires-clause-block : goal.write_run-end-requires-clause-block
write_run-end-requires-clause-block c =
    let q = c.args.channel.now.qubits in
    let held = c.requires.blocks in
    let block = block_held (4 ^ q) held.0 c.args.blocks.now c.loop-column.column c.rows_of-block.result.now c.requires.size held.1 c.rows_of-block.ensures in
    subst (λ xs. (k : ℕ) → k < length xs → slice_index xs k < 4 ^ q) (sym block) (block_low (4 ^ q) held.0 c.loop-column.column)

pub write_run-end-requires-clause-room : goal.write_run-end-requires-clause-room
write_run-end-requires-clause-room c =
    let q = c.args.channel.now.qubits in
    let held = c.requires.blocks in
    let size = c.size-size.result in
    let block = block_held (4 ^ q) held.0 c.args.blocks.now c.loop-column.column c.rows_of-block.result.now c.requires.size held.1 c.rows_of-block.ensures in
    let few : length c.rows_of-block.result.now ≤ 4 ^ q = subst (λ xs. length xs ≤ 4 ^ q) (sym block) (block_few (4 ^ q) held.0 c.loop-column.column) in
    let column : (c.loop-column.column + 1) * size ≤ size * size = mul-le (c.loop-column.column + 1) size size size (omega arith) (omega arith) in
    let all : size * size ≡ c.args.blocks.now.size * c.args.blocks.now.size = ap (λ (s : ℕ). s * s) c.size-size.ensures.value in
    omega (arith, c.write_run-middle.ensures.rows, c.write_run-middle.ensures.most, c.loop-column.invariant.rows, c.loop-column.invariant.most, c.requires.size, c.size-size.ensures.value)

pub overflow_cast-starts : goal.overflow_cast-starts
overflow_cast-starts c =
    let q = c.args.channel.now.qubits in
    let held = c.requires.blocks in
    let size = c.size-size.result in
    let block = block_held (4 ^ q) held.0 c.args.blocks.now c.loop-column.column c.rows_of-block.result.now c.requires.size held.1 c.rows_of-block.ensures in
    let few : length c.rows_of-block.result.now ≤ 4 ^ q = subst (λ xs. length xs ≤ 4 ^ q) (sym block) (block_few (4 ^ q) held.0 c.loop-column.column) in
    let column : (c.loop-column.column + 1) * size ≤ 64 * 64 = mul-le (c.loop-column.column + 1) size 64 64 (omega arith) (omega arith) in
    omega (arith, c.write_run-middle.ensures.most, c.loop-column.invariant.most, c.requires.size, c.size-size.ensures.value)

pub overflow_cast-starts-in-loop-column : goal.overflow_cast-starts-in-loop-column
overflow_cast-starts-in-loop-column c =
    let q = c.args.channel.now.qubits in
    let held = c.requires.blocks in
    let size = c.size-size.result in
    let block = block_held (4 ^ q) held.0 c.args.blocks.now c.loop-column.column c.rows_of-block.result.now c.requires.size held.1 c.rows_of-block.ensures in
    let few : length c.rows_of-block.result.now ≤ 4 ^ q = subst (λ xs. length xs ≤ 4 ^ q) (sym block) (block_few (4 ^ q) held.0 c.loop-column.column) in
    let column : (c.loop-column.column + 1) * size ≤ 64 * 64 = mul-le (c.loop-column.column + 1) size 64 64 (omega arith) (omega arith) in
    omega (arith, c.write_run-end.ensures.most, c.write_run-middle.ensures.most, c.loop-column.invariant.most, c.requires.size, c.size-size.ensures.value)

pub loop-column-preserved : goal.loop-column-preserved
loop-column-preserved c =
    let q = c.args.channel.now.qubits in
    let held = c.requires.blocks in
    let size = c.size-size.result in
    let column = c.loop-column.column in
    let before = c.loop-column.invariant in
    let block = block_held (4 ^ q) held.0 c.args.blocks.now column c.rows_of-block.result.now c.requires.size held.1 c.rows_of-block.ensures in
    let few : length c.rows_of-block.result.now ≤ 4 ^ q = subst (λ xs. length xs ≤ 4 ^ q) (sym block) (block_few (4 ^ q) held.0 column) in
    let long : 2 * column + 2 < length c.loop-column.starts = omega (arith, before.starts, length-set c.args.starts.now 0 0, c.requires.starts, c.size-size.ensures.value) in
    record {
      starts = length-set (slice_set c.loop-column.starts (2 * column + 1) c.write_run-middle.result) (2 * column + 2) c.write_run-end.result ∙ length-set c.loop-column.starts (2 * column + 1) c.write_run-middle.result ∙ before.starts;
      rows = c.write_run-end.ensures.rows ∙ c.write_run-middle.ensures.rows ∙ before.rows;
      values = c.write_run-end.ensures.values ∙ c.write_run-middle.ensures.values ∙ before.values;
      most = omega (arith, c.write_run-end.ensures.most, c.write_run-middle.ensures.most, before.most, c.requires.size, c.size-size.ensures.value);
      below = c.write_run-end.ensures.below;
      places = starts_more (table_of c.args.channel.now) (block_rows (4 ^ q) held.0) column c.loop-column.end c.write_run-middle.result c.write_run-end.result c.loop-column.starts
          c.loop-column.rows c.write_run-middle.new.rows c.write_run-end.new.rows c.loop-column.values c.write_run-middle.new.values c.write_run-end.new.values long
          c.write_run-middle.ensures.from c.write_run-end.ensures.from before.places;
      runs = λ span are.
          let own = block_held (4 ^ q) span c.args.blocks.now column c.rows_of-block.result.now c.requires.size are c.rows_of-block.ensures in
          runs_more (table_of c.args.channel.now) (block_rows (4 ^ q) span) column c.loop-column.end c.write_run-middle.result c.write_run-end.result c.loop-column.starts
          c.loop-column.rows c.write_run-middle.new.rows c.write_run-end.new.rows c.loop-column.values c.write_run-middle.new.values c.write_run-end.new.values long
          c.write_run-middle.ensures.from before.places c.write_run-middle.ensures.kept c.write_run-end.ensures.kept (before.runs span are)
          (subst (λ xs. IsRunOf xs (λ row. (table_of c.args.channel.now row column).a) c.write_run-middle.new.rows c.write_run-middle.new.values c.loop-column.end c.write_run-middle.result) own c.write_run-middle.ensures.sum)
          (subst (λ xs. IsRunOf xs (λ row. (table_of c.args.channel.now row column).b) c.write_run-end.new.rows c.write_run-end.new.values c.write_run-middle.result c.write_run-end.result) own c.write_run-end.ensures.sum);
    }

pub returns-clause-inside : goal.returns-clause-inside
returns-clause-inside c run l =
    let size = c.size-size.result in
    let end : c.loop-column.column ≡ size = omega arith in
    let all : c.loop-column.column * size ≡ c.args.blocks.now.size * c.args.blocks.now.size = (λ i. (end ∙ c.size-size.ensures.value) i * c.size-size.ensures.value i) in
    omega (arith, c.loop-column.invariant.places.within run (omega (arith, c.size-size.ensures.value)), c.loop-column.invariant.most)

pub returns-clause-columns : goal.returns-clause-columns
returns-clause-columns c span are =
    let end : c.loop-column.column ≡ 4 ^ c.args.channel.now.qubits = omega (arith, c.requires.size, c.size-size.ensures.value) in
    subst (λ k. AreRuns (table_of c.args.channel.now) (block_rows (4 ^ c.args.channel.now.qubits) span) k c.loop-column.starts c.loop-column.rows c.loop-column.values) end (c.loop-column.invariant.runs span are)
