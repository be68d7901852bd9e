use Rattle.std.proofs.Common.{◌≡◌, ℕ, ◌^◌, ◌<◌, Bool, List, length, slice_index, sym, subst, ◌∙◌, arith}
use Rattle.std.proofs.Math.ListN.{length-set}
use Rattle.std.specs.Int.{bit_at}
use Rattle.channel_rep.specs.Cells.{table_of}
use Rattle.word_laws.specs.Parities.{parity}
use Rattle.quick_label.proofs.BlockParities.{whole_bits, part_bits}
use Rattle.quick_label.proofs.BlockSums.{block_low, block_held}
use Rattle.quick_label.proofs.SetOne.{one_more}
use Rattle.quick_label.proofs.parities.write_within.Goals as goal

pub block_parities-whole-requires-clause-columns : goal.block_parities-whole-requires-clause-columns
block_parities-whole-requires-clause-columns c =
    let q = c.args.channel.now.qubits in
    let held = c.requires.blocks in
    let block = block_held (4 ^ q) held.0 c.args.blocks.now c.loop-row.row c.rows_of.result.now c.requires.size held.1 c.rows_of.ensures in
    subst (λ xs. (k : ℕ) → k < length xs → slice_index xs k < 4 ^ q) (sym block) (block_low (4 ^ q) held.0 c.loop-row.row)

pub loop-row-preserved : goal.loop-row-preserved
loop-row-preserved c =
    let q = c.args.channel.now.qubits in
    let m = table_of c.args.channel.now in
    let row = c.loop-row.row in
    let before = c.loop-row.invariant in
    let own = c.block_parities-whole in
    let low : row < 4 ^ q = omega (arith, c.requires.size) in
    record {
      wholes = length-set c.loop-row.wholes row own.result.0 ∙ before.wholes;
      parts = length-set c.loop-row.parts row own.result.1 ∙ before.parts;
      wholes_below = one_more (λ (r w : ℕ). w < 2 ^ 4 ^ q) c.loop-row.wholes row _ 0 (omega (arith, before.wholes)) before.wholes_below own.ensures.whole_below;
      parts_below = one_more (λ (r w : ℕ). w < 2 ^ 4 ^ q) c.loop-row.parts row _ 0 (omega (arith, before.parts)) before.parts_below own.ensures.part_below;
      whole_bits = λ span are sparse.
          let block = block_held (4 ^ q) span c.args.blocks.now row c.rows_of.result.now c.requires.size are c.rows_of.ensures in
          one_more (λ (r w : ℕ). (column : ℕ) → column < 4 ^ q → bit_at w column ≡ parity (m r column).a) c.loop-row.wholes row _ 0 (omega (arith, before.wholes)) (before.whole_bits span are sparse)
          (whole_bits (4 ^ q) span m sparse row low c.rows_of.result.now block own.result.0 own.ensures.wholes);
      part_bits = λ span are sparse.
          let block = block_held (4 ^ q) span c.args.blocks.now row c.rows_of.result.now c.requires.size are c.rows_of.ensures in
          one_more (λ (r w : ℕ). (column : ℕ) → column < 4 ^ q → bit_at w column ≡ parity (m r column).b) c.loop-row.parts row _ 0 (omega (arith, before.parts)) (before.part_bits span are sparse)
          (part_bits (4 ^ q) span m sparse row low c.rows_of.result.now block own.result.1 own.ensures.parts);
    }

pub returns-clause-parities : goal.returns-clause-parities
returns-clause-parities c span are sparse =
    let all : c.loop-row.row ≡ 4 ^ c.args.channel.now.qubits = omega (arith, c.requires.size) in
    let held = c.loop-row.invariant in
    record {
      qubits = λ _. c.args.channel.now.qubits;
      wholes_below = λ row l. held.wholes_below row (omega arith);
      parts_below = λ row l. held.parts_below row (omega arith);
      whole_bits = λ row column l low. held.whole_bits span are sparse row (omega arith) column low;
      part_bits = λ row column l low. held.part_bits span are sparse row (omega arith) column low;
    }
