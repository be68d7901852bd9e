use Rattle.std.proofs.Common.{◌<◌, arith}
use Rattle.tc_bridge.proofs.Rising.{to_z_len, gather_len, gathers_few, backs_few, block_pieces}
use Rattle.tc_bridge.proofs.ScaledMatrices.{equal_entries}
use Rattle.tc_bridge.proofs.Blocks.{opening_is, block_is}
use Rattle.tc_bridge.proofs.Counts.{block_count, block_circuit}
use Rattle.tc_bridge.proofs.Clauses.{circuit_of_word}
use Rattle.tc_bridge.proofs.block.rotation_gates.Goals as goal

pub push_all_gathers-requires : goal.push_all_gathers-requires
push_all_gathers-requires c = omega (arith, to_z_len c.args.p.code c.args.p.qubits 0)

pub push_reserved-requires : goal.push_reserved-requires
push_reserved-requires c = omega (arith, to_z_len c.args.p.code c.args.p.qubits 0, gather_len c.highest-z.result c.args.p.code c.args.p.qubits 0)

pub push_gathers_back-requires : goal.push_gathers_back-requires
push_gathers_back-requires c = omega (arith, to_z_len c.args.p.code c.args.p.qubits 0, gather_len c.highest-z.result c.args.p.code c.args.p.qubits 0)

pub push_all_from_z-requires : goal.push_all_from_z-requires
push_all_from_z-requires c =
    let r = c.highest-z.ensures.valid in
    let o = opening_is c.args.p.qubits r.some r.few c.args.p.code r.below c.requires.other in
    let z : c.highest-z.result < c.args.p.qubits = omega (arith, o.below) in
    omega (arith, to_z_len c.args.p.code c.args.p.qubits 0, gathers_few c.highest-z.result c.args.p.code c.args.p.qubits z, backs_few c.highest-z.result c.args.p.code c.args.p.qubits z)

pub returns-clause-matrix : goal.returns-clause-matrix
returns-clause-matrix c = let r = c.highest-z.ensures.valid in equal_entries _ _ (block_is c.args.p.qubits r.some r.few c.args.p.code r.below c.requires.other)

pub returns-clause-one_t : goal.returns-clause-one_t
returns-clause-one_t c = block_count c.args.p.qubits c.args.p.code

pub returns-clause-circuit : goal.returns-clause-circuit
returns-clause-circuit c = let r = c.highest-z.ensures.valid in block_circuit c.args.p.qubits r.some r.few c.args.p.code r.below c.requires.other

pub returns-clause-short : goal.returns-clause-short
returns-clause-short c = let r = c.highest-z.ensures.valid in (opening_is c.args.p.qubits r.some r.few c.args.p.code r.below c.requires.other).short

pub returns-clause-appended : goal.returns-clause-appended
returns-clause-appended c =
    cc (
      c.push_all_from_z.ensures.items,
      c.push_gathers_back.ensures.items,
      c.push_reserved.ensures.items,
      c.push_all_gathers.ensures.items,
      c.push_all_to_z.ensures.items,
      block_pieces c.args.p.qubits c.args.p.code c.highest-z.result c.args.out.now.items c.highest-z.ensures.value,
    )

pub returns-clause-words : goal.returns-clause-words
returns-clause-words c = circuit_of_word
