use Rattle.std.proofs.Common.{◌≤◌, ◌^◌, ℕ, ap, arith}
use Rattle.channel_rep.proofs.Sweeps.{changed_more, rotated_local, rotation_turn-le}
use Rattle.channel_rep.proofs.turns.rotate_parts.Goals as goal

pub loop-row-preserved : goal.loop-row-preserved
loop-row-preserved c =
    changed_more _ _ _ c.loop-row.row _ _ _ (rotated_local c.args.p.now.qubits c.args.inverse c.args.p.now.code c.qubits.ensures.valid.below) c.loop-row.invariant c.rotate_row.ensures

pub returns-clause-rows : goal.returns-clause-rows
returns-clause-rows c = λ r k l m.
    let all : 4 ^ c.args.p.now.qubits ≤ c.loop-row.row = omega (arith, ap (λ (n : ℕ). 4 ^ n) c.qubits.ensures.value) in
    c.loop-row.invariant.done r k l m (omega (arith, rotation_turn-le c.args.p.now.qubits c.args.p.now.code r))
