use Rattle.std.proofs.Common.{ℕ, ◌^◌, List, take, true, sym, subst, ◌∙◌, arith}
use Rattle.ring_laws.specs.Matrix.{product, Agree}
use Rattle.tc_ring.specs.Surds.{surds}
use Rattle.pauli_basis.specs.Pauli.{PauliString}
use Rattle.channel_rep.specs.Cells.{scaled, table_of}
use Rattle.channel_rep.specs.Tables.{SameTable, rotation_table}
use Rattle.level_laws.specs.Levels.{removed}
use Rattle.tcount_top.specs.Printed.{codes_of}
use Rattle.tcount_top.proofs.Letters.{code_at, take_letter}
use Rattle.tcount_top.proofs.print.take_off.Goals as goal

pub loop-letter-preserved : goal.loop-letter-preserved
loop-letter-preserved c =
    let p : PauliString = c.letter-item.result in
    let n = c.args.channel.now.qubits in
    let m = scaled c.args.channel.now in
    let i = c.loop-letter.letter-index in
    let letters = codes_of c.args.letters.now in
    let old = c.loop-letter.channel in
    let new = c.left_rotation_inverse.new.self in
    let agrees : Agree surds (4 ^ n) (table_of new) (product surds (4 ^ n) (rotation_table n true p.code) (table_of old)) =
    subst (λ (k : ℕ). Agree surds (4 ^ k) (table_of new) (product surds (4 ^ k) (rotation_table k true p.code) (table_of old))) c.loop-letter.invariant.qubits c.left_rotation_inverse.ensures.table in
    record {
      qubits = c.left_rotation_inverse.ensures.qubits ∙ c.loop-letter.invariant.qubits;
      exponent = omega (arith, c.left_rotation_inverse.ensures.exponent, c.loop-letter.invariant.exponent);
      table = subst (λ (l : List ℕ). SameTable n (scaled new) (removed n m l)) (sym (take_letter letters i p.code (code_at c.args.letters.now i p c.loop-letter-test.true c.letter-item.is)))
          (c.letters_come_off.ensures.step n m (scaled old) (scaled new) (take i letters) p.code c.loop-letter.invariant.table c.left_rotation_inverse.ensures.exponent agrees);
    }
