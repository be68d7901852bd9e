use Rattle.std.proofs.Common.{◌≡◌, ◌<◌, ◌≤◌, ◌^◌, ap, arith, rules, length}
use Rattle.circuit_writer.specs.Shown.{letter_texts, shown}
use Rattle.circuit_writer.proofs.Sizes.{length-shown-le}
use Rattle.circuit_writer.proofs.Words.{IsWord-letter_texts}
use Rattle.circuit_writer.proofs.print.text.Goals as goal

pub returns-clause-letters : goal.returns-clause-letters
returns-clause-letters c = IsWord-letter_texts c.args.c.now.qubits c.args.word.now c.requires

pub returns-clause-short : goal.returns-clause-short
returns-clause-short c =
    let n = c.args.c.now.qubits in
    let gates = c.gates-gates.result.now in
    let few : n ≤ 3 = omega arith in
    let same : c.into_bytes.result.items ≡ shown n gates (letter_texts c.args.word.now) = search rules in
    let small : length gates < 2 ^ 63 = search rules in
    omega (arith, ap length c.gates-gates.ensures.value, ap length same, length-shown-le n (length c.args.word.now) gates (letter_texts c.args.word.now) few small c.gates-gates.ensures.fit (IsWord-letter_texts n c.args.word.now c.requires))
