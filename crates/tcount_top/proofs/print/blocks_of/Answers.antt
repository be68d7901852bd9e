use Rattle.std.proofs.Common.{◌≡◌, ℕ, ◌-◌, ◌<◌, ◌≤◌, List, ◌++◌, cond, ◌+◌, length, ap, sym, subst, ◌∙◌, arith, length-append}
use Rattle.std.proofs.lemmas.List.Sums.{sum_by-append}
use Rattle.std.proofs.lemmas.List.Elements.{All-append, All-from_recursion, recursion_from_All}
use Rattle.tc_circuit.specs.Gate.{Fits, is_t}
use Rattle.tc_circuit.specs.Model.{IsCircuit, t_count_of}
use Rattle.tc_circuit.specs.declared.circuit.Gate.{Gate}
use Rattle.pauli_basis.specs.Pauli.{PauliString}
use Rattle.tc_bridge.specs.Block.{block, word_gates}
use Rattle.tcount_top.specs.Printed.{codes_of}
use Rattle.tcount_top.proofs.Letters.{code_at, drop_letter}
use Rattle.tcount_top.proofs.print.blocks_of.Goals as goal

pub loop-place-preserved : goal.loop-place-preserved
loop-place-preserved c =
    let n = c.args.n in
    let p : PauliString = c.index-letters-place.result in
    let place = c.loop-place.place in
    let letters = codes_of c.args.letters.now in
    let old = c.loop-place.gates.items in
    let i = c.loop-place.invariant in
    let below : place - 1 < length c.args.letters.now = omega (arith, c.loop-place-test.true, c.loop-place.auto.place) in
    let qubits : p.qubits ≡ n = subst (λ (x : PauliString). x.qubits ≡ n) (sym c.index-letters-place.is) (c.requires.qubits (place - 1) p below) in
    let added : c.rotation_gates.new.out.items ≡ old ++ block n p.code = c.rotation_gates.ensures.appended ∙ ap (λ (k : ℕ). old ++ block k p.code) qubits in
    let one : t_count_of (block n p.code) ≡ 1 = subst (λ (k : ℕ). t_count_of (block k p.code) ≡ 1) qubits c.rotation_gates.ensures.one_t in
    let own : IsCircuit n (block n p.code) = subst (λ (k : ℕ). IsCircuit k (block k p.code)) qubits c.rotation_gates.ensures.circuit in
    let both = All-append (Fits n) old (block n p.code) (All-from_recursion (Fits n) old i.circuit) (All-from_recursion (Fits n) (block n p.code) own) in
    let count : t_count_of c.rotation_gates.new.out.items ≡ t_count_of (old ++ block n p.code) = ap t_count_of added in
    let split : t_count_of (old ++ block n p.code) ≡ t_count_of old + t_count_of (block n p.code) = sum_by-append (λ (g : Gate). cond (is_t g) 1 0) old (block n p.code) in
    let long : length c.rotation_gates.new.out.items ≡ length (old ++ block n p.code) = ap (λ (l : List Gate). length l) added in
    let short = subst (λ (k : ℕ). length (block k p.code) ≤ 17) qubits c.rotation_gates.ensures.short in
    record {
      room = omega (arith, i.room, long, short, length-append old (block n p.code), c.loop-place-test.true, c.rotation_gates.ensures.room, c.rotation_gates.new.out.ok.0, c.loop-place.gates.ok.0);
      blocks =
          added ∙ ap (λ (l : List Gate). l ++ block n p.code) i.blocks
          ∙ ap (word_gates n) (sym (drop_letter letters place p.code c.loop-place-test.true (code_at c.args.letters.now (place - 1) p below c.index-letters-place.is)));
      circuit = subst (λ (l : List Gate). IsCircuit n l) (sym added) (recursion_from_All (Fits n) (old ++ block n p.code) both);
      count = omega (arith, count, split, one, i.count, c.loop-place-test.true);
      short = omega (arith, long, length-append old (block n p.code), short, i.short, c.loop-place-test.true);
    }
