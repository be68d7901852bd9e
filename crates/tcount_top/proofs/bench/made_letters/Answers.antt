use Rattle.std.proofs.Common.{◌≡◌, ◌≢◌, ◌+◌, ◌++◌, ◌∷◌, [], List, All, ap, sym, subst, ◌∙◌, length, length-append, arith}
use Rattle.std.proofs.lemmas.List.{map-append}
use Rattle.std.proofs.lemmas.List.Elements.{All-push}
use Rattle.pauli_basis.specs.Pauli.{PauliString}
use Rattle.tcount_top.specs.Bench.{next_state, state_after, drawn, code_by}
use Rattle.tcount_top.specs.Printed.{codes_of}
use Rattle.tcount_top.proofs.Made.{state_more, word_more}
use Rattle.tcount_top.proofs.bench.made_letters.Goals as goal

pub loop-preserved : goal.loop-preserved
loop-preserved c =
    let n = c.args.n in
    let seed = c.args.seed in
    let count = c.loop.counter in
    let old = c.loop.letters.items in
    let p : PauliString = c.letter_by.result in
    let is = c.in_ok-push.ensures.items in
    let i = c.loop.invariant in
    let state : c.draw.new.self.state ≡ state_after seed (count + 1) = c.draw.ensures.state ∙ ap next_state i.state ∙ sym (state_more seed count) in
    let code : p.code ≡ code_by n (drawn (state_after seed (count + 1))) = c.letter_by.ensures.code ∙ ap (code_by n) (c.draw.ensures.number ∙ ap drawn state) in
    let other : p.code ≢ 0 = λ zero. omega (arith, zero, code) in
    record {
      state = state;
      qubits = subst (All (λ (x : PauliString). x.qubits ≡ n)) (sym is) (All-push (λ (x : PauliString). x.qubits ≡ n) old p i.qubits c.letter_by.ensures.qubits);
      other = subst (All (λ (x : PauliString). x.code ≢ 0)) (sym is) (All-push (λ (x : PauliString). x.code ≢ 0) old p i.other other);
      codes = ap codes_of is ∙ map-append (λ (x : PauliString). x.code) old (p ∷ []) ∙ (λ j. i.codes j ++ code j ∷ []) ∙ sym (word_more n count seed);
      long = omega (arith, ap (λ (l : List PauliString). length l) is, length-append old (p ∷ []), i.long);
    }
