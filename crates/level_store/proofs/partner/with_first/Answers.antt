use Rattle.std.proofs.Common.{◌∷◌, ◌++◌, [], ◌≡◌, ◌+◌, ◌<◌, ◌≤◌, length, drop, ap, sym, ◌∙◌, subst, arith}
use Rattle.coset_label.specs.Words.{RotationWord, most_letters}
use Rattle.coset_words.proofs.Fronts.{moved}
use Rattle.level_store.proofs.Made.{room_more}
use Rattle.level_store.proofs.partner.with_first.Goals as goal

pub push_back-replaced-requires-in-loop-i-clause-room : goal.push_back-replaced-requires-in-loop-i-clause-room
push_back-replaced-requires-in-loop-i-clause-room c =
    let i = c.loop-i.i in
    let below : i < length c.args.word.letters = omega (arith, c.loop-i-test.true, c.len-i-end.ensures.value) in
    subst (λ q. length c.loop-i.replaced.letters < most_letters q) (sym c.loop-i.invariant.qubits)
    (room_more c.loop-i.replaced.letters c.args.word.letters c.args.letter.code i (most_letters c.args.word.qubits) c.loop-i.invariant.letters below c.requires.some c.requires.room)

pub loop-i-preserved : goal.loop-i-preserved
loop-i-preserved c = record {
  within = omega (arith, c.loop-i-test.true, c.len-i-end.ensures.value);
  qubits = ap (λ (w : RotationWord). w.qubits) c.push_back-replaced-in-loop-i.ensures ∙ c.loop-i.invariant.qubits;
  letters =
      ap (λ (w : RotationWord). w.letters ++ drop (c.loop-i.i + 1) c.args.word.letters) c.push_back-replaced-in-loop-i.ensures
      ∙ (moved c.args.word.letters c.loop-i.i c.letter.result.code c.letter.ensures.code c.loop-i.replaced.letters ∙ c.loop-i.invariant.letters);
}
