use Rattle.std.proofs.Common.{◌≡◌, ℕ, suc, ◌-◌, ◌++◌, ◌∷◌, [], List, length, ap, ◌∙◌, arith}
use Rattle.meet_middle.proofs.Splitting.{cut_last}
use Rattle.meet_middle.proofs.fronts.split_last.Goals as goal

pub from_letters-before-requires : goal.from_letters-before-requires
from_letters-before-requires c =
    let long : suc (c.len-end.result - 1) ≡ length c.args.word.letters = omega (arith, c.len.ensures.value, c.len-end.ensures.value, c.if-len-eq0.false) in
    (cut_last c.args.word c.len.ensures.valid c.qubits-n.result (c.len-end.result - 1) c.letters.result c.qubits-n.ensures.value long c.letters.ensures.value).packed

pub returns-clause-letters : goal.returns-clause-letters
returns-clause-letters c =
    let long : suc (c.len-end.result - 1) ≡ length c.args.word.letters = omega (arith, c.len.ensures.value, c.len-end.ensures.value, c.if-len-eq0.false) in
    ap (λ (l : List ℕ). l ++ c.letter.result.code ∷ []) c.from_letters-before.ensures.letters
    ∙ (cut_last c.args.word c.len.ensures.valid c.qubits-n.result (c.len-end.result - 1) c.letters.result c.qubits-n.ensures.value long c.letters.ensures.value).joined c.letter.result.code c.letter.ensures.code
