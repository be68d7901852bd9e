use Rattle.std.proofs.Common.{◌≡◌, ◌^◌, ◌<◌, ap, sym, ◌∙◌, subst, ℕ}
use Rattle.channel_rep.specs.Cells.{table_of}
use Rattle.clifford_rest.proofs.Permutations.{sent_is}
use Rattle.clifford_rest.proofs.pauli.image_of.Goals as goal

pub returns-clause-value : goal.returns-clause-value
returns-clause-value c =
    let below = subst (λ (n : ℕ). c.args.code < 4 ^ n) (sym c.qubits.ensures.value) c.requires.below in
    let column : c.of_code.result.code ≡ c.args.code = c.of_code.ensures.whole below in
    sym (sent_is c.args.c.now c.requires.permutation c.args.code c.requires.below c.image.result.code c.image.result.is_negative c.image.ensures.code
    (ap (λ (k : ℕ). table_of c.args.c.now c.image.result.code k) (sym column) ∙ c.image.ensures.cell))
