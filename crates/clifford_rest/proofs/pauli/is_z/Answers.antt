use Rattle.std.proofs.Common.{ℕ, ◌*◌, ◌^◌, nat_eq, ap, ◌∙◌, arith}
use Rattle.channel_rep.proofs.Images.{letter_shifted}
use Rattle.clifford_rest.proofs.pauli.is_z.Goals as goal

pub returns : goal.returns
returns c =
    ap (λ (n : ℕ). nat_eq c.code.result n) (letter_shifted c.args.q 3 c.requires (omega arith)) ∙ ap (λ (n : ℕ). nat_eq n (3 * 4 ^ c.args.q)) c.code.ensures
