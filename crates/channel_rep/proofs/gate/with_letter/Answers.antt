use Rattle.std.proofs.Common.{ℕ, ◌*◌, ◌%◌, ◌^◌, bit_xor, ap, ◌∙◌}
use Rattle.channel_rep.proofs.Images.{with_letter_shifted}
use Rattle.channel_rep.proofs.gate.with_letter.Goals as goal

pub returns : goal.returns
returns c =
    ap (λ (l : ℕ). bit_xor c.args.code (bit_xor l c.args.letter * 2 ^ (2 * c.args.q) % 256)) c.letter_of.ensures.value
    ∙ with_letter_shifted c.args.q c.args.code c.args.letter c.requires.qubit c.requires.letter
