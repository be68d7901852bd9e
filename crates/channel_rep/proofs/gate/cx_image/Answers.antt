use Rattle.std.proofs.Common.{◌∙◌}
use Rattle.channel_rep.proofs.Images.{crossed_is}
use Rattle.channel_rep.proofs.gate.cx_image.Goals as goal

pub returns : goal.returns
returns c = λ n few control target l.
    c.new.ensures ∙ crossed_is n c.args.control c.args.target c.args.code _ _ few control target c.requires.apart l c.letter_of-c.ensures.value c.letter_of-t.ensures.value
