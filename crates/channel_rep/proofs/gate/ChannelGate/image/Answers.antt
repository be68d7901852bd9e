use Rattle.std.proofs.Common.{ap, sym, ◌∙◌, subst}
use Rattle.channel_rep.specs.Gates.{GateFits, image, h_letter, s_letter, sdg_letter}
use Rattle.channel_rep.specs.declared.gate.ChannelGate.{ChannelGate}
use Rattle.channel_rep.proofs.Images.{on_qubit_is}
use Rattle.channel_rep.proofs.gate.ChannelGate.image.Goals as goal

pub returns-in-H : goal.returns-in-H
unfolding image
returns-in-H c = λ n few fits l.
    on_qubit_is h_letter c.in-H.q c.args.code _ _ _ c.letter_of.ensures.value c.h_letter.ensures.value c.on_qubit.ensures
    ∙ sym (ap (λ (g : ChannelGate). image n g c.args.code) c.in-H.is)

pub returns-in-S : goal.returns-in-S
unfolding image
returns-in-S c = λ n few fits l.
    on_qubit_is s_letter c.in-S.q c.args.code _ _ _ c.letter_of-in-S.ensures.value c.s_letter.ensures.value c.on_qubit-in-S.ensures
    ∙ sym (ap (λ (g : ChannelGate). image n g c.args.code) c.in-S.is)

pub returns-in-Sdg : goal.returns-in-Sdg
unfolding image
returns-in-Sdg c = λ n few fits l.
    on_qubit_is sdg_letter c.in-Sdg.q c.args.code _ _ _ c.letter_of-in-Sdg.ensures.value c.sdg_letter.ensures.value c.on_qubit-in-Sdg.ensures
    ∙ sym (ap (λ (g : ChannelGate). image n g c.args.code) c.in-Sdg.is)

pub returns-in-Cx : goal.returns-in-Cx
unfolding image
returns-in-Cx c = λ n few fits l.
    let both = subst (GateFits n) c.in-Cx.is fits in
    c.cx_image.ensures n few both.0 both.1 l ∙ sym (ap (λ (g : ChannelGate). image n g c.args.code) c.in-Cx.is)
