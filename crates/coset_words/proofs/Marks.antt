-- Marks of words.
use Rattle.std.proofs.Common.{ap, sym, ◌∙◌}
use Rattle.coset_label.specs.Labels.{Label}
use Rattle.coset_label.specs.Tags.{tag_of}
use Rattle.coset_label.proofs.WordChannels.{one_label_of_words}
use Rattle.coset_words.specs.Marks.{CosetsHaveOneMark}

-- words of one coset have one mark
pub one_mark : CosetsHaveOneMark
one_mark n some few v w hv hw same mark other is is_other =
    let label = one_label_of_words n v w is.label is_other.label is.labelled is_other.labelled some few hv hw same in
    λ i. record {
      exponent = (is.exponent ∙ ap (λ (l : Label). l.exponent) label ∙ sym is_other.exponent) i;
      tag = (is.tag ∙ ap tag_of label ∙ sym is_other.tag) i;
    }
