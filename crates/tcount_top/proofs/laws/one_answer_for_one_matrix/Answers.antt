use Rattle.tcount_top.proofs.OneAnswer.{one_answer_for_one_matrix}
use Rattle.tcount_top.proofs.laws.one_answer_for_one_matrix.Goals as goal

pub returns : goal.returns
returns c = one_answer_for_one_matrix record {
  never_both = c.one_reading.ensures.never_both;
  circuit = c.one_reading.ensures.circuit;
  small = λ text x h. record { some = c.read_circuits_are_small.ensures.some text x h; few = c.read_circuits_are_small.ensures.few text x h; fit = c.read_circuits_are_small.ensures.fit text x h };
  have = c.circuits_have_one_channel.ensures.exists;
  one = c.one_channel_where_same.ensures;
  lengths = c.least_counts_are_lengths.ensures.lengths;
  once = c.printed_once.ensures;
}
