use Rattle.tcount_top.proofs.Complete.{answers_complete}
use Rattle.tcount_top.proofs.laws.answers_are_complete.Goals as goal

pub returns : goal.returns
returns c = answers_complete record {
  never_both = c.one_reading.ensures.never_both;
  circuit = c.one_reading.ensures.circuit;
  place = c.one_halving.ensures.place;
  never_none = c.one_halving.ensures.never_none;
  never_bad = c.one_halving.ensures.never_bad;
}
