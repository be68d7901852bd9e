use Rattle.qasm_reader.proofs.Halving as lemmas
use Rattle.qasm_reader.proofs.laws.one_halving.Goals as goal

pub returns : goal.returns
returns c = record {
  some = lemmas.some_halving;
  place = lemmas.one_place;
  never_none = lemmas.halves_never_none;
  never_bad = lemmas.halves_never_bad;
  none_never_bad = lemmas.none_never_bad;
}
