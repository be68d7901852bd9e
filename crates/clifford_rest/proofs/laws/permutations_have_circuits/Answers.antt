use Rattle.clifford_rest.proofs.Rests.{rest_circuit, rest_count, rest_short, rest_built, rest_channel}
use Rattle.clifford_rest.proofs.laws.permutations_have_circuits.Goals as goal

pub returns : goal.returns
returns c = λ grid h. record {
  fits = rest_circuit grid h.some h.few h.permutation h.channel;
  no_t = rest_count grid h.some h.few h.permutation h.channel;
  short = rest_short grid h.some h.few h.permutation h.channel;
  built = rest_built grid h.some h.few h.permutation h.channel;
  channel = rest_channel grid h.some h.few h.permutation h.channel;
}
