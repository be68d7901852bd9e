use Rattle.tcount_top.proofs.Existence.{outcomes_exist}
use Rattle.tcount_top.proofs.laws.outcomes_exist.Goals as goal

pub returns : goal.returns
returns c =
    let small = c.read_circuits_are_small.ensures in
    let counts = c.least_counts_are_lengths.ensures in
    outcomes_exist
    record {
      tables = c.tables_compare.ensures;
      built = c.circuits_have_one_channel.ensures.built;
      exist = counts.exists;
      lengths = counts.lengths;
      permutes = c.words_stand_behind_rests.ensures.permutation;
      grids = c.words_stand_behind_rests.ensures.grid;
      circuits = c.letters_come_off.ensures.circuit;
      cliffords = c.permutations_have_circuits.ensures;
      make = c.words_stand_behind_rests.ensures.least;
      prints = c.printed_texts_read_back.ensures.word;
    }
    record {
      reads = c.one_reading.ensures.some;
      halves = c.one_halving.ensures.some;
      small = λ text x h. record { some = small.some text x h; few = small.few text x h; fit = small.fit text x h };
      counted = λ text x h. counts.exists x.qubits (small.some text x h) (small.few text x h) x.gates (small.fit text x h);
      same_or_not = c.sameness_is_decided.ensures;
    }
