use Rattle.std.proofs.Common.{refl}
use Rattle.tc_circuit.specs.Circuit.{Gates, IsSmallCircuit}
use Rattle.channel_rep.specs.Tables.{built}
use Rattle.tc_bridge.specs.Steps.{steps_of}
use Rattle.tcount_top.proofs.OneOutcome.{one_outcome}
use Rattle.tcount_top.proofs.laws.one_outcome.Goals as goal

pub returns-clause-one : goal.returns-clause-one
returns-clause-one c = one_outcome
    record {
      never_both = c.one_reading.ensures.never_both;
      circuit = c.one_reading.ensures.circuit;
      refusal = c.one_reading.ensures.refusal;
      small = λ text x h. record { some = c.read_circuits_are_small.ensures.some text x h; few = c.read_circuits_are_small.ensures.few text x h; fit = c.read_circuits_are_small.ensures.fit text x h };
      itself = λ (x : Gates) (small : IsSmallCircuit x).
          let channel = c.circuits_have_one_channel.ensures.exists x.qubits small.some small.few x.gates small.fit in
          (c.one_channel_where_same.ensures x.qubits small.some small.few x.gates x.gates small.fit small.fit (built x.qubits (steps_of x.gates)) (built x.qubits (steps_of x.gates)) channel channel).0 (λ row column low below. refl);
    }
    record {
      bad = c.one_cut.ensures.bad;
      place = c.one_halving.ensures.place;
      never_none = c.one_halving.ensures.never_none;
      never_bad = c.one_halving.ensures.never_bad;
      none_never_bad = c.one_halving.ensures.none_never_bad;
    }
    c.printed_once.ensures
    c.cosets_have_least_words.ensures.unique

pub returns-clause-counted : goal.returns-clause-counted
returns-clause-counted c = λ text x h.
    c.least_counts_are_lengths.ensures.exists x.qubits (c.read_circuits_are_small.ensures.some text x h) (c.read_circuits_are_small.ensures.few text x h) x.gates (c.read_circuits_are_small.ensures.fit text x h)
