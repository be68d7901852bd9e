use Rattle.std.proofs.Common.{ℕ, ◌+◌, length, sym, subst}
use Rattle.tc_circuit.specs.Circuit.{Gates, IsSmallCircuit}
use Rattle.channel_rep.specs.Cells.{ChannelGrid, scaled}
use Rattle.level_laws.specs.Levels.{IsLeastWord, NoneBelow}
use Rattle.meet_middle.specs.Halves.{spelled}
use Rattle.meet_middle.specs.Answers.{IsAnswer}
use Rattle.meet_middle.specs.declared.answer.Answer.{Answer}
use Rattle.tcount_top.proofs.Outcomes.{least_of_word, found_out, above_out}
use Rattle.tcount_top.proofs.synth.answer_within.Goals as goal

pub returns-in-Least : goal.returns-in-Least
returns-in-Least g c = λ text short reads.
    let circuit : Gates = c.args.circuit.now in
    let channel : ChannelGrid = c.in_ok-channel.channel in
    let small : IsSmallCircuit circuit = record {
      some = c.read_circuits_are_small.ensures.some text circuit reads;
      few = c.read_circuits_are_small.ensures.few text circuit reads;
      fit = c.read_circuits_are_small.ensures.fit text circuit reads;
    } in
    let w = spelled c.in-Least.word.first.letters c.in-Least.word.middle c.in-Least.word.last.letters in
    let answer = subst (λ (a : Answer). IsAnswer channel.qubits (scaled channel) c.args.bound a) c.in-Least.is c.in_ok-channel.ensures.answer in
    let least : IsLeastWord circuit.qubits (scaled channel) w = subst (λ (n : ℕ). IsLeastWord n (scaled channel) w) c.in_ok-channel.ensures.qubits answer.least in
    found_out c.args.bound text circuit short reads c.requires.bound (length w) (least_of_word c.least_counts_are_lengths.ensures.lengths circuit small (scaled channel) c.in_ok-channel.ensures.built w least) answer.within
    c.in_ok-bytes-in-Least.bytes.items (c.in_ok-bytes-in-Least.ensures circuit small (sym c.in_ok-channel.ensures.qubits) c.in_ok-channel.ensures.built)

pub returns : goal.returns
returns g c = λ text short reads.
    let circuit : Gates = c.args.circuit.now in
    let channel : ChannelGrid = c.in_ok-channel.channel in
    let small : IsSmallCircuit circuit = record {
      some = c.read_circuits_are_small.ensures.some text circuit reads;
      few = c.read_circuits_are_small.ensures.few text circuit reads;
      fit = c.read_circuits_are_small.ensures.fit text circuit reads;
    } in
    let none : NoneBelow circuit.qubits (scaled channel) (c.args.bound + 1) = subst (λ (n : ℕ). NoneBelow n (scaled channel) (c.args.bound + 1)) c.in_ok-channel.ensures.qubits
    (subst (λ (a : Answer). IsAnswer channel.qubits (scaled channel) c.args.bound a) c.in-Above.is c.in_ok-channel.ensures.answer) in
    above_out c.least_counts_are_lengths.ensures.exists c.least_counts_are_lengths.ensures.above c.args.bound text circuit small short reads c.requires.bound (scaled channel) c.in_ok-channel.ensures.built none
    c.in_ok-line-in-Above.line.items c.in_ok-line-in-Above.ensures
