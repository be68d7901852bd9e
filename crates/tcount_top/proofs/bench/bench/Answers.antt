use Rattle.std.proofs.Common.{◌≡◌, ℕ, ◌+◌, ◌∙◌, List, All, length, string_bytes, ap, sym, subst}
use Rattle.std.proofs.lemmas.List.{length-map}
use Rattle.pauli_basis.specs.Pauli.{PauliString}
use Rattle.tc_circuit.specs.Circuit.{Gates}
use Rattle.tc_circuit.specs.Model.{IsCircuit}
use Rattle.tc_circuit.specs.declared.circuit.Gate.{Gate}
use Rattle.channel_rep.specs.Cells.{ChannelGrid, scaled}
use Rattle.circuit_writer.specs.Shown.{letter_texts}
use Rattle.level_laws.specs.Levels.{IsLeastWord, NoneBelow}
use Rattle.meet_middle.specs.Halves.{spelled}
use Rattle.meet_middle.specs.Answers.{IsAnswer}
use Rattle.meet_middle.specs.declared.answer.Answer.{Answer}
use Rattle.tcount_top.specs.Bench.{bench_head}
use Rattle.tcount_top.specs.Printed.{word_texts}
use Rattle.tcount_top.proofs.Letters.{texts_are}
use Rattle.tcount_top.proofs.Made.{found_line, above_line}
use Rattle.tcount_top.proofs.bench.bench.Goals as goal

pub returns-in-Least : goal.returns-in-Least
returns-in-Least g c =
    let n = c.args.n in
    let circuit : Gates = c.in_ok-circuit.circuit in
    let fit : IsCircuit circuit.qubits circuit.gates = subst (λ (l : List Gate). IsCircuit circuit.qubits l) c.gates-gates.ensures.value c.gates-gates.ensures.fit in
    let channel : ChannelGrid = c.in_ok-answer.field-0-0 in
    let w = spelled c.in-Least.word.first.letters c.in-Least.word.middle c.in-Least.word.last.letters in
    let of_n : channel.qubits ≡ n = c.in_ok-answer.ensures.qubits ∙ c.in_ok-circuit.ensures.qubits in
    let found = subst (λ (a : Answer). IsAnswer channel.qubits (scaled channel) c.args.bound a) c.in-Least.is c.in_ok-answer.ensures.answer in
    let least : IsLeastWord n (scaled channel) w = subst (λ (k : ℕ). IsLeastWord k (scaled channel) w) of_n found.least in
    let letters = c.in_ok-letters-in-Least.letters.items in
    let all : All (λ (p : PauliString). p.qubits ≡ n) letters = λ k d l. c.in_ok-letters-in-Least.ensures.qubits k d l ∙ found.qubits ∙ of_n in
    let texts : letter_texts c.deref.result.now ≡ word_texts n w = ap letter_texts c.deref.ensures.value ∙ texts_are n letters all ∙ ap (word_texts n) c.in_ok-letters-in-Least.ensures.codes in
    let long : length c.deref.result.now ≡ length w =
    ap (λ (l : List PauliString). length l) c.deref.ensures.value ∙ sym (length-map letters (λ (p : PauliString). p.code)) ∙ ap (λ (l : List ℕ). length l) c.in_ok-letters-in-Least.ensures.codes in
    let front = string_bytes c.in_ok-line.line in
    let head : front ≡ bench_head n c.args.t c.args.seed (length circuit.gates) = subst (λ (l : List Gate). front ≡ bench_head n c.args.t c.args.seed (length l)) c.gates-gates.ensures.value c.in_ok-line.ensures in
    found_line
    record { tables = c.tables_compare.ensures; classes = c.tables_are_classes.ensures; exist = c.least_counts_are_lengths.ensures.exists; lengths = c.least_counts_are_lengths.ensures.lengths; pass = c.least_counts_are_lengths.ensures.above }
    n c.args.t c.args.seed c.args.bound c.requires.some c.requires.few circuit c.in_ok-circuit.ensures.qubits c.in_ok-circuit.ensures.gates fit (scaled channel) c.in_ok-answer.ensures.built w least found.within
    front head (length c.deref.result.now) long (letter_texts c.deref.result.now) texts c.into_bytes.result.items (rw c.into_bytes.ensures.value c.in_ok-push_found-in-Least.ensures)

pub returns : goal.returns
returns g c =
    let n = c.args.n in
    let circuit : Gates = c.in_ok-circuit.circuit in
    let fit : IsCircuit circuit.qubits circuit.gates = subst (λ (l : List Gate). IsCircuit circuit.qubits l) c.gates-gates.ensures.value c.gates-gates.ensures.fit in
    let channel : ChannelGrid = c.in_ok-answer.field-0-0 in
    let of_n : channel.qubits ≡ n = c.in_ok-answer.ensures.qubits ∙ c.in_ok-circuit.ensures.qubits in
    let none : NoneBelow n (scaled channel) (c.args.bound + 1) = subst (λ (k : ℕ). NoneBelow k (scaled channel) (c.args.bound + 1)) of_n
    (subst (λ (a : Answer). IsAnswer channel.qubits (scaled channel) c.args.bound a) c.in-Above.is c.in_ok-answer.ensures.answer) in
    let front = string_bytes c.in_ok-line.line in
    let head : front ≡ bench_head n c.args.t c.args.seed (length circuit.gates) = subst (λ (l : List Gate). front ≡ bench_head n c.args.t c.args.seed (length l)) c.gates-gates.ensures.value c.in_ok-line.ensures in
    above_line
    record { tables = c.tables_compare.ensures; classes = c.tables_are_classes.ensures; exist = c.least_counts_are_lengths.ensures.exists; lengths = c.least_counts_are_lengths.ensures.lengths; pass = c.least_counts_are_lengths.ensures.above }
    n c.args.t c.args.seed c.args.bound c.requires.some c.requires.few circuit c.in_ok-circuit.ensures.qubits c.in_ok-circuit.ensures.gates fit (scaled channel) c.in_ok-answer.ensures.built none
    front head c.into_bytes-in-Above.result.items (rw c.into_bytes-in-Above.ensures.value c.in_ok-push_above-in-Above.ensures)
