use Rattle.std.proofs.Common.{◌≡◌, ℕ, ◌*◌, ◌≤◌, ◌++◌, ◌∙◌, List, All, length, arith, sym, subst, ap}
use Rattle.std.proofs.lemmas.List.{length-map}
use Rattle.pauli_basis.specs.Pauli.{PauliString}
use Rattle.tc_circuit.specs.Model.{IsCircuit}
use Rattle.tc_circuit.specs.declared.circuit.Gate.{Gate}
use Rattle.channel_rep.specs.Cells.{ChannelGrid, scaled}
use Rattle.channel_rep.specs.Tables.{IsBuiltOf}
use Rattle.tc_bridge.specs.Block.{word_gates}
use Rattle.tc_bridge.specs.Steps.{steps_of}
use Rattle.circuit_writer.specs.Shown.{IsWord, shown, letter_texts}
use Rattle.meet_middle.specs.Halves.{spelled}
use Rattle.tcount_top.specs.Printed.{IsLeft, codes_of, word_texts}
use Rattle.tcount_top.proofs.Words.{most_nine}
use Rattle.tcount_top.proofs.Letters.{texts_are}
use Rattle.tcount_top.proofs.Printing.{exponent_low, left_permutes, left_channel, IsMade, made_shows, both_ok}
use Rattle.tcount_top.proofs.print.printed.Goals as goal

pub left_without-requires-clause-room : goal.left_without-requires-clause-room
left_without-requires-clause-room c =
    let m : ChannelGrid = c.args.target.now in
    let w = spelled c.args.word.now.first.letters c.args.word.now.middle c.args.word.now.last.letters in
    let codes : codes_of c.deref.result.now ≡ w = ap codes_of c.deref.ensures.value ∙ c.in_ok-letters.ensures.codes in
    let long : length c.deref.result.now ≡ length w = sym (length-map c.deref.result.now (λ (p : PauliString). p.code)) ∙ ap (λ (l : List ℕ). length l) codes in
    let low : m.exponent ≤ length w = exponent_low c.exponents_bound_lengths.ensures.none c.exponents_bound_lengths.ensures.reduced m c.requires.reduced w c.requires.least in
    omega (arith, c.requires.short, most_nine m.qubits)

pub rest-requires-clause-permutation : goal.rest-requires-clause-permutation
rest-requires-clause-permutation c =
    let m : ChannelGrid = c.args.target.now in
    let w = spelled c.args.word.now.first.letters c.args.word.now.middle c.args.word.now.last.letters in
    let is : IsLeft m.qubits (scaled m) w c.in_ok-left.left = subst (λ (l : List ℕ). IsLeft m.qubits (scaled m) l c.in_ok-left.left) (ap codes_of c.deref.ensures.value ∙ c.in_ok-letters.ensures.codes) c.in_ok-left.ensures in
    left_permutes m.qubits (scaled m) c.requires.circuit w c.requires.least c.in_ok-left.left is c.words_stand_behind_rests.ensures.permutation

pub rest-requires-clause-channel : goal.rest-requires-clause-channel
rest-requires-clause-channel c =
    let m : ChannelGrid = c.args.target.now in
    let w = spelled c.args.word.now.first.letters c.args.word.now.middle c.args.word.now.last.letters in
    let is : IsLeft m.qubits (scaled m) w c.in_ok-left.left = subst (λ (l : List ℕ). IsLeft m.qubits (scaled m) l c.in_ok-left.left) (ap codes_of c.deref.ensures.value ∙ c.in_ok-letters.ensures.codes) c.in_ok-left.ensures in
    left_channel m.qubits (scaled m) c.requires.circuit w c.requires.least c.in_ok-left.left is c.letters_come_off.ensures.circuit

pub push_all-requires : goal.push_all-requires
push_all-requires c =
    let blocks = subst (λ (l : List Gate). IsCircuit c.qubits.result l) (sym c.deref-3.ensures.value) c.in_ok-blocks.ensures.circuit in
    subst (λ (k : ℕ). IsCircuit k c.deref-3.result.now) (c.qubits.ensures.value ∙ sym (c.in_ok-circuit.ensures.qubits ∙ c.in_ok-left.ensures.qubits)) blocks

pub returns : goal.returns
returns c =
    let m : ChannelGrid = c.args.target.now in
    let n = m.qubits in
    let w = spelled c.args.word.now.first.letters c.args.word.now.middle c.args.word.now.last.letters in
    let left : ChannelGrid = c.in_ok-left.left in
    let rest = c.in_ok-circuit.circuit.gates in
    let letters = c.in_ok-letters.letters.items in
    let found = c.push_all.new.circuit in
    let is_left : IsLeft n (scaled m) w left = subst (λ (l : List ℕ). IsLeft n (scaled m) l left) (ap codes_of c.deref.ensures.value ∙ c.in_ok-letters.ensures.codes) c.in_ok-left.ensures in
    let codes : codes_of c.deref-2.result.now ≡ w = ap codes_of c.deref-2.ensures.value ∙ c.in_ok-letters.ensures.codes in
    let of_n : c.in_ok-circuit.circuit.qubits ≡ n = c.in_ok-circuit.ensures.qubits ∙ c.in_ok-left.ensures.qubits in
    let qubits : found.qubits ≡ n = c.push_all.ensures.qubits ∙ of_n in
    let blocks : c.in_ok-blocks.blocks.items ≡ word_gates n w = c.in_ok-blocks.ensures.blocks ∙ ap (λ (k : ℕ). word_gates k (codes_of c.deref-2.result.now)) c.qubits.ensures.value ∙ ap (word_gates n) codes in
    let gates : found.gates ≡ rest ++ word_gates n w = c.in_ok-push_all.ensures.gates ∙ ap (λ (l : List Gate). rest ++ l) (c.deref-3.ensures.value ∙ blocks) in
    let all : All (λ (p : PauliString). p.qubits ≡ n) letters = λ k d l. c.in_ok-letters.ensures.qubits k d l ∙ c.requires.qubits in
    let texts : letter_texts c.deref-4.result.now ≡ word_texts n w = ap letter_texts c.deref-4.ensures.value ∙ texts_are n letters all ∙ ap (word_texts n) c.in_ok-letters.ensures.codes in
    let is : shown found.qubits found.gates (letter_texts c.deref-4.result.now) ≡ shown n (rest ++ word_gates n w) (word_texts n w) =
    ap (λ (k : ℕ). shown k found.gates (letter_texts c.deref-4.result.now)) qubits
    ∙ ap (λ (l : List Gate). shown n l (letter_texts c.deref-4.result.now)) gates
    ∙ ap (λ (t : List (List ℕ)). shown n (rest ++ word_gates n w) t) texts in
    let long : length c.deref-2.result.now ≡ length w = sym (length-map c.deref-2.result.now (λ (p : PauliString). p.code)) ∙ ap (λ (l : List ℕ). length l) codes in
    let long_letters : length c.deref-4.result.now ≡ length w =
    ap (λ (l : List PauliString). length l) c.deref-4.ensures.value ∙ sym (length-map letters (λ (p : PauliString). p.code)) ∙ ap (λ (l : List ℕ). length l) c.in_ok-letters.ensures.codes in
    let short : length (word_gates n w) ≤ 17 * length w = omega (arith, ap (λ (l : List Gate). length l) blocks, c.in_ok-blocks.ensures.short, long) in
    let fits : IsCircuit n rest = subst (λ (k : ℕ). IsCircuit k rest) of_n (subst (λ (l : List Gate). IsCircuit c.in_ok-circuit.circuit.qubits l) c.gates-rest.ensures.value c.gates-rest.ensures.fit) in
    let of_left : IsBuiltOf n (steps_of rest) (scaled left) = subst (λ (k : ℕ). IsBuiltOf k (steps_of rest) (scaled left)) c.in_ok-left.ensures.qubits c.in_ok-circuit.ensures.built in
    let few : length w ≤ 18 = omega (arith, c.requires.short, most_nine n) in
    both_ok c.text.result _ _ _ c.text.ensures.shown c.text.ensures.letters (λ bytes shows is_word c' small same built.
    let made : IsMade n (scaled m) w bytes.items = record {
      least = c.requires.least;
      few = few;
      left = left;
      is_left = is_left;
      rest = rest;
      is_rest = c.in_ok-circuit.ensures.gates;
      fits = fits;
      no_t = c.in_ok-circuit.ensures.no_t;
      short = c.in_ok-circuit.ensures.short;
      of_left = of_left;
      blocks = omega (arith, short);
      letters = subst (λ (t : List (List ℕ)). IsWord n (length w) t) texts
          (subst (λ (k : ℕ). IsWord n k (letter_texts c.deref-4.result.now)) long_letters (subst (λ (k : ℕ). IsWord k (length c.deref-4.result.now) (letter_texts c.deref-4.result.now)) qubits is_word));
      shows = shows ∙ is;
    } in
    made_shows c.tables_compare.ensures c.words_stand_behind_rests.ensures.least c.printed_texts_read_back.ensures.word c' small (scaled m) built w bytes.items (subst (λ (k : ℕ). IsMade k (scaled m) w bytes.items) (sym same) made))
