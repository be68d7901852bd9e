use Rattle.std.proofs.Common.{◌↔◌, ℕ, IsTrue, Some, None, sym, ◌∙◌, subst}
use Rattle.channel_rep.specs.Words.{IsWord}
use Rattle.coset_label.specs.Cosets.{SameCosetWords}
use Rattle.coset_label.specs.Words.{word_channel}
use Rattle.coset_words.specs.Marks.{IsMarkOf}
use Rattle.level_store.specs.Filling.{shape_with}
use Rattle.level_store.specs.Stored.{letters_in, Finds}
use Rattle.level_store.proofs.Looks.{past_mark, found_alone, missed_alone, found_beside}
use Rattle.level_store.proofs.Merely.{stored_of, level_beside, buckets_beside}
use Rattle.level_store.proofs.Probing.{tag_of_mark}
use Rattle.level_store.proofs.level.Level.find_word.Goals as goal

pub returns-then-mark-self-clause-finds : goal.returns-then-mark-self-clause-finds
returns-then-mark-self-clause-finds c =
    let l = c.args.self.now in
    let w = c.args.word in
    subst (λ n. Finds n l.len (word_channel w.qubits w.letters) None) c.requires.qubits (past_mark w.qubits l.len w.letters c.args.mark c.requires.mark c.if-mark-self.true)

pub probe_word-requires-clause-shape : goal.probe_word-requires-clause-shape
probe_word-requires-clause-shape c =
    (buckets_beside c.args.self.now c.qubits.result (c.qubits.ensures.value ∙ c.requires.qubits) c.in-Some.buckets c.in-Some.is c.words-words.result.now c.words-words.ensures).0

pub probe_word-requires-clause-valid : goal.probe_word-requires-clause-valid
probe_word-requires-clause-valid c =
    (buckets_beside c.args.self.now c.qubits.result (c.qubits.ensures.value ∙ c.requires.qubits) c.in-Some.buckets c.in-Some.is c.words-words.result.now c.words-words.ensures).1.valid

pub probe_word-requires-clause-reached : goal.probe_word-requires-clause-reached
probe_word-requires-clause-reached c =
    (buckets_beside c.args.self.now c.qubits.result (c.qubits.ensures.value ∙ c.requires.qubits) c.in-Some.buckets c.in-Some.is c.words-words.result.now c.words-words.ensures).1.reached

pub probe_word-requires-clause-tag : goal.probe_word-requires-clause-tag
probe_word-requires-clause-tag c =
    let l = c.args.self.now in
    let w = c.args.word.letters in
    let words = c.words-words.result.now in
    let e = sym c.qubits.ensures.value in
    let fit = (buckets_beside l c.qubits.result (c.qubits.ensures.value ∙ c.requires.qubits) c.in-Some.buckets c.in-Some.is words c.words-words.ensures).0 in
    tag_of_mark (shape_with c.qubits.result l.len words) fit w (subst (λ n. IsWord n w) e c.qubits.ensures.valid.word) c.args.mark (subst (λ n. IsMarkOf n w c.args.mark) e c.requires.mark)

pub returns-in-Some-clause-finds : goal.returns-in-Some-clause-finds
returns-in-Some-clause-finds c =
    let l = c.args.self.now in
    let w = c.args.word.letters in
    let q = c.qubits.result in
    let words = c.words-words.result.now in
    let own = c.qubits.ensures.value in
    let level = level_beside l q (own ∙ c.requires.qubits) in
    let at = buckets_beside l q (own ∙ c.requires.qubits) c.in-Some.buckets c.in-Some.is words c.words-words.ensures in
    let r = c.probe_word.result in
    let found : Finds q l.len (word_channel q w) r = found_beside (shape_with q l.len words) (letters_in l) level.level words at.1 w r c.probe_word.ensures.some c.probe_word.ensures.none in
    subst (λ (z : ℕ × ℕ). Finds z.0 l.len (word_channel z.1 w) r) (λ i. ((own ∙ c.requires.qubits) i, own i)) found

pub returns-then-of_one_coset-clause-finds : goal.returns-then-of_one_coset-clause-finds
returns-then-of_one_coset-clause-finds c =
    let l = c.args.self.now in
    let w = c.args.word.letters in
    let e = c.requires.qubits in
    let empty = c.empty-empty.result in
    let tells = subst (λ n. IsTrue c.of_one_coset.result ↔ SameCosetWords n w empty.letters) e c.of_one_coset.ensures.coset in
    subst (λ n. Finds l.n l.len (word_channel n w) (Some empty)) (sym e)
    (found_alone l.n l.len ((stored_of l).none.0 c.in-None.is) w empty c.empty-empty.ensures c.of_one_coset.result tells c.if-of_one_coset.true)

pub returns-else-of_one_coset-clause-finds : goal.returns-else-of_one_coset-clause-finds
returns-else-of_one_coset-clause-finds c =
    let l = c.args.self.now in
    let w = c.args.word.letters in
    let e = c.requires.qubits in
    let empty = c.empty-empty.result in
    let tells = subst (λ n. IsTrue c.of_one_coset.result ↔ SameCosetWords n w empty.letters) e c.of_one_coset.ensures.coset in
    subst (λ n. Finds l.n l.len (word_channel n w) None) (sym e)
    (missed_alone l.n l.len ((stored_of l).none.0 c.in-None.is) w empty c.empty-empty.ensures c.of_one_coset.result tells c.if-of_one_coset.false)
