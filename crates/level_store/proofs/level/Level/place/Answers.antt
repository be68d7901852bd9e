use Rattle.std.proofs.Common.{rules, ap, sym, ◌∙◌, subst}
use Rattle.std.proofs.lemmas.List.Sorted.{answers_always}
use Rattle.channel_rep.specs.Words.{IsWord}
use Rattle.coset_label.specs.Words.{packed}
use Rattle.level_store.specs.InOrder.{qubits_of, len_of}
use Rattle.level_store.specs.Stored.{words_of}
use Rattle.level_store.proofs.Merely.{stored_of}
use Rattle.level_store.proofs.Places.{found_at, search_at}
use Rattle.level_store.proofs.level.Level.place.Goals as goal

pub returns-in-Ok : goal.returns-in-Ok
returns-in-Ok c =
    let l = c.args.self.now in
    let st = stored_of l in
    let word = c.letters-letters.ensures.valid.word in
    let facts = c.binary_search_by_key.ensures in
    let by_key = facts.position (λ w. packed w.qubits w.letters) (answers_always _ _ _ (λ f a r g called. search rules)) in
    sym (ap found_at c.in-Ok.is)
    ∙ search_at (qubits_of l) (len_of l) (words_of l) st.level st.words c.args.word c.requires.qubits c.requires.len (subst (λ n. IsWord n c.args.word.letters) c.requires.qubits word)
    c.letters-letters.result c.letters-letters.ensures.value c.deref.result.now c.deref.ensures.value c.binary_search_by_key.result facts.bound by_key

pub returns-in-Err : goal.returns-in-Err
returns-in-Err c =
    let l = c.args.self.now in
    let st = stored_of l in
    let word = c.letters-letters.ensures.valid.word in
    let facts = c.binary_search_by_key.ensures in
    let by_key = facts.position (λ w. packed w.qubits w.letters) (answers_always _ _ _ (λ f a r g called. search rules)) in
    sym (ap found_at c.in-Err.is)
    ∙ search_at (qubits_of l) (len_of l) (words_of l) st.level st.words c.args.word c.requires.qubits c.requires.len (subst (λ n. IsWord n c.args.word.letters) c.requires.qubits word)
    c.letters-letters.result c.letters-letters.ensures.value c.deref.result.now c.deref.ensures.value c.binary_search_by_key.result facts.bound by_key
