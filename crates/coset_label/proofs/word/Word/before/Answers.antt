use borrow.Author.Tests.{ltb-true, lt-ltb}
use Rattle.coset_label.proofs.PackedWords.{letters_packed, in_order}
use Rattle.coset_label.proofs.word.Word.before.Goals as goal

pub returns-clause-order : goal.returns-clause-order
returns-clause-order c = in_order _ _ _ _ _ _ c.args.self.now c.args.o.now c.self.view_is c.o.view_is c.self.invariant c.o.invariant c.requires.qubits c.requires.len

pub returns-clause-packed : goal.returns-clause-packed
returns-clause-packed c =
    let here = letters_packed _ _ _ c.args.self.now c.self.view_is c.self.invariant in
    let there = letters_packed _ _ _ c.args.o.now c.o.view_is c.o.invariant in
    (λ t. rw (← here, ← there) (ltb-true _ _ t), λ l. lt-ltb _ _ (rw (here, there) l))
