use Rattle.std.proofs.Common.{◌≡◌, ◌%◌, nat_eq, ap, sym, ◌∙◌}
use Rattle.pauli_basis.specs.Pauli.{PauliString}
use Rattle.pauli_basis.specs.Products.{commute}
use Rattle.pauli_basis.proofs.Masks.{six_bits, turned, commutes_by_turns}
use Rattle.pauli_basis.proofs.Products.{commute_both_orders, even_from_commute, commute_from_even}
use Rattle.pauli_basis.proofs.pauli.Pauli.commutes.Goals as goal

pub quarter_turns-requires-clause-left : goal.quarter_turns-requires-clause-left
quarter_turns-requires-clause-left c = six_bits _ _ c.self.invariant.few c.self.invariant.below

pub quarter_turns-requires-clause-right : goal.quarter_turns-requires-clause-right
quarter_turns-requires-clause-right c = six_bits _ _ c.o.invariant.few c.o.invariant.below

-- what the turns say
answer : (c : goal.After-quarter_turns) → nat_eq (c.quarter_turns.result % 2) 0 ≡ commute c.args.self.now.qubits c.args.self.now.code c.args.o.now.code
answer c =
    let same : c.self.inside.n ≡ c.o.inside.n = ap (λ (p : PauliString). p.qubits) c.self.view_is ∙ c.requires ∙ sym (ap (λ (p : PauliString). p.qubits) c.o.view_is) in
    rw (← c.self.view_is, ← c.o.view_is) (commutes_by_turns _ _ _ _ (turned _ _ _ _ _ c.self.invariant c.o.invariant same c.quarter_turns.ensures))

pub returns-clause-value : goal.returns-clause-value
returns-clause-value c = answer c

pub returns-clause-both_orders : goal.returns-clause-both_orders
returns-clause-both_orders c = rw (answer c) (commute_both_orders _ _ _)

pub returns-clause-even : goal.returns-clause-even
returns-clause-even c = rw (answer c) (even_from_commute _ _ _, commute_from_even _ _ _)
