use Rattle.std.proofs.Common.{◌≡◌, ap, sym, ◌∙◌, subst, ◌<◌, ◌^◌}
use Rattle.pauli_basis.specs.Pauli.{PauliString}
use Rattle.pauli_basis.proofs.Letters.{letter_of-xor}
use Rattle.pauli_basis.proofs.Masks.{six_bits, turned}
use Rattle.pauli_basis.proofs.Products.{product_code-lt}
use Rattle.pauli_basis.proofs.pauli.Pauli.product.Goals as goal

pub quarter_turns-requires-clause-left : goal.quarter_turns-requires-clause-left
quarter_turns-requires-clause-left c = six_bits _ _ c.self.invariant.few c.self.invariant.below

pub quarter_turns-requires-clause-right : goal.quarter_turns-requires-clause-right
quarter_turns-requires-clause-right c = six_bits _ _ c.o.invariant.few c.o.invariant.below

pub invariant_of-product : goal.invariant_of-product
invariant_of-product c =
    let same : c.self.inside.n ≡ c.o.inside.n = ap (λ (p : PauliString). p.qubits) c.self.view_is ∙ c.requires ∙ sym (ap (λ (p : PauliString). p.qubits) c.o.view_is) in
    record {
      some = c.self.invariant.some;
      few = c.self.invariant.few;
      below = product_code-lt _ _ _ c.self.invariant.below (subst (λ n. c.o.inside.code < 4 ^ n) (sym same) c.o.invariant.below);
    }

pub returns-clause-turns : goal.returns-clause-turns
returns-clause-turns c =
    let same : c.self.inside.n ≡ c.o.inside.n = ap (λ (p : PauliString). p.qubits) c.self.view_is ∙ c.requires ∙ sym (ap (λ (p : PauliString). p.qubits) c.o.view_is) in
    rw (← c.self.view_is, ← c.o.view_is) (turned _ _ _ _ _ c.self.invariant c.o.invariant same c.quarter_turns.ensures)

pub returns-clause-letters : goal.returns-clause-letters
returns-clause-letters c = λ q. rw (← c.self.view_is, ← c.o.view_is) (letter_of-xor q _ _)
