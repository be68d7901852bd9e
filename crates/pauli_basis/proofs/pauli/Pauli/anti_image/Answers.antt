use Rattle.std.proofs.Common.{ap, sym, ◌∙◌}
use Rattle.pauli_basis.specs.Products.{Signed, sign_turns}
use Rattle.pauli_basis.proofs.Masks.{negative_by_turns}
use Rattle.pauli_basis.proofs.Products.{anti_sign-turns}
use Rattle.pauli_basis.proofs.pauli.Pauli.anti_image.Goals as goal

pub returns-clause-sign : goal.returns-clause-sign
returns-clause-sign c = ap (λ (s : Signed). s.is_negative) c.new.ensures ∙ negative_by_turns _ _ _ _ c.product-image.ensures.turns

pub returns-clause-turns : goal.returns-clause-turns
returns-clause-turns c =
    anti_sign-turns _ _ _ c.requires.anticommute
    ∙ ap sign_turns (sym (ap (λ (s : Signed). s.is_negative) c.new.ensures ∙ negative_by_turns _ _ _ _ c.product-image.ensures.turns))
