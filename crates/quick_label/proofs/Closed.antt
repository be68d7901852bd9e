-- The product with a letter of a code on as many qubits is one.
use Rattle.std.proofs.Common.{◌≡◌, ℕ, ◌^◌, ◌<◌, sym, subst}
use Rattle.pauli_basis.specs.Products.{product_code}
use Rattle.pauli_basis.proofs.Products.{product_code-lt}

pub closed_by : (n p size : ℕ) → size ≡ 4 ^ n → p < 4 ^ n → (row : ℕ) → row < size → product_code p row < size
closed_by n p size e lp row l = subst (λ k. product_code p row < k) (sym e) (product_code-lt n p row lp (subst (λ k. row < k) e l))
