use Rattle.std.proofs.Common.{◌≡◌, ℕ, ◌*◌, ◌%◌, ◌^◌, ◌<◌, ◌≤◌, refl, ap, sym, subst, ◌∙◌, arith, lit<}
use Rattle.std.proofs.Math.Pow.{shl_exact}
use Rattle.pauli_basis.proofs.Letters.{two_bits}
use Rattle.tc_bridge.specs.Steps.{z_on}
use Rattle.tc_bridge.proofs.CircuitChannels.{z_on-lt, z_on-nonzero}
use Rattle.tc_bridge.proofs.progress.z_on.Goals as goal

-- nothing is shifted out
code_is : (q : ℕ) → q < 3 → (3 * 2 ^ (2 * q)) % 256 ≡ z_on q
code_is q l = shl_exact 2 (2 * q) 8 (lit< tt) (omega arith) ∙ ap (λ k. 3 * k) (two_bits q)

-- and its code is kept
kept : (n q code : ℕ) → n ≤ 3 → q < n → code ≡ (3 * 2 ^ (2 * q)) % 256 → code < 4 ^ n
kept n q code few l e = subst (λ k. k < 4 ^ n) (sym (e ∙ code_is q (omega arith))) (z_on-lt n q l)

pub returns-clause-code : goal.returns-clause-code
returns-clause-code c = c.of_code.ensures.whole (kept c.args.n c.args.q _ c.requires.few c.requires.qubit refl) ∙ code_is c.args.q (omega arith)

pub returns-clause-other : goal.returns-clause-other
returns-clause-other c = λ e.
    z_on-nonzero c.args.q (sym (c.of_code.ensures.whole (kept c.args.n c.args.q _ c.requires.few c.requires.qubit refl) ∙ code_is c.args.q (omega arith)) ∙ e)
