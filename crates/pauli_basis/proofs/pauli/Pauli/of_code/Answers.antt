use Rattle.std.proofs.Common.{◌≡◌, ◌*◌, ◌%◌, ◌^◌, bit_and, ◌-◌, sym, ◌∙◌, subst, ◌<◌, arith, mod-lt}
use Rattle.std.proofs.Math.Nat.{mod-eq_of_lt}
use Rattle.std.proofs.lemmas.Nat.{one_shl}
use Rattle.pauli_basis.proofs.Letters.{two_bits, codes_some, masked}
use Rattle.pauli_basis.proofs.pauli.Pauli.of_code.Goals as goal

-- the letters that are kept
kept : (c : goal.Start) → bit_and c.args.code (1 * 2 ^ (2 * c.args.n) % 256 - 1) ≡ c.args.code % 4 ^ c.args.n
kept c = masked c.args.n _ c.args.code (one_shl (2 * c.args.n) 8 (omega (arith, c.requires.few)) ∙ two_bits c.args.n)

pub invariant_of-result : goal.invariant_of-result
invariant_of-result c = record {
  some = c.requires.some;
  few = c.requires.few;
  below = subst (λ m. m < 4 ^ c.args.n) (sym (kept c)) (mod-lt c.args.code (codes_some c.args.n));
}

pub returns-clause-code : goal.returns-clause-code
returns-clause-code c = kept c

pub returns-clause-whole : goal.returns-clause-whole
returns-clause-whole c = λ l. kept c ∙ mod-eq_of_lt l
