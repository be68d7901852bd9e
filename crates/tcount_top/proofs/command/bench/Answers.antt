use Rattle.std.proofs.Common.{◌≡◌, ◌*◌, ◌≤◌, ℕ, Option, Some, None, IfNone, sym, subst, arith}
use Rattle.coset_label.specs.Words.{most_letters}
use Rattle.tcount_top.proofs.Words.{one_number, six_words}
use Rattle.tcount_top.proofs.command.bench.Goals as goal

if_none : {A : Type 0} (o : Option A) (P : Type 0) → P → IfNone o P
if_none (Some x) P p = tt
if_none None P p = p

pub returns-in_err-bound-clause-none : goal.returns-in_err-bound-clause-none
returns-in_err-bound-clause-none c = if_none c.from_residual-in_err-bound.result _ (λ h.
    let f = six_words c.args.name.now c.args.qubits.now c.args.letters.now c.args.seed.now c.args.bound.now c.args.workers.now h in
    let same : f.n ≡ c.in_ok-qubits.field-0 = one_number c.args.qubits.now f.n c.in_ok-qubits.field-0 f.is_n c.in_ok-qubits.ensures.some.0 in
    let low : f.m ≤ 2 * most_letters c.in_ok-qubits.field-0 = subst (λ (n : ℕ). f.m ≤ 2 * most_letters n) same f.low in
    c.in_err-bound.ensures.none f.m f.is_m (omega arith) (subst (λ (k : ℕ). f.m ≤ 2 * k) (sym c.most_letters.ensures) low))
