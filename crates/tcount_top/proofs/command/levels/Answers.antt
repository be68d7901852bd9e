use Rattle.std.proofs.Common.{◌≡◌, ◌≤◌, ℕ, Option, Some, None, IfNone, sym, subst, arith}
use Rattle.coset_label.specs.Words.{most_letters}
use Rattle.tcount_top.proofs.Words.{one_number, four_words}
use Rattle.tcount_top.proofs.command.levels.Goals as goal

if_none : {A : Type 0} (o : Option A) (P : Type 0) → P → IfNone o P
if_none (Some x) P p = tt
if_none None P p = p

pub returns-in_err-top-clause-none : goal.returns-in_err-top-clause-none
returns-in_err-top-clause-none c = if_none c.from_residual-in_err-top.result _ (λ h.
    let f = four_words c.args.name.now c.args.qubits.now c.args.top.now c.args.workers.now h in
    let same : f.n ≡ c.in_ok-qubits.field-0 = one_number c.args.qubits.now f.n c.in_ok-qubits.field-0 f.is_n c.in_ok-qubits.ensures.some.0 in
    let low : f.k ≤ most_letters c.in_ok-qubits.field-0 = subst (λ (n : ℕ). f.k ≤ most_letters n) same f.low in
    c.in_err-top.ensures.none f.k f.is_k (omega arith) (subst (λ (m : ℕ). f.k ≤ m) (sym c.most_letters.ensures) low))
