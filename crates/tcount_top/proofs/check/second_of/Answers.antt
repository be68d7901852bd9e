use Rattle.std.proofs.Common.{◌≡◌, ◌-◌, ℕ, List, length, take, drop, subst, arith}
use Rattle.std.proofs.lemmas.List.{take_all, length-drop}
use Rattle.qasm_reader.specs.declared.fault.ReadFault.{ReadFault}
use Rattle.qasm_reader.specs.Read.{IsFault, Refused as IsRefused}
use Rattle.tcount_top.proofs.Comparing.{second_reason}
use Rattle.tcount_top.proofs.check.second_of.Goals as goal
use Rattle.tcount_top.proofs.check.second_of.Goals.{In-Err-Refused}

-- the refusal of what stands behind the cut
refusal : (c : In-Err-Refused) → IsRefused (drop c.args.cut c.args.text.now) c.in-Err-Refused.number c.in-Err-Refused.place
refusal c =
    let behind = drop c.args.cut c.args.text.now in
    let whole : take (length c.args.text.now - c.args.cut) behind ≡ behind = take_all (length c.args.text.now - c.args.cut) behind (omega (arith, length-drop c.args.cut c.args.text.now)) in
    subst (λ (t : List ℕ). IsRefused t c.in-Err-Refused.number c.in-Err-Refused.place) whole
    (subst (λ (f : ReadFault). IsFault (take (length c.args.text.now - c.args.cut) behind) f) c.in-Err-Refused.field-0-is c.in-Err-Refused.ensures.err)

pub overflow_add-result : goal.overflow_add-result
overflow_add-result c =
    let place = c.refusals_stand_in_texts.ensures (drop c.args.cut c.args.text.now) c.in-Err-Refused.number c.in-Err-Refused.place (refusal c) in
    omega (arith, place, length-drop c.args.cut c.args.text.now, c.requires.within, c.requires.short)

pub returns-in-Err-Refused-clause-err : goal.returns-in-Err-Refused-clause-err
returns-in-Err-Refused-clause-err c = λ circuit halves reads. second_reason c.args.text.now c.requires.short c.args.cut halves circuit reads c.in-Err-Refused.number c.in-Err-Refused.place (refusal c)
