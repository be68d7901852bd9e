-- Rows by their reasons, wherever they stand in the order.
use Rattle.std.proofs.Common.{◌≡◌, ℕ, ◌+◌, ◌<◌, Bool, true, false, cond, ◌||◌, ◌==◌, List, [], ◌∷◌, length, drop, get_or, Some, None, ap, ◌∙◌, sym, refl, subst, if◌then◌else◌}
use Rattle.std.specs.List.{find, list_any}
use Rattle.std.proofs.lemmas.Bool.{eqb-true}
use Rattle.std.proofs.lemmas.List.{at_drop_more}
use Rattle.qasm_reader.specs.declared.refusal.Refusal.{Refusal}
use Rattle.qasm_reader.specs.declared.refusal.Refusal.TheVariants.{Header, BadByte, Statement as NoStatement, UnknownGate, UnknownRegister, Index, SameQubit, Qubits, TooManyT, TooLong, NotInProfile, TwoNames, Body, TooManyGates, Angle}
use Rattle.qasm_reader.specs.Refusals.{number_of}
use Rattle.qasm_reader.specs.State.{State}
use Rattle.qasm_reader.specs.Rows.{Statement, applies, order, row_of}

-- the reason of a number
reason_with : ℕ → Refusal
reason_with n = if n == 1 then Header else if n == 2 then BadByte else if n == 3 then NoStatement else if n == 4 then UnknownGate
    else if n == 5 then UnknownRegister else if n == 6 then Index else if n == 7 then SameQubit else if n == 8 then Qubits
    else if n == 9 then TooManyT else if n == 10 then TooLong else if n == 11 then NotInProfile else if n == 12 then TwoNames else if n == 17 then Body else if n == 18 then TooManyGates else Angle

-- a reason is that of its number
back : (why : Refusal) → reason_with (number_of why) ≡ why
unfolding reason_with
back Header = refl
back BadByte = refl
back NoStatement = refl
back UnknownGate = refl
back UnknownRegister = refl
back Index = refl
back SameQubit = refl
back Qubits = refl
back TooManyT = refl
back TooLong = refl
back NotInProfile = refl
back TwoNames = refl
back Body = refl
back TooManyGates = refl
back Angle = refl

-- whether a reason is in the list
abbrev pub is_among : List Refusal → Refusal → Bool
is_among list why = list_any (λ r. number_of r == number_of why) list

-- where none of the list passes a test, no reason in it does
none_passes : (test : Refusal → Bool) (list : List Refusal) (why : Refusal) → find test list ≡ None → is_among list why ≡ true → test why ≡ false
none_passes test [] why e i = absurd (cc)
none_passes test (r ∷ rs) why e i = go (test r) refl (number_of r == number_of why) refl (none_passes test rs why)
  where
    rest : (t : Bool) → test r ≡ t → cond t (Some r) (find test rs) ≡ None
    rest t f = sym (ap (λ (b : Bool). cond b (Some r) (find test rs)) f) ∙ e

    go : (t : Bool) → test r ≡ t → (s : Bool) → (number_of r == number_of why) ≡ s → (find test rs ≡ None → is_among rs why ≡ true → test why ≡ false) → test why ≡ false
    go true f s g more = let found : Some r ≡ None = rest true f in absurd (cc (found))
    go false f true g more =
        let same : r ≡ why = sym (back r) ∙ ap reason_with (eqb-true _ _ g) ∙ back why in
        subst (λ (x : Refusal). test x ≡ false) same f
    go false f false g more = more (rest false f) (sym (ap (λ (b : Bool). b || is_among rs why) g) ∙ i)

-- where no row is met, the row of no reason in the order is
pub unmet : (s : State) (p : Statement) (why : Refusal) → row_of s p ≡ None → is_among order why ≡ true → applies s p why ≡ false
unfolding row_of
unmet s p why e i = none_passes (applies s p) order why e i

-- where no reason passes a test, none of a list does
none_found : (test : Refusal → Bool) (list : List Refusal) → ((why : Refusal) → test why ≡ false) → find test list ≡ None
none_found test [] h = refl
none_found test (r ∷ rs) h = ap (λ (b : Bool). cond b (Some r) (find test rs)) (h r) ∙ none_found test rs h

-- where the row of no reason is met, none is
pub all_unmet : (s : State) (p : Statement) → ((why : Refusal) → applies s p why ≡ false) → row_of s p ≡ None
unfolding row_of
all_unmet s p h = none_found (applies s p) order h

-- behind a reason of the order that doesn't pass
pub row_failed : (test : Refusal → Bool) (i : ℕ) (d : Refusal) → i < length order → test (get_or order i d) ≡ false → find test (drop (i + 1) order) ≡ find test (drop i order)
row_failed test i d h e =
    sym (at_drop_more (find test) order i d h ∙ ap (λ (b : Bool). cond b (Some (get_or order i d)) (find test (drop (i + 1) order))) e)

-- a reason of the order that passes is found
pub row_passed : (test : Refusal → Bool) (i : ℕ) (d : Refusal) → i < length order → test (get_or order i d) ≡ true → Some (get_or order i d) ≡ find test (drop i order)
row_passed test i d h e =
    sym (at_drop_more (find test) order i d h ∙ ap (λ (b : Bool). cond b (Some (get_or order i d)) (find test (drop (i + 1) order))) e)
