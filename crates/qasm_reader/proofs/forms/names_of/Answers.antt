use Rattle.std.proofs.Common.{◌≡◌, ◌+◌, ◌<◌, ◌++◌, ◌∷◌, [], Bool, true, false, List, ℕ, Option, Some, None, Bor, length, drop, get_or, ap, ◌∙◌, sym, refl, append-nil}
use Rattle.std.proofs.lemmas.List.{at_drop_more, drop_all, map-append}
use Rattle.std.specs.Prelude.{option_map, is_some}
use Rattle.qasm_reader.specs.declared.forms.Argument.{Argument as CodeArgument}
use Rattle.qasm_reader.specs.Forms.{Argument}
use Rattle.qasm_reader.specs.Parse.{consed, bare_name, names_of}
use Rattle.qasm_reader.specs.View.{argument, arguments, name_list}
use Rattle.qasm_reader.proofs.Splits.{with_front, with_more, with_nothing}
use Rattle.qasm_reader.proofs.Entries.{next_names, no_names}
use Rattle.qasm_reader.proofs.forms.names_of.Goals as goal

-- an argument with an index has no bare name
none_bare : (name : List ℕ) (o : Option (Bor (List ℕ))) → is_some o ≡ true → bare_name (record { name = name; index = option_map (λ b. b.now) o }) ≡ None
none_bare name None e = absurd (cc)
none_bare name (Some b) e = refl

-- one without an index has its own
some_bare : (name : List ℕ) (o : Option (Bor (List ℕ))) → is_some o ≡ false → bare_name (record { name = name; index = option_map (λ b. b.now) o }) ≡ Some name
some_bare name None e = refl
some_bare name (Some b) e = absurd (cc)

-- the names of the rest
rest : (args : List CodeArgument) (i : ℕ) (d : CodeArgument) → i < length args
    → names_of (arguments (drop i args)) ≡ consed (bare_name (argument (get_or args i d))) (names_of (arguments (drop (i + 1) args)))
rest args i d h = at_drop_more (λ (l : List CodeArgument). names_of (arguments l)) args i d h ∙ next_names _ _

pub loop-argument-init : goal.loop-argument-init
loop-argument-init c = ap (λ (l : List _). with_front (name_list l) (names_of (arguments c.args.args.now))) c.new-names.ensures.items ∙ with_nothing _

pub returns-then-is_some : goal.returns-then-is_some
returns-then-is_some c =
    let args = c.args.args.now in
    let i = c.loop-argument.argument-index in
    let none = none_bare _ _ (sym c.is_some.ensures ∙ c.if-is_some.true) in
    let read = rest args i _ c.loop-argument-test.true ∙ ap (λ (o : Option (List ℕ)). consed o (names_of (arguments (drop (i + 1) args)))) none in
    sym (ap (with_front (name_list c.loop-argument.names.items)) read) ∙ c.loop-argument.invariant

pub loop-argument-preserved : goal.loop-argument-preserved
loop-argument-preserved c =
    let args = c.args.args.now in
    let i = c.loop-argument.argument-index in
    let some = some_bare _ _ (sym c.is_some.ensures ∙ c.if-is_some.false) in
    let read = rest args i _ c.loop-argument-test.true ∙ ap (λ (o : Option (List ℕ)). consed o (names_of (arguments (drop (i + 1) args)))) some in
    ap (λ (l : List _). with_front (name_list l) (names_of (arguments (drop (i + 1) args)))) c.in_ok-push.ensures.items
    ∙ ap (λ (l : List (List ℕ)). with_front l (names_of (arguments (drop (i + 1) args)))) (map-append _ c.loop-argument.names.items _)
    ∙ sym (with_more (name_list c.loop-argument.names.items) _ (names_of (arguments (drop (i + 1) args))))
    ∙ sym (ap (with_front (name_list c.loop-argument.names.items)) read) ∙ c.loop-argument.invariant

pub returns : goal.returns
returns c =
    let none : drop c.loop-argument.argument-index c.args.args.now ≡ [] = drop_all _ _ c.loop-argument-test.false in
    let all = ap (λ (l : List CodeArgument). with_front (name_list c.loop-argument.names.items) (names_of (arguments l))) none ∙ ap (with_front (name_list c.loop-argument.names.items)) no_names in
    sym (ap (λ (l : List (List ℕ)). Some l) (append-nil (name_list c.loop-argument.names.items))) ∙ sym all ∙ c.loop-argument.invariant
