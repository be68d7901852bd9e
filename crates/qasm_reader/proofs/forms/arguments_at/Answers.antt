use Rattle.std.proofs.Common.{◌≡◌, ◌+◌, ◌-◌, ◌++◌, ◌∷◌, [], List, ℕ, Option, Some, length, take, drop, arith, ap, ◌∙◌, sym, length-drop, length-take}
use Rattle.std.proofs.lemmas.List.{map-append, take_all, drop-drop, drop-map, nil_from_length, length-map}
use Rattle.std.specs.Prelude.{option_map}
use Rattle.qasm_lex.specs.declared.token.Kind.TheVariants.{Comma}
use Rattle.qasm_reader.specs.declared.lexemes.Lexeme.{Lexeme as CodeLexeme}
use Rattle.qasm_reader.specs.Lexemes.{Lexeme}
use Rattle.qasm_reader.specs.Forms.{Argument}
use Rattle.qasm_reader.specs.declared.forms.Argument.{Argument as CodeArgument}
use Rattle.std.proofs.lemmas.Bool.{eqb-true, eqb-false}
use Rattle.qasm_reader.specs.Parse.{arguments_at, consed}
use Rattle.qasm_reader.specs.View.{lexeme, lexemes, argument, arguments}
use Rattle.qasm_reader.proofs.Splits.{with_front, with_more, with_nothing, FirstPart, first_part, behind_part, none_read, last_read, next_read}
use Rattle.qasm_reader.proofs.forms.arguments_at.Goals as goal
use Rattle.qasm_reader.proofs.forms.arguments_at.Goals.{After-argument_at}

pub parts-init : goal.parts-init
parts-init c =
    let all = arguments_at (lexemes c.args.ws.now) in
    record { within = omega arith; read = ap (λ (l : List _). with_front (arguments l) all) c.new-found.ensures.items ∙ with_nothing all }

cut : (c : After-argument_at) → FirstPart Comma (lexemes (drop c.parts.at c.args.ws.now)) (lexemes c.split_at.result.0.now) (lexemes c.split_at.result.1.now)
cut c = first_part Comma c.args.ws.now c.parts.at c.before-in-parts.result c.split_at.result.0.now c.split_at.result.1.now c.before-in-parts.ensures.value c.split_at.ensures.front c.split_at.ensures.back

pub returns-in_default : goal.returns-in_default
returns-in_default c =
    let none = none_read _ _ _ (cut (goal.at.returns-in_default c).After-argument_at) (sym c.argument_at.ensures ∙ ap (λ (o : Option _). option_map argument o) c.in_default.is) in
    sym (ap (with_front (arguments c.parts.found.items)) none) ∙ c.parts.invariant.read

pushed : (found items : List CodeArgument) (a : CodeArgument) → items ≡ found ++ a ∷ [] → arguments items ≡ arguments found ++ argument a ∷ []
pushed found items a e = ap arguments e ∙ map-append argument found (a ∷ [])

pub returns-then-is_empty : goal.returns-then-is_empty
returns-then-is_empty c =
    let none : lexemes c.split_at.result.1.now ≡ [] = ap lexemes (nil_from_length _ (eqb-true _ _ (sym c.is_empty.ensures ∙ c.if-is_empty.true))) in
    let last = last_read _ _ _ (argument c.in-Some.argument) (cut (goal.at.returns-then-is_empty c).After-argument_at) none (sym c.argument_at.ensures ∙ ap (λ (o : Option _). option_map argument o) c.in-Some.is) in
    ap (λ (l : List Argument). Some l) (pushed c.parts.found.items _ c.in-Some.argument c.in_ok-push.ensures.items)
    ∙ sym (ap (with_front (arguments c.parts.found.items)) last) ∙ c.parts.invariant.read

pub parts-preserved : goal.parts-preserved
parts-preserved c =
    let ws = c.args.ws.now in
    let at = c.parts.at in
    let part = c.split_at.result.0.now in
    let more = c.split_at.result.1.now in
    let some : lexemes more ≡ [] → ⊥ = λ e. eqb-false _ _ (sym c.is_empty.ensures ∙ c.if-is_empty.false) (sym (length-map more lexeme) ∙ ap length e) in
    let next = next_read _ _ _ (argument c.in-Some.argument) (cut (goal.at.parts-preserved c).After-argument_at) some (sym c.argument_at.ensures ∙ ap (λ (o : Option _). option_map argument o) c.in-Some.is) in
    let size : length part ≡ c.before-in-parts.result = c.split_at.ensures.front_len in
    let after : drop 1 more ≡ drop (at + (length part + 1)) ws = behind_part ws at c.before-in-parts.result part more size c.split_at.ensures.back in
    let read : with_front (arguments c.parts.found.items) (consed (Some (argument c.in-Some.argument)) (arguments_at (lexemes (drop (at + (length part + 1)) ws)))) ≡ arguments_at (lexemes ws) =
    ap (λ (l : List Lexeme). with_front (arguments c.parts.found.items) (consed (Some (argument c.in-Some.argument)) (arguments_at l))) (sym (ap lexemes after) ∙ sym (drop-map lexeme 1 more))
    ∙ sym (ap (with_front (arguments c.parts.found.items)) next) ∙ c.parts.invariant.read in
    record {
      within = omega (arith, size, eqb-false _ _ (sym c.is_empty.ensures ∙ c.if-is_empty.false), c.split_at.ensures.back_len, length-take (length ws - at) (drop at ws), length-drop at ws, c.parts.invariant.within);
      read = ap (λ (l : List Argument). with_front l (arguments_at (lexemes (drop (at + (length part + 1)) ws)))) (pushed c.parts.found.items _ c.in-Some.argument c.in_ok-push.ensures.items)
          ∙ sym (with_more (arguments c.parts.found.items) (argument c.in-Some.argument) (arguments_at (lexemes (drop (at + (length part + 1)) ws)))) ∙ read;
    }
