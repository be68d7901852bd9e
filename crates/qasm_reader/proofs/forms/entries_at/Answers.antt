use Rattle.std.proofs.Common.{◌≡◌, ◌+◌, ◌-◌, ◌++◌, ◌∷◌, [], List, ℕ, Option, Some, length, take, drop, arith, ap, ◌∙◌, sym, length-drop, length-take, append-nil}
use Rattle.std.proofs.lemmas.List.{map-append, take_all, drop_all, drop-map, nil_from_length, length-map}
use Rattle.std.proofs.lemmas.Bool.{eqb-true, eqb-false}
use Rattle.std.specs.Prelude.{option_map}
use Rattle.qasm_lex.specs.declared.token.Kind.TheVariants.{Semi}
use Rattle.qasm_reader.specs.declared.lexemes.Lexeme.{Lexeme as CodeLexeme}
use Rattle.qasm_reader.specs.declared.forms.Entry.{Entry as CodeEntry}
use Rattle.qasm_reader.specs.Lexemes.{Lexeme}
use Rattle.qasm_reader.specs.Forms.{Entry}
use Rattle.qasm_reader.specs.Parse.{consed, entries_at}
use Rattle.qasm_reader.specs.View.{lexeme, lexemes, entry, entries}
use Rattle.qasm_reader.proofs.Splits.{with_front, with_more, with_nothing, FirstPart, first_part, behind_part}
use Rattle.qasm_reader.proofs.Entries.{unended_entries, next_entries, no_entries}
use Rattle.qasm_reader.proofs.forms.entries_at.Goals as goal
use Rattle.qasm_reader.proofs.forms.entries_at.Goals.{After-split_at}

cut : (c : After-split_at) → FirstPart Semi (lexemes (drop c.parts.at c.args.ws.now)) (lexemes c.split_at.result.0.now) (lexemes c.split_at.result.1.now)
cut c = first_part Semi c.args.ws.now c.parts.at c.before-in-parts.result c.split_at.result.0.now c.split_at.result.1.now c.before-in-parts.ensures.value c.split_at.ensures.front c.split_at.ensures.back

pub parts-init : goal.parts-init
parts-init c =
    let all = entries_at (lexemes c.args.ws.now) in
    record { within = omega arith; read = ap (λ (l : List _). with_front (entries l) all) c.new-found.ensures.items ∙ with_nothing all }

pub returns-then-is_empty : goal.returns-then-is_empty
returns-then-is_empty c =
    let ws = c.args.ws.now in
    let at = c.parts.at in
    let none : lexemes c.split_at.result.1.now ≡ [] = ap lexemes (nil_from_length _ (eqb-true _ _ (sym c.is_empty.ensures ∙ c.if-is_empty.true))) in
    let some : lexemes (drop at ws) ≡ [] → ⊥ = λ e. omega (arith, c.parts-test.true, length-drop at ws, length-map (drop at ws) lexeme, ap (λ (l : List Lexeme). length l) e) in
    let unended = unended_entries _ _ _ (cut (goal.at.returns-then-is_empty c).After-split_at) none some in
    sym (ap (with_front (entries c.parts.found.items)) unended) ∙ c.parts.invariant.read

-- there is more behind the part
more_behind : (more : List CodeLexeme) → (length more ≡ 0 → ⊥) → lexemes more ≡ [] → ⊥
more_behind more n e = n (sym (length-map more lexeme) ∙ ap (λ (l : List Lexeme). length l) e)

pub returns-in_default : goal.returns-in_default
returns-in_default c =
    let some = more_behind c.split_at.result.1.now (eqb-false _ _ (sym c.is_empty.ensures ∙ c.if-is_empty.false)) in
    let next = next_entries _ _ _ (cut (goal.at.returns-in_default c).After-split_at) some in
    let none = sym c.in_ok-entry.ensures ∙ ap (λ (o : Option CodeEntry). option_map entry o) c.in_default.is in
    let all = next ∙ ap (λ (o : Option Entry). consed o (entries_at (drop 1 (lexemes c.split_at.result.1.now)))) none in
    sym (ap (with_front (entries c.parts.found.items)) all) ∙ c.parts.invariant.read

pub parts-preserved : goal.parts-preserved
parts-preserved c =
    let ws = c.args.ws.now in
    let at = c.parts.at in
    let part = c.split_at.result.0.now in
    let more = c.split_at.result.1.now in
    let found = c.parts.found.items in
    let left = eqb-false _ _ (sym c.is_empty.ensures ∙ c.if-is_empty.false) in
    let next = next_entries _ _ _ (cut (goal.at.parts-preserved c).After-split_at) (more_behind more left) in
    let size : length part ≡ c.before-in-parts.result = c.split_at.ensures.front_len in
    let after : drop 1 more ≡ drop (at + (length part + 1)) ws = behind_part ws at c.before-in-parts.result part more size c.split_at.ensures.back in
    let line = sym c.in_ok-entry.ensures ∙ ap (λ (o : Option CodeEntry). option_map entry o) c.in-Some.is in
    let rest = entries_at (lexemes (drop (at + (length part + 1)) ws)) in
    let all : entries_at (lexemes (drop at ws)) ≡ consed (Some (entry c.in-Some.entry)) rest =
    next ∙ ap (λ (o : Option Entry). consed o (entries_at (drop 1 (lexemes more)))) line
    ∙ ap (λ (l : List Lexeme). consed (Some (entry c.in-Some.entry)) (entries_at l)) (drop-map lexeme 1 more ∙ ap lexemes after) in
    record {
      within = omega (arith, size, left, c.split_at.ensures.back_len, length-take (length ws - at) (drop at ws), length-drop at ws, c.parts.invariant.within);
      read = ap (λ (l : List CodeEntry). with_front (entries l) rest) c.in_ok-push.ensures.items
          ∙ ap (λ (l : List Entry). with_front l rest) (map-append entry found (c.in-Some.entry ∷ []))
          ∙ sym (with_more (entries found) (entry c.in-Some.entry) rest)
          ∙ sym (ap (with_front (entries found)) all) ∙ c.parts.invariant.read;
    }

pub returns : goal.returns
returns c =
    let none : drop c.parts.at c.args.ws.now ≡ [] = drop_all _ _ c.parts-test.false in
    let all = ap (λ (l : List CodeLexeme). with_front (entries c.parts.found.items) (entries_at (lexemes l))) none ∙ ap (with_front (entries c.parts.found.items)) no_entries in
    sym (ap (λ (l : List Entry). Some l) (append-nil (entries c.parts.found.items))) ∙ sym all ∙ c.parts.invariant.read
