use Rattle.std.proofs.Common.{rules, ◌≡◌, ℕ, ◌<◌, ◌≤◌, [], ◌∷◌, IfSome, IfNone, get_or, length, List, true, inl, inr, sym, subst, ◌∙◌, arith}
use Rattle.std.proofs.lemmas.Fmt.{decimal_digit}
use Rattle.tcount_top.specs.Words.{IsNumber}
use Rattle.tcount_top.proofs.Words.{first_of_number, number_some, number_none}
use Rattle.tcount_top.proofs.command.number.Goals as goal
use Rattle.tcount_top.proofs.command.number.Goals.{then-not-begins_plainly-via-then-not-begins_plainly, then-not-begins_plainly-via-else-not-begins_plainly+then-word-gt-MOST_DIGITS}

pub returns-then-eq-clause-some : goal.returns-then-eq-clause-some
returns-then-eq-clause-some c =
    let zero : c.args.word.now ≡ 48 ∷ [] = search rules in
    (zero ∙ sym (decimal_digit 0 (omega arith)), omega arith)

pub returns-then-not-begins_plainly-clause-none : goal.returns-then-not-begins_plainly-clause-none
returns-then-not-begins_plainly-clause-none c =
    let word = c.args.word.now in
    let other : word ≡ 48 ∷ [] → ⊥ = search rules in λ n h. elim (first_of_number word n h) [
      | inl zero ↦ other zero
      | inr p ↦ elim c.then-not-begins_plainly.branch [
        | then-not-begins_plainly-via-then-not-begins_plainly w ↦
            let plain : (48 < get_or c.as_bytes.result.now 0 0) × (get_or c.as_bytes.result.now 0 0 < 58) = subst (λ (l : List ℕ). (48 < get_or l 0 0) × (get_or l 0 0 < 58)) (sym c.as_bytes.ensures.value) (p.0, p.1) in
            let is : c.begins_plainly.result ≡ true = c.begins_plainly.ensures.1 plain in cc
        | then-not-begins_plainly-via-else-not-begins_plainly+then-word-gt-MOST_DIGITS w ↦ omega (arith, p.2, w.if-word-gt-MOST_DIGITS.true)
      ]
    ]

pub returns-clause-some : goal.returns-clause-some
returns-clause-some c =
    let plain = subst (λ (l : List ℕ). (48 < get_or l 0 0) × (get_or l 0 0 < 58)) c.as_bytes.ensures.value (c.begins_plainly.ensures.0 c.if-not-begins_plainly.false) in
    let few : length c.args.word.now ≤ 10 = c.if-word-gt-MOST_DIGITS.false in
    subst (λ o. IfSome o (λ n. IsNumber c.args.word.now n)) (sym c.ok.ensures.value) (number_some c.args.word.now c.parse.result c.parse.ensures.value.0 plain.0 few)

pub returns-clause-none : goal.returns-clause-none
returns-clause-none c =
    let plain = subst (λ (l : List ℕ). (48 < get_or l 0 0) × (get_or l 0 0 < 58)) c.as_bytes.ensures.value (c.begins_plainly.ensures.0 c.if-not-begins_plainly.false) in
    let few : length c.args.word.now ≤ 10 = c.if-word-gt-MOST_DIGITS.false in
    subst (λ o. IfNone o ((n : ℕ) → IsNumber c.args.word.now n → ⊥)) (sym c.ok.ensures.value) (number_none c.args.word.now c.parse.result c.parse.ensures.value.0 plain.0 few)
