-- The tokens of a text, found one after another: what stands at a place is skipped or is a token, and behind it is the rest.
use Rattle.std.proofs.Common.{◌≡◌, ℕ, ◌+◌, ◌-◌, ◌≤◌, List, [], ◌∷◌, ◌++◌, length, map, take, drop, Some, arith, ap, ◌∙◌, sym, refl, subst}
use Rattle.std.proofs.lemmas.List.{length-append, length-drop, drop-drop}
use Rattle.std.proofs.Math.Seq.{drop-append_seam, take-append_seam}
use Rattle.qasm_lex.specs.declared.token.Kind.{Kind}
use Rattle.qasm_lex.specs.declared.token.Token.{Token}
use Rattle.qasm_lex.specs.Tokens.{gap_from, gap, IsLongest, Cuts}
use Rattle.qasm_lex.specs.Front.{front}
use Rattle.qasm_lex.proofs.Longest.{IsFront, front_is}
use Rattle.qasm_reader.specs.Lexemes.{Lexeme, lexeme_of}

-- a lexeme by its parts
abbrev pub lexeme : Kind → List ℕ → ℕ → Lexeme
lexeme kind bytes place = record { kind = kind; bytes = bytes; place = place }

-- wherever a text goes on with these bytes up to its end, they are cut into tokens, and their lexemes have the property
pub record Lexed (bytes : List ℕ) (P : List Lexeme → Type 0) : Type 0 where
  pub cut : (text : List ℕ) (at : ℕ) → drop at text ≡ bytes → at ≤ length text
      → (ts : List Token) × Cuts text at ts (length text) × P (map (lexeme_of text) ts)

-- what follows from the property holds too
pub weaker : {bytes : List ℕ} {P Q : List Lexeme → Type 0} → ((ws : List Lexeme) → P ws → Q ws) → Lexed bytes P → Lexed bytes Q
weaker then h = record { cut = λ text at is within. let m = h.cut text at is within in (m.0, m.1, then _ m.2) }

-- at the end there is no lexeme
pub at_end : {P : List Lexeme → Type 0} → P [] → Lexed [] P
unfolding gap_from
at_end h = record {
  cut = λ text at is within.
      let none : gap (drop at text) ≡ 0 = ap gap is in
      let size : length (drop at text) ≡ 0 = ap length is in
      ([], omega (arith, none, size, within, length-drop at text), h);
}

-- the place behind the first bytes, and what is there
behind : (text : List ℕ) (at : ℕ) (front rest : List ℕ) → drop at text ≡ front ++ rest → at ≤ length text
    → (drop (at + length front) text ≡ rest) × (at + length front ≤ length text)
behind text at front rest is within =
    let size : length (drop at text) ≡ length front + length rest = ap length is ∙ length-append front rest in (
      sym (drop-drop (length front) at text) ∙ ap (drop (length front)) is ∙ drop-append_seam front rest,
      omega (arith, size, within, length-drop at text),
    )

-- a cut is one from each place behind which the same is skipped
same_cut : (text : List ℕ) (at next : ℕ) (ts : List Token) (end : ℕ) → at + gap (drop at text) ≡ next + gap (drop next text) → Cuts text next ts end → Cuts text at ts end
same_cut text at next [] end e cut = e ∙ cut
same_cut text at next (t ∷ ts) end e cut = (e ∙ cut.0, cut.1, cut.2)

-- bytes that are skipped
pub skip : (front : List ℕ) {rest : List ℕ} {P : List Lexeme → Type 0} → gap (front ++ rest) ≡ length front + gap rest → Lexed rest P → Lexed (front ++ rest) P
skip front {rest} skipped more = record {
  cut = λ text at is within.
      let next = behind text at front rest is within in
      let m = more.cut text (at + length front) next.0 next.1 in
      let here : gap (drop at text) ≡ length front + gap rest = ap gap is ∙ skipped in
      let there : gap (drop (at + length front) text) ≡ gap rest = ap gap next.0 in
      (m.0, same_cut text at (at + length front) m.0 (length text) (omega (arith, here, there)) m.1, m.2);
}

-- bytes that are a token, as `front` finds it
pub token : (kind : Kind) (bytes : List ℕ) {rest : List ℕ} {P : List Lexeme → Type 0} → gap (bytes ++ rest) ≡ 0 → front (bytes ++ rest) ≡ Some (kind, length bytes)
    → ((place : ℕ) → Lexed rest (λ ws. P (lexeme kind bytes place ∷ ws))) → Lexed (bytes ++ rest) P
token kind bytes {rest} {P} none found more = record {
  cut = λ text at is within.
      let next = behind text at bytes rest is within in
      let m = (more at).cut text (at + length bytes) next.0 next.1 in
      let here : gap (drop at text) ≡ 0 = ap gap is ∙ none in
      let longest : IsLongest (bytes ++ rest) kind (length bytes) = subst (IsFront (bytes ++ rest)) found (front_is (bytes ++ rest)) in
      let size : at + length bytes - at ≡ length bytes = omega arith in
      let told : take (at + length bytes - at) (drop at text) ≡ bytes = ap (λ (n : ℕ). take n (drop at text)) size ∙ ap (take (length bytes)) is ∙ take-append_seam bytes rest in (
        record { kind = kind; start = at; end = at + length bytes } ∷ m.0,
        (omega (arith, here), record { spans = (length bytes, refl, subst (λ (b : List ℕ). IsLongest b kind (length bytes)) (sym is) longest) }, m.1),
        subst (λ (b : List ℕ). P (lexeme kind b at ∷ map (lexeme_of text) m.0)) (sym told) m.2,
      );
}
