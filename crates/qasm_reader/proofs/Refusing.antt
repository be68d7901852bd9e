-- Where a text is refused: at a place of it, or at its end.
use Rattle.std.proofs.Common.{◌≡◌, ℕ, ◌≤◌, true, false, cond, List, [], ◌∷◌, ◌++◌, length, map, Some, None, Err, sym, subst, arith}
use Rattle.std.specs.Prelude.{All}
use Rattle.std.proofs.lemmas.List.Elements.{All-nil, All-cons, All-head, All-tail, All-append}
use Rattle.qasm_lex.specs.declared.token.Token.{Token}
use Rattle.qasm_lex.specs.Tokens.{Cuts}
use Rattle.qasm_reader.specs.Lexemes.{Lexeme, lexeme_of, closes, cut_behind}
use Rattle.qasm_reader.specs.State.{State, start, after}
use Rattle.qasm_reader.specs.Rows.{Statement, row_of}
use Rattle.qasm_reader.specs.Read.{Refuser, Refused, HasLexemes, HasStatements, IsBad, IsHeadless, IsRefused, IsEmpty, scan, refused_or, place_of}
use Rattle.qasm_reader.proofs.Cut.{step}

-- tokens go on from where they begin
cuts_rise : (text : List ℕ) (ts : List Token) (p q : ℕ) → Cuts text p ts q → p ≤ q
cuts_rise text [] p q h = omega (arith, h)
cuts_rise text (t ∷ ts) p q h = omega (arith, h.0, h.1.spans.1, cuts_rise text ts t.end q h.2)

module _ (end : ℕ) where
  -- the lexeme, and the first of lexemes where there is one, begin before the end or at it
  abbrev Begins : Lexeme → Type 0
  Begins w = w.place ≤ end

  abbrev AllBegin : List Lexeme → Type 0
  AllBegin ws = place_of 0 ws ≤ end

  lexemes_begin : (text : List ℕ) (ts : List Token) (p : ℕ) → Cuts text p ts end → All Begins (map (lexeme_of text) ts)
  lexemes_begin text [] p h = All-nil Begins
  lexemes_begin text (t ∷ ts) p h =
      All-cons Begins (lexeme_of text t) (map (lexeme_of text) ts) (omega (arith, h.1.spans.1, cuts_rise text ts t.end end h.2)) (lexemes_begin text ts t.end h.2)

  first_begins : (ws : List Lexeme) (other : ℕ) → other ≤ end → All Begins ws → place_of other ws ≤ end
  first_begins [] other l h = l
  first_begins (w ∷ ws) other l h = All-head Begins w ws h

  -- what stands behind the front
  rest_begins : (front rest : List Lexeme) → All Begins (front ++ rest) → All Begins rest
  rest_begins [] rest h = h
  rest_begins (w ∷ front) rest h = rest_begins front rest (All-tail Begins w (front ++ rest) h)

  -- and so do statements
  statements_begin : (ws begun : List Lexeme) → All Begins begun → All Begins ws → All AllBegin (cut_behind begun ws)
  unfolding cut_behind
  statements_begin [] [] b h = All-nil AllBegin
  statements_begin [] (v ∷ vs) b h = All-cons AllBegin (v ∷ vs) [] (All-head Begins v vs b) (All-nil AllBegin)
  statements_begin (w ∷ ws) begun b h =
      let more = All-append Begins begun (w ∷ []) b (All-cons Begins w [] (All-head Begins w ws h) (All-nil Begins)) in
      let behind = All-tail Begins w ws h in
      subst (All AllBegin) (sym (step begun w ws))
      (elim (closes begun w) as (λ e. All AllBegin (cond e ((begun ++ w ∷ []) ∷ cut_behind [] ws) (cut_behind (begun ++ w ∷ []) ws))) [
        | true ↦ All-cons AllBegin (begun ++ w ∷ []) (cut_behind [] ws) (first_begins (begun ++ w ∷ []) 0 (omega arith) more) (statements_begin ws [] (All-nil Begins) behind)
        | false ↦ statements_begin ws (begun ++ w ∷ []) more behind
      ])

  -- and the first of them to which a row applies
  scan_begins : (ps : List Statement) (s : State) (r : Refuser) → All AllBegin (map (λ (p : Statement). p.lexemes) ps) → scan s ps ≡ Err r → r.place ≤ end
  scan_begins [] s r h e = absurd (cc)
  scan_begins (p ∷ ps) s r h e =
      elim (row_of s p) as (λ o. refused_or o (place_of 0 p.lexemes) (scan (after s p.form) ps) ≡ Err r → r.place ≤ end) [
        | None ↦ λ g. scan_begins ps (after s p.form) r (All-tail AllBegin p.lexemes (map (λ (p : Statement). p.lexemes) ps) h) g
        | Some why ↦ λ g.
            let is : r.place ≡ place_of 0 p.lexemes = cc in
            subst (λ (k : ℕ). k ≤ end) (sym is) (All-head AllBegin p.lexemes (map (λ (p : Statement). p.lexemes) ps) h)
      ] e

-- the lexemes of a text begin in it or at its end
of_text : (text : List ℕ) (ws : List Lexeme) → HasLexemes text ws → All (Begins (length text)) ws
of_text text ws h = subst (All (Begins (length text))) (sym h.2) (lexemes_begin (length text) text h.0 0 h.1)

-- and its statements
statements_of_text : (text : List ℕ) (ps : List Statement) → HasStatements text ps → All (AllBegin (length text)) (map (λ (p : Statement). p.lexemes) ps)
statements_of_text text ps h =
    let end = length text in
    let rest = rest_begins end h.headed.0 h.rest (subst (All (Begins end)) h.headed.1 (of_text text h.lexemes h.has)) in
    subst (All (AllBegin end)) (sym h.statements.cut) (statements_begin end h.rest [] (All-nil (Begins end)) rest)

-- a text is refused at a place of it, or at its end
pub refused_within : (text : List ℕ) (n p : ℕ) → Refused text n p → p ≤ length text
refused_within text n p (why, IsBad b e, k) = omega (arith, b.2)
refused_within text n p (why, IsHeadless ws h none e at, k) = omega (arith, at, first_begins (length text) ws (length text) (omega arith) (of_text text ws h))
refused_within text n p (why, IsRefused ps h e, k) = scan_begins (length text) ps start (record { refusal = why; place = p }) (statements_of_text text ps h) e
refused_within text n p (why, IsEmpty ps h s e none f at, k) = omega (arith, at)
