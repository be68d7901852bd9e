-- The statements of tokens, one after another, and what a scan makes of the first of them.
use Rattle.std.proofs.Common.{◌≡◌, ℕ, suc, ◌+◌, ◌-◌, ◌<◌, ◌≤◌, Bool, true, false, cond, not, List, [], ◌∷◌, ◌++◌, length, map, take, drop, Option, Result, Err, arith, ap, ◌∙◌, sym, refl, ⊎_elim, append_assoc, append-nil}
use Rattle.std.specs.List.{prefix_len}
use Rattle.std.proofs.lemmas.Bool.{cases_Bool}
use Rattle.std.proofs.lemmas.List.{take_all, length-drop, drop-drop}
use Rattle.qasm_lex.specs.declared.token.Kind.{Kind}
use Rattle.qasm_lex.specs.declared.token.Token.{Token}
use Rattle.qasm_reader.specs.Lexemes.{Lexeme, lexeme_of, is_same_kind, closer, closes, cut_behind, statements}
use Rattle.qasm_reader.specs.Parse.{len_up_to, first_len, form_of}
use Rattle.qasm_reader.specs.declared.fault.ReadFault.{ReadFault}
use Rattle.qasm_reader.specs.declared.fault.ReadFault.TheVariants.{Refused, Memory}
use Rattle.qasm_reader.specs.declared.refusal.Refusal.{Refusal}
use Rattle.qasm_reader.specs.State.{State, start, after}
use Rattle.qasm_reader.specs.Rows.{row_of}
use Rattle.qasm_reader.specs.Read.{Refuser, scan, refused_or, place_of}
use Rattle.qasm_reader.specs.Run.{statement_at, stated, IsRowFault, IsScanFault}

-- the lexemes of tokens
abbrev pub of : List ℕ → List Token → List Lexeme
of text ts = map (lexeme_of text) ts

-- one lexeme more of the statement that is begun
pub step : (begun : List Lexeme) (w : Lexeme) (ws : List Lexeme) → cut_behind begun (w ∷ ws) ≡ cond (closes begun w) ((begun ++ w ∷ []) ∷ cut_behind [] ws) (cut_behind (begun ++ w ∷ []) ws)
unfolding cut_behind
step [] w ws = refl
step (v ∷ vs) w ws = refl

-- a statement without its end
last : (u : Lexeme) (vs : List Lexeme) → cut_behind (u ∷ vs) [] ≡ (u ∷ vs) ∷ []
unfolding cut_behind
last u vs = refl

-- no lexeme, no statement
pub nothing : cut_behind [] [] ≡ []
unfolding cut_behind
nothing = refl

-- a token of the kind is the last
len_yes : (k : Kind) (t : Token) (ts : List Token) → is_same_kind k t.kind ≡ true → len_up_to k (t ∷ ts) ≡ 1
len_yes k t ts e = ap (λ (b : Bool). cond b 1 (1 + len_up_to k ts)) e

-- another token is followed by the rest
len_no : (k : Kind) (t : Token) (ts : List Token) → is_same_kind k t.kind ≡ false → len_up_to k (t ∷ ts) ≡ suc (len_up_to k ts)
len_no k t ts e = ap (λ (b : Bool). cond b 1 (1 + len_up_to k ts)) e ∙ omega arith

-- behind the first token of a statement
cut_from : (text : List ℕ) (ts : List Token) (u : Lexeme) (vs : List Lexeme)
    → cut_behind (u ∷ vs) (of text ts) ≡ (u ∷ vs ++ of text (take (len_up_to (closer u) ts) ts)) ∷ cut_behind [] (of text (drop (len_up_to (closer u) ts) ts))
cut_from text [] u vs = last u vs ∙ cc (append-nil (u ∷ vs), nothing)
cut_from text (t ∷ ts) u vs =
    let k = closer u in
    let w = lexeme_of text t in
    let ws = of text ts in
    let on = step (u ∷ vs) w ws in
    ⊎_elim
    (λ (e : is_same_kind k t.kind ≡ true).
    on ∙ ap (λ (b : Bool). cond b ((u ∷ vs ++ w ∷ []) ∷ cut_behind [] ws) (cut_behind (u ∷ vs ++ w ∷ []) ws)) e
    ∙ ap (λ (n : ℕ). (u ∷ vs ++ of text (take n (t ∷ ts))) ∷ cut_behind [] (of text (drop n (t ∷ ts)))) (sym (len_yes k t ts e)))
    (λ (e : is_same_kind k t.kind ≡ false).
    on ∙ ap (λ (b : Bool). cond b ((u ∷ vs ++ w ∷ []) ∷ cut_behind [] ws) (cut_behind (u ∷ vs ++ w ∷ []) ws)) e
    ∙ cut_from text ts u (vs ++ w ∷ [])
    ∙ ap (λ (l : List Lexeme). l ∷ cut_behind [] (of text (drop (len_up_to k ts) ts))) (append_assoc (u ∷ vs) (w ∷ []) (of text (take (len_up_to k ts) ts)))
    ∙ ap (λ (n : ℕ). (u ∷ vs ++ of text (take n (t ∷ ts))) ∷ cut_behind [] (of text (drop n (t ∷ ts)))) (sym (len_no k t ts e)))
    (cases_Bool (is_same_kind k t.kind))

-- the first statement, and those behind it
statements_next : (text : List ℕ) (t : Token) (ts : List Token)
    → statements (of text (t ∷ ts)) ≡ of text (take (first_len text (t ∷ ts)) (t ∷ ts)) ∷ statements (of text (drop (first_len text (t ∷ ts)) (t ∷ ts)))
statements_next text t ts =
    let w = lexeme_of text t in
    let k = closer w in
    let ws = of text ts in
    ⊎_elim
    (λ (e : is_same_kind k t.kind ≡ true).
    step [] w ws ∙ ap (λ (b : Bool). cond b ((w ∷ []) ∷ cut_behind [] ws) (cut_behind (w ∷ []) ws)) e
    ∙ ap (λ (n : ℕ). of text (take n (t ∷ ts)) ∷ cut_behind [] (of text (drop n (t ∷ ts)))) (sym (len_yes k t ts e)))
    (λ (e : is_same_kind k t.kind ≡ false).
    step [] w ws ∙ ap (λ (b : Bool). cond b ((w ∷ []) ∷ cut_behind [] ws) (cut_behind (w ∷ []) ws)) e
    ∙ cut_from text ts w []
    ∙ ap (λ (n : ℕ). of text (take n (t ∷ ts)) ∷ cut_behind [] (of text (drop n (t ∷ ts)))) (sym (len_no k t ts e)))
    (cases_Bool (is_same_kind k t.kind))

-- how many tokens stand before the first of the kind
abbrev pub len_before : Kind → List Token → ℕ
len_before k ts = prefix_len (λ t. not (is_same_kind k t.kind)) ts

-- the tokens up to the first of the kind are those before it and it, if it is there
pub len_up_to_is : (k : Kind) (ts : List Token) → (len_before k ts < length ts → len_up_to k ts ≡ len_before k ts + 1) × (length ts ≤ len_before k ts → len_up_to k ts ≡ len_before k ts)
len_up_to_is k [] = (λ h. absurd (omega arith), λ h. refl)
len_up_to_is k (t ∷ ts) =
    let more = len_up_to_is k ts in
    ⊎_elim
    (λ (e : is_same_kind k t.kind ≡ true).
    let p : len_before k (t ∷ ts) ≡ 0 = ap (λ (b : Bool). cond (not b) (1 + len_before k ts) 0) e in
    let l = len_yes k t ts e in
    (λ h. omega (arith, p, l), λ h. absurd (omega (arith, p, h))))
    (λ (e : is_same_kind k t.kind ≡ false).
    let p : len_before k (t ∷ ts) ≡ 1 + len_before k ts = ap (λ (b : Bool). cond (not b) (1 + len_before k ts) 0) e in
    let l = len_no k t ts e in
    (λ h. let m = more.0 (omega (arith, p, h)) in omega (arith, p, l, m), λ h. let m = more.1 (omega (arith, p, h)) in omega (arith, p, l, m)))
    (cases_Bool (is_same_kind k t.kind))

-- what a scan makes of the first statement
scan_next : (text : List ℕ) (ts : List Token) (s : State) (n : ℕ) → 0 < length ts → n ≡ first_len text ts
    → scan s (stated (statements (of text ts)))
    ≡ refused_or (row_of s (statement_at (of text (take n ts)))) (place_of 0 (of text (take n ts))) (scan (after s (form_of (of text (take n ts)))) (stated (statements (of text (drop n ts)))))
scan_next text [] s n h e = absurd (omega arith)
scan_next text (t ∷ ts) s n h e =
    ap (λ (l : List (List Lexeme)). scan s (stated l)) (statements_next text t ts)
    ∙ ap (λ (m : ℕ). scan s (stated (of text (take m (t ∷ ts)) ∷ statements (of text (drop m (t ∷ ts)))))) (sym e)

-- the same from place at on, as slices say it
pub scan_step : (text : List ℕ) (ts : List Token) (at size : ℕ) (s : State) → at < length ts → size ≡ first_len text (take (length ts - at) (drop at ts))
    → scan s (stated (statements (of text (drop at ts))))
    ≡ refused_or (row_of s (statement_at (of text (take (at + size - at) (drop at ts))))) (place_of 0 (of text (take (at + size - at) (drop at ts))))
    (scan (after s (form_of (of text (take (at + size - at) (drop at ts))))) (stated (statements (of text (drop (at + size) ts)))))
scan_step text ts at size s h e =
    let whole : take (length ts - at) (drop at ts) ≡ drop at ts = take_all _ _ (omega (arith, length-drop at ts)) in
    let next = scan_next text (drop at ts) s size (omega (arith, length-drop at ts)) (e ∙ ap (first_len text) whole) in
    let same : size ≡ at + size - at = omega arith in
    next
    ∙ ap (λ (l : List Token). refused_or (row_of s (statement_at (of text (take size (drop at ts))))) (place_of 0 (of text (take size (drop at ts)))) (scan (after s (form_of (of text (take size (drop at ts))))) (stated (statements (of text l))))) (drop-drop size at ts)
    ∙ ap (λ (m : ℕ). refused_or (row_of s (statement_at (of text (take m (drop at ts))))) (place_of 0 (of text (take m (drop at ts)))) (scan (after s (form_of (of text (take m (drop at ts))))) (stated (statements (of text (drop (at + size) ts)))))) same

-- the fault of the first statement is that of all
pub fault_from : (all : List Lexeme) (s : State) (p : List Lexeme) (rest : Result State Refuser) (e : ReadFault)
    → scan start (stated (statements all)) ≡ refused_or (row_of s (statement_at p)) (place_of 0 p) rest → IsRowFault s p e → IsScanFault all e
fault_from all s p rest (Refused number place) from (why, row, num, at) =
    (why, from ∙ ap (λ (o : Option Refusal). refused_or o (place_of 0 p) rest) row ∙ ap (λ (n : ℕ). Err (record { refusal = why; place = n })) (sym at), num)
fault_from all s p rest Memory from h = tt
