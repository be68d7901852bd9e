-- Lemmas for the crates above: the tokens of a text, one after another.
use Rattle.std.proofs.Common.{◌≡◌, ℕ, zero, suc, ◌+◌, ◌-◌, ◌<◌, ◌≤◌, List, [], ◌∷◌, ◌++◌, length, take, drop, Option, Some, None, arith, ap, ◌∙◌, sym, refl, subst, ◌⊎◌, inl, inr, ⊎_elim, length-drop, append_assoc}
use Rattle.qasm_lex.specs.declared.token.Kind.{Kind}
use Rattle.qasm_lex.specs.declared.token.Token.{Token}
use Rattle.qasm_lex.specs.Tokens.{gap, BeginsWith, IsLongest, NoToken, IsCut, AreSpans, Cuts, Tokens, Bad}
use Rattle.qasm_lex.specs.Front.{front}
use Rattle.qasm_lex.proofs.Longest.{at_front, no_empty, IsFront, front_is}
use Rattle.qasm_lex.proofs.Gaps.{gap_within}
use Rattle.qasm_lex.proofs.Rest.{rest_is}
use Rattle.std.proofs.lemmas.Bool.{cases_lt}
use Rattle.std.proofs.Math.Seq.{drop-length}

-- from place p, where nothing is skipped, these are the tokens
abbrev pub CutsAt : List ℕ → ℕ → List Token → ℕ → Type 0
CutsAt text p [] q = p ≡ q
CutsAt text p (t ∷ ts) q = (p ≡ t.start) × IsCut text t × Cuts text t.end ts q

-- a cut behind a gap is a cut before it
pub behind_gap : (text : List ℕ) (p : ℕ) (ts : List Token) (q : ℕ) → CutsAt text (p + gap (drop p text)) ts q → Cuts text p ts q
behind_gap text p [] q h = h
behind_gap text p (t ∷ ts) q h = h

-- two longest tokens are one
pub longest_same : (bs : List ℕ) (k l : Kind) (n m : ℕ) → IsLongest bs k n → IsLongest bs l m → (k ≡ l) × (n ≡ m)
longest_same [] k l zero m a b = absurd (no_empty k a.token.1)
longest_same [] k l (suc n) m a b = absurd (omega (arith, a.token.0))
longest_same (c ∷ cs) k l n m a b =
    let x = at_front c cs k n a.token in
    let y = at_front c cs l m b.token in
    (cc (x.3, y.3), omega (arith, a.longest l m b.token, b.longest k n a.token))

-- an empty text has no token
pub no_token_at_end : (bs : List ℕ) → bs ≡ [] → NoToken bs
no_token_at_end [] e = go
  where
    go : (k : Kind) (n : ℕ) → BeginsWith [] k n → ⊥
    go k zero t = no_empty k t.1
    go k (suc n) t = absurd (omega (arith, t.0))
no_token_at_end (b ∷ bs) e = absurd (cc)

-- tokens that agree in kind, start and end are one
same_token : (t u : Token) → t.kind ≡ u.kind → t.start ≡ u.start → t.end ≡ u.end → t ≡ u
same_token t u a b c = λ i. record { kind = a i; start = b i; end = c i }

-- one text is cut in one way
pub cut_once : (text : List ℕ) (ts us : List Token) (p q r : ℕ) → Cuts text p ts q → Cuts text p us r → NoToken (drop q text) → NoToken (drop r text) → (ts ≡ us) × (q ≡ r)
cut_once text [] [] p q r a b f g = (refl, sym a ∙ b)
cut_once text [] (u ∷ us) p q r a b f g =
    let at : u.start ≡ q = sym b.0 ∙ a in
    absurd (f u.kind b.1.spans.0 (subst (λ (x : ℕ). BeginsWith (drop x text) u.kind b.1.spans.0) at b.1.spans.2.token))
cut_once text (t ∷ ts) [] p q r a b f g =
    let at : t.start ≡ r = sym a.0 ∙ b in
    absurd (g t.kind a.1.spans.0 (subst (λ (x : ℕ). BeginsWith (drop x text) t.kind a.1.spans.0) at a.1.spans.2.token))
cut_once text (t ∷ ts) (u ∷ us) p q r a b f g =
    let at : t.start ≡ u.start = sym a.0 ∙ b.0 in
    let same = longest_same (drop u.start text) t.kind u.kind a.1.spans.0 b.1.spans.0 (subst (λ (x : ℕ). IsLongest (drop x text) t.kind a.1.spans.0) at a.1.spans.2) b.1.spans.2 in
    let ends : t.end ≡ u.end = a.1.spans.1 ∙ omega (arith, at, same.1) ∙ sym b.1.spans.1 in
    let rest = cut_once text ts us u.end q r (subst (λ (x : ℕ). Cuts text x ts q) ends a.2) b.2 f g in
    let one = same_token t u same.0 at ends in
    (cc (one, rest.0), rest.1)

-- the longest token is not empty
pub some_longest : (bs : List ℕ) (k : Kind) (n : ℕ) → IsLongest bs k n → 0 < n
some_longest bs k zero l = absurd (no_empty k l.token.1)
some_longest bs k (suc n) l = omega arith

-- a cut from place p on, up to the end or to a bad byte
pub record Whole (text : List ℕ) (p : ℕ) : Type 0 where
  pub tokens : List Token
  pub stop : ℕ
  pub cut : Cuts text p tokens stop
  pub within : stop ≤ length text
  pub none : NoToken (drop stop text)

-- a gap and a token, and a cut of what is behind them
cut_next : (text : List ℕ) (p : ℕ) → p ≤ length text → ((r : ℕ) → p < r → r ≤ length text → Whole text r) → Whole text p
cut_next text p h more = go (front (drop at text)) (front_is (drop at text))
  where
    at : ℕ
    at = p + gap (drop p text)

    at_within : at ≤ length text
    at_within = omega (arith, gap_within (drop p text), length-drop p text)

    found : (k : Kind) (n : ℕ) → IsLongest (drop at text) k n → 0 < n → at + n ≤ length text → Whole text p
    found k n l some within =
        let rest = more (at + n) (omega arith) within in
        record {
          tokens = record { kind = k; start = at; end = at + n } ∷ rest.tokens;
          stop = rest.stop;
          cut = (refl, record { spans = (n, refl, l) }, rest.cut);
          within = rest.within;
          none = rest.none;
        }

    go : (o : Option (Kind × ℕ)) → IsFront (drop at text) o → Whole text p
    go None none = record { tokens = []; stop = at; cut = refl; within = at_within; none = none }
    go (Some (k, n)) l = found k n l (some_longest (drop at text) k n l) (let w = at_within in omega (arith, l.token.0, length-drop at text))

-- each text is cut up to its end or up to a bad byte
pub cut_all : (text : List ℕ) (fuel p : ℕ) → p ≤ length text → length text - p ≤ fuel → Whole text p
cut_all text zero p h f = cut_next text p h (λ r lt le. absurd (omega arith))
cut_all text (suc fuel) p h f = cut_next text p h (λ r lt le. cut_all text fuel r le (omega arith))

-- one token more, and the gap behind it
pub one_more : (text : List ℕ) (done : List Token) (t : Token) (at len next : ℕ)
    → ((ts : List Token) (q : ℕ) → CutsAt text at ts q → Cuts text 0 (done ++ ts) q)
    → t.start ≡ at → t.end ≡ at + len → IsLongest (drop at text) t.kind len → next ≡ t.end + gap (drop t.end text)
    → (ts : List Token) (q : ℕ) → CutsAt text next ts q → Cuts text 0 ((done ++ t ∷ []) ++ ts) q
one_more text done t at len next before starts ends l is ts q cut =
    let behind = behind_gap text t.end ts q (subst (λ (x : ℕ). CutsAt text x ts q) is cut) in
    let whole : CutsAt text at (t ∷ ts) q = (sym starts, record { spans = (len, ends ∙ ap (λ (x : ℕ). x + len) (sym starts), subst (λ (x : ℕ). IsLongest (drop x text) t.kind len) (sym starts) l) }, behind) in
    subst (λ (xs : List Token). Cuts text 0 xs q) (sym (append_assoc done (t ∷ []) ts)) (before (t ∷ ts) q whole)

-- `front` of a slice up to the end is the longest token at that place
pub found_at : (text : List ℕ) (at : ℕ) (o x : Option (Kind × ℕ)) → o ≡ front (take (length text - at) (drop at text)) → o ≡ x → IsFront (drop at text) x
found_at text at o x value is =
    subst (IsFront (drop at text)) (sym (ap front (rest_is text at)) ∙ sym value ∙ is) (front_is (drop at text))

-- no token is at the end of a text
end_is : (text : List ℕ) → NoToken (drop (length text) text)
end_is text = no_token_at_end _ (drop-length text)

-- a text has one list of tokens
pub tokens_unique : (text : List ℕ) (ts us : List Token) → Tokens text ts → Tokens text us → ts ≡ us
tokens_unique text ts us a b = (cut_once text ts us 0 (length text) (length text) a b (end_is text) (end_is text)).0

-- a text has one first bad byte
pub bad_unique : (text : List ℕ) (p q : ℕ) → Bad text p → Bad text q → p ≡ q
bad_unique text p q a b = (cut_once text a.0 b.0 0 p q a.1 b.1 a.3 b.3).1

-- a text with tokens has no bad byte
pub never_both : (text : List ℕ) (ts : List Token) (p : ℕ) → Tokens text ts → Bad text p → ⊥
never_both text ts p a b = let e = (cut_once text ts b.0 0 (length text) p a b.1 (end_is text) b.3).1 in omega (arith, e, b.2)

-- a text has tokens or a bad byte
pub tokens_or_bad : (text : List ℕ) → ((ts : List Token) × Tokens text ts) ⊎ ((p : ℕ) × Bad text p)
tokens_or_bad text =
    let w = cut_all text (length text) 0 (omega arith) (omega arith) in
    ⊎_elim
    (λ (lt : w.stop < length text). inr (w.stop, (w.tokens, w.cut, lt, w.none)))
    (λ (ge : length text ≤ w.stop). let e : w.stop ≡ length text = omega (arith, w.within) in inl (w.tokens, subst (λ (x : ℕ). Cuts text 0 w.tokens x) e w.cut))
    (cases_lt w.stop (length text))

-- a cut's tokens stand one after another in the text
pub spans_of : (text : List ℕ) (ts : List Token) (p q : ℕ) → Cuts text p ts q → AreSpans text p ts
spans_of text [] p q c = tt
spans_of text (t ∷ ts) p q c =
    let some = some_longest (drop t.start text) t.kind c.1.spans.0 c.1.spans.2 in
    let within : t.end ≤ length text = omega (arith, c.1.spans.1, c.1.spans.2.token.0, length-drop t.start text, some) in
    (omega (arith, c.0), omega (arith, c.1.spans.1, some), within, spans_of text ts t.end q c.2)
