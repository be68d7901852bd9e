-- The tokens of a text, each with its place: what is skipped, the longest token at a place, and the cut of a text into
-- its tokens (OpenQASM 2.0; "longest" is the rule of maximal munch of lexical analysis).
use Rattle.std.specs.Prelude.{◌≡◌, ℕ, ◌+◌, ◌<◌, ◌≤◌, Bool, true, false, ◌||◌, not, IsTrue, List, [], ◌∷◌, length, take, drop, codes, if◌then◌else◌, ◌==◌, nat_eq}
use Rattle.std.specs.List.{starts_with}
use Rattle.qasm_lex.specs.declared.token.Kind.{Kind}
use Rattle.qasm_lex.specs.declared.token.Token.{Token}
use Rattle.qasm_lex.specs.declared.fault.LexFault.{LexFault}
use Rattle.qasm_lex.specs.declared.fault.LexFault.TheVariants.{BadByte, Memory}
use Rattle.qasm_lex.specs.Bytes.{is_token}

-- space, tab, line feed or carriage return
abbrev pub is_blank : ℕ → Bool
is_blank b = (b == 32) || ((b == 9) || ((b == 10) || (b == 13)))

-- how many bytes at the front are blanks or in comments; the text may begin inside a comment, which lasts up to the next
-- line feed or the end
unfoldable pub gap_from : Bool → List ℕ → ℕ
gap_from in_comment [] = 0
gap_from true (b ∷ bs) = 1 + gap_from (not (b == 10)) bs
gap_from false (b ∷ bs) =
    if is_blank b then 1 + gap_from false bs
    else if starts_with nat_eq (b ∷ bs) (codes "//") then 1 + gap_from true bs
    else 0

-- how many bytes at the front are skipped
abbrev pub gap : List ℕ → ℕ
gap bs = gap_from false bs

-- the first bytes, this many, are a token of the kind
abbrev pub BeginsWith : List ℕ → Kind → ℕ → Type 0
BeginsWith bs kind len = (len ≤ length bs) × IsTrue (is_token kind (take len bs))

-- a token of this kind and length is at the front, and none there is longer
pub record IsLongest (bs : List ℕ) (kind : Kind) (len : ℕ) : Type 0 where
  pub token : BeginsWith bs kind len
  pub longest : (k : Kind) (n : ℕ) → BeginsWith bs k n → n ≤ len

-- no token is at the front
abbrev pub NoToken : List ℕ → Type 0
NoToken bs = (k : Kind) (n : ℕ) → BeginsWith bs k n → ⊥

-- the token is the longest at its place
pub record IsCut (text : List ℕ) (t : Token) : Type 0 where
  pub spans : (len : ℕ) × (t.end ≡ t.start + len) × IsLongest (drop t.start text) t.kind len

-- from place p on these are the tokens, and what stands before, between and behind them up to place q is skipped
abbrev pub Cuts : List ℕ → ℕ → List Token → ℕ → Type 0
Cuts text p [] q = p + gap (drop p text) ≡ q
Cuts text p (t ∷ ts) q = (p + gap (drop p text) ≡ t.start) × IsCut text t × Cuts text t.end ts q

-- these are the tokens of the text: they and what is skipped make up all of it
abbrev pub Tokens : List ℕ → List Token → Type 0
Tokens text ts = Cuts text 0 ts (length text)

-- the byte at place q is the first that is neither skipped nor in a token
abbrev pub Bad : List ℕ → ℕ → Type 0
Bad text q = (ts : List Token) × Cuts text 0 ts q × (q < length text) × NoToken (drop q text)

-- the fault is the text's: its first bad byte, or want of memory, of which nothing is said
abbrev pub IsFault : List ℕ → LexFault → Type 0
IsFault text (BadByte p) = Bad text p
IsFault text Memory = Unit {0}

-- the token lies in the text
abbrev pub IsWithin : List ℕ → Token → Type 0
IsWithin text t = (t.start ≤ t.end) × (t.end ≤ length text)

-- the tokens have bytes of the text, one after another, from place p on
abbrev pub AreSpans : List ℕ → ℕ → List Token → Type 0
AreSpans text p [] = Unit {0}
AreSpans text p (t ∷ ts) = (p ≤ t.start) × (t.start < t.end) × (t.end ≤ length text) × AreSpans text t.end ts
