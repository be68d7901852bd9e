-- Lemmas for the crates above: tokens that stand one after another in a text lie in it.
use Rattle.std.proofs.Common.{ℕ, List, [], ◌∷◌, arith}
use Rattle.std.specs.Prelude.{All}
use Rattle.std.proofs.lemmas.List.Elements.{All-nil, All-cons}
use Rattle.qasm_lex.specs.declared.token.Token.{Token}
use Rattle.qasm_lex.specs.Tokens.{AreSpans, IsWithin}

pub within : (text : List ℕ) (p : ℕ) (ts : List Token) → AreSpans text p ts → All (IsWithin text) ts
within text p [] s = All-nil (IsWithin text)
within text p (t ∷ ts) s = All-cons (IsWithin text) t ts (omega (arith, s.1), s.2) (within text t.end ts s.3)
