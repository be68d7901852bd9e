-- Bytes that move in pieces.
use Rattle.std.proofs.lemmas.Grind.{common_steps}
use Rattle.std.proofs.Math.Seq.{take-add}
use Rattle.std.proofs.Common.{◌≡◌, ℕ, ◌+◌, ◌-◌, ◌≤◌, List, ◌++◌, length, take, drop, sym, ap, subst, ◌∙◌, append_assoc, arith, None, Some, length-append, length-take}
use Rattle.std.specs.declared.option.Option.{Option}
use Rattle.std.specs.Io.KnownBytes.{Appends, Consumes}
use Rattle.tc_io.specs.Stream.{TakesFront, TakesAtMost}

-- what is appended in two steps
pub appends_more : (a b c : Option (List ℕ)) (xs ys : List ℕ) → Appends a b xs → Appends b c ys → Appends a c (xs ++ ys)
appends_more None b c xs ys h g = tt
appends_more (Some x) None c xs ys h g = absurd h
appends_more (Some x) (Some y) None xs ys h g = absurd g
appends_more (Some x) (Some y) (Some z) xs ys h g = g ∙ ap (λ (l : List ℕ). l ++ ys) h ∙ append_assoc x xs ys

-- what is consumed in two steps
pub consumes_more : (a b c : Option (List ℕ)) (xs ys : List ℕ) → Consumes a b xs → Consumes b c ys → Consumes a c (xs ++ ys)
consumes_more None b c xs ys h g = tt
consumes_more (Some x) None c xs ys h g = absurd h
consumes_more (Some x) (Some y) None xs ys h g = absurd g
consumes_more (Some x) (Some y) (Some z) xs ys h g = h ∙ ap (λ (l : List ℕ). xs ++ l) g ∙ sym (append_assoc xs ys z)

-- the front of some bytes, and the front of the rest after it
pub next_piece : (n at : ℕ) (bytes : List ℕ) → take (at + n) bytes ≡ take at bytes ++ take n (take (length bytes - at) (drop at bytes))
next_piece n at bytes =
    let rest : take (length bytes - at) (drop at bytes) ≡ drop at bytes = grind (arith, common_steps) in
    take-add at n bytes ∙ ap (λ (l : List ℕ). take at bytes ++ take n l) (sym rest)

-- some bytes and then a read's bytes are the source's front
pub takes_front : (n k : ℕ) (a b c : Option (List ℕ)) (xs buf : List ℕ) → Consumes a b xs → Consumes b c (take k buf) → k ≤ length buf → length xs + k ≡ n → TakesFront n a c
takes_front n k a b c xs buf h g inside e = record {
  taken = xs ++ take k buf;
  exact = simp (length-append, length-take) (omega arith);
  gone = consumes_more a b c xs (take k buf) h g;
}

-- the same, where no more than n bytes are told of
pub takes_at_most : (n k : ℕ) (a b c : Option (List ℕ)) (xs buf : List ℕ) → Consumes a b xs → Consumes b c (take k buf) → k ≤ length buf → length xs + k ≤ n → TakesAtMost n a c
takes_at_most n k a b c xs buf h g inside e = record {
  count = length xs + k;
  short = e;
  front = takes_front (length xs + k) k a b c xs buf h g inside (omega arith);
}

-- one write more of some bytes
pub written_more : (a b c : Option (List ℕ)) (n at : ℕ) (bytes : List ℕ) → Appends a b (take at bytes) → Appends b c (take n (take (length bytes - at) (drop at bytes))) → Appends a c (take (at + n) bytes)
written_more a b c n at bytes h g =
    subst (λ (piece : List ℕ). Appends a c piece) (sym (next_piece n at bytes)) (appends_more a b c _ _ h g)
