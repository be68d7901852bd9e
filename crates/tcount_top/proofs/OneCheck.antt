-- `check` has one outcome for a text.
use Rattle.std.proofs.Common.{◌≡◌, ℕ, ◌+◌, List, take, drop, refl, ap, sym, ◌∙◌, subst, inl, inr, arith}
use Rattle.qasm_lex.specs.Tokens.{Bad}
use Rattle.tc_circuit.specs.Circuit.{Gates, IsSmallCircuit}
use Rattle.tc_circuit.specs.Model.{Same}
use Rattle.qasm_reader.specs.Halves.{HasHalves, HasNoHalves}
use Rattle.qasm_reader.specs.Read.{Reads, Refused as IsRefused}
use Rattle.count_checker.specs.Check.{IsTooManyH}
use Rattle.tcount_top.specs.declared.top.Status.{Status}
use Rattle.tcount_top.specs.Lines.{refusal_line, many_h_line}
use Rattle.tcount_top.specs.Out.{AreFewH, CircuitsOut, ProgramsOut, CheckOut, many_h, are_same, differ, first_refused, second_refused, both_read, overlong, bad_byte, no_halves, halved}

-- the laws of the reader
pub record Reading : Type 0 where
  pub never_both : (text : List ℕ) (c : Gates) (n p : ℕ) → Reads text c → IsRefused text n p → ⊥
  pub circuit : (text : List ℕ) (c d : Gates) → Reads text c → Reads text d → c ≡ d
  pub refusal : (text : List ℕ) (n p m q : ℕ) → IsRefused text n p → IsRefused text m q → (n ≡ m) × (p ≡ q)
  pub small : (text : List ℕ) (c : Gates) → Reads text c → IsSmallCircuit c
  pub itself : (c : Gates) → IsSmallCircuit c → Same c.qubits c.gates c.gates

-- the laws of texts that are cut
pub record Halving : Type 0 where
  pub bad : (text : List ℕ) (p q : ℕ) → Bad text p → Bad text q → p ≡ q
  pub place : (text : List ℕ) (p q : ℕ) → HasHalves text p → HasHalves text q → p ≡ q
  pub never_none : (text : List ℕ) (p : ℕ) → HasHalves text p → HasNoHalves text → ⊥
  pub never_bad : (text : List ℕ) (p q : ℕ) → HasHalves text p → Bad text q → ⊥
  pub none_never_bad : (text : List ℕ) (q : ℕ) → HasNoHalves text → Bad text q → ⊥

-- ---- circuits
-- not too many h gates are few
pub not_many : {P : Type 0} → (c d : Gates) (count : ℕ) → IsTooManyH c d count → AreFewH c d → P
not_many c d count (inl m) few = absurd (omega (arith, m.0, few.0))
not_many c d count (inr m) few = absurd (omega (arith, m.1, few.1))

-- the count is one
one_count : (c d : Gates) (k l : ℕ) → IsTooManyH c d k → IsTooManyH c d l → k ≡ l
one_count c d k l (inl m) (inl n) = m.1 ∙ sym n.1
one_count c d k l (inl m) (inr n) = absurd (omega (arith, m.0, n.0))
one_count c d k l (inr m) (inl n) = absurd (omega (arith, m.0, n.0))
one_count c d k l (inr m) (inr n) = m.2 ∙ sym n.2

one_circuits : (c d : Gates) (s t : Status) (a b : List ℕ) → CircuitsOut c d s a → CircuitsOut c d t b → (s ≡ t) × (a ≡ b)
one_circuits c d s t a b (many_h k m) (many_h l n) = (refl, ap many_h_line (one_count c d k l m n))
one_circuits c d s t a b (many_h k m) (are_same few e) = not_many c d k m few
one_circuits c d s t a b (many_h k m) (differ few o) = not_many c d k m few
one_circuits c d s t a b (are_same few e) (many_h k m) = not_many c d k m few
one_circuits c d s t a b (are_same few e) (are_same few' e') = (refl, refl)
one_circuits c d s t a b (are_same few e) (differ few' o) = absurd (o e)
one_circuits c d s t a b (differ few o) (many_h k m) = not_many c d k m few
one_circuits c d s t a b (differ few o) (are_same few' e) = absurd (o e)
one_circuits c d s t a b (differ few o) (differ few' o') = (refl, refl)

-- ---- programs and texts
module _ (reading : Reading) where
  -- a refusal has one line
  one_line : (line : ℕ → ℕ → List ℕ) (text : List ℕ) (n p m q : ℕ) → IsRefused text n p → IsRefused text m q → line n p ≡ line m q
  one_line line text n p m q r r' = let e = reading.refusal text n p m q r r' in ap (λ (k : ℕ). line k p) e.0 ∙ ap (line m) e.1

  one_programs : (cut : ℕ) (x y : List ℕ) (s t : Status) (a b : List ℕ) → ProgramsOut cut x y s a → ProgramsOut cut x y t b → (s ≡ t) × (a ≡ b)
  one_programs cut x y s t a b (first_refused n p r) (first_refused m q r') = (refl, one_line refusal_line x n p m q r r')
  one_programs cut x y s t a b (first_refused n p r) (second_refused c h m q r') = absurd (reading.never_both x c n p h r)
  one_programs cut x y s t a b (first_refused n p r) (both_read c d h h' u e out) = absurd (reading.never_both x c n p h r)
  one_programs cut x y s t a b (second_refused c h n p r) (first_refused m q r') = absurd (reading.never_both x c m q h r')
  one_programs cut x y s t a b (second_refused c h n p r) (second_refused d h' m q r') = (refl, one_line (λ k place. refusal_line k (cut + place)) y n p m q r r')
  one_programs cut x y s t a b (second_refused c h n p r) (both_read e d g h' u f out) = absurd (reading.never_both y d n p h' r)
  one_programs cut x y s t a b (both_read c d h h' u e out) (first_refused m q r) = absurd (reading.never_both x c m q h r)
  one_programs cut x y s t a b (both_read c d h h' u e out) (second_refused f g m q r) = absurd (reading.never_both y d m q h' r)
  one_programs cut x y s t a b (both_read c d h h' u e out) (both_read c' d' g g' v f out') =
      let first : c' ≡ c = reading.circuit x c' c g h in
      let second : d' ≡ d = reading.circuit y d' d g' h' in
      one_circuits c d u v e f out (subst (λ (k : Gates). CircuitsOut c k v f) second (subst (λ (k : Gates). CircuitsOut k d' v f) first out'))

  pub one_check : Halving → (text : List ℕ) (s t : Status) (a b : List ℕ) → CheckOut text s a → CheckOut text t b → (s ≡ t) × (a ≡ b)
  one_check halving text s t a b (overlong l) (overlong m) = (refl, refl)
  one_check halving text s t a b (overlong l) (bad_byte m q w) = absurd (omega (arith, l, m))
  one_check halving text s t a b (overlong l) (no_halves m n) = absurd (omega (arith, l, m))
  one_check halving text s t a b (overlong l) (halved m cut h v f out) = absurd (omega (arith, l, m))
  one_check halving text s t a b (bad_byte l p w) (overlong m) = absurd (omega (arith, l, m))
  one_check halving text s t a b (bad_byte l p w) (bad_byte m q w') = (refl, ap (refusal_line 2) (halving.bad text p q w w'))
  one_check halving text s t a b (bad_byte l p w) (no_halves m n) = absurd (halving.none_never_bad text p n w)
  one_check halving text s t a b (bad_byte l p w) (halved m cut h v f out) = absurd (halving.never_bad text cut p h w)
  one_check halving text s t a b (no_halves l n) (overlong m) = absurd (omega (arith, l, m))
  one_check halving text s t a b (no_halves l n) (bad_byte m q w) = absurd (halving.none_never_bad text q n w)
  one_check halving text s t a b (no_halves l n) (no_halves m n') = (refl, refl)
  one_check halving text s t a b (no_halves l n) (halved m cut h v f out) = absurd (halving.never_none text cut h n)
  one_check halving text s t a b (halved l cut h u e out) (overlong m) = absurd (omega (arith, l, m))
  one_check halving text s t a b (halved l cut h u e out) (bad_byte m q w) = absurd (halving.never_bad text cut q h w)
  one_check halving text s t a b (halved l cut h u e out) (no_halves m n) = absurd (halving.never_none text cut h n)
  one_check halving text s t a b (halved l cut h u e out) (halved m cut' h' v f out') =
      let one : cut' ≡ cut = halving.place text cut' cut h' h in
      one_programs cut (take cut text) (drop cut text) u v e f out (subst (λ (k : ℕ). ProgramsOut k (take k text) (drop k text) v f) one out')
