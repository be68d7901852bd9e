-- Gates that loops over the qubits append, in rising order and undone in falling order.
use Rattle.std.proofs.Common.{◌≡◌, ℕ, zero, suc, ◌+◌, ◌-◌, ◌*◌, ◌<◌, ◌≤◌, ◌==◌, ◌||◌, List, [], ◌∷◌, ◌++◌, length, length-append, Bool, true, false, refl, ap, sym, ◌∙◌, subst, arith, append_assoc, append-nil, inl, inr}
use Rattle.std.specs.Prelude.{if◌then◌else◌}
use Rattle.std.proofs.lemmas.Bool.{cases_eq, eq-eqb}
use Rattle.std.specs.declared.vec.Vec.{Vec}
use Rattle.std.specs.declared.alloc.Global.{Global}
use Rattle.tc_circuit.specs.declared.circuit.Gate.{Gate}
use Rattle.channel_rep.specs.declared.gate.ChannelGate.{ChannelGate}
use Rattle.channel_rep.specs.declared.gate.ChannelGate.TheVariants.{Cx}
use Rattle.pauli_basis.specs.Letters.{letter_of}
use Rattle.tc_bridge.specs.Block.{as_gates, undone, inverse_gate, letter_to_z, to_z, gather, rising, highest, conjugated_gates, block, Appends}
use Rattle.tc_bridge.proofs.Conjugations.{as_gates-append, length-as_gates, length-undone}

-- ---- lists
rising-push : (f : ℕ → List ChannelGate) (count q : ℕ) → rising f (count + 1) q ≡ rising f count q ++ f (q + count)
rising-push f zero q = append-nil (f q) ∙ ap f (let e : q ≡ q + 0 = omega arith in e)
rising-push f (suc count) q =
    ap (λ k. rising f k q) (let e : suc count + 1 ≡ suc (count + 1) = omega arith in e) ∙ ap (λ gates. f q ++ gates) (rising-push f count (suc q))
    ∙ sym (append_assoc (f q) (rising f count (suc q)) (f (suc q + count))) ∙ ap (λ k. (f q ++ rising f count (suc q)) ++ f k) (let e : suc q + count ≡ q + suc count = omega arith in e)

-- gates are undone in reverse order
undone-append : (c d : List ChannelGate) → undone (c ++ d) ≡ undone d ++ undone c
undone-append [] d = sym (append-nil (undone d))
undone-append (g ∷ c) d = ap (λ gates. gates ++ (inverse_gate g ∷ [])) (undone-append c d) ∙ append_assoc (undone d) (undone c) (inverse_gate g ∷ [])

-- at most k gates for each qubit
length-rising : (f : ℕ → List ChannelGate) (k : ℕ) → ((q : ℕ) → length (f q) ≤ k) → (count q : ℕ) → length (rising f count q) ≤ count * k
length-rising f k h zero q = omega arith
length-rising f k h (suc count) q = omega (arith, length-append (f q) (rising f count (suc q)), h q, length-rising f k h count (suc q))

-- ---- one qubit
to_z-short : (p q : ℕ) → length (to_z p q) ≤ 2
to_z-short p q = by (letter_of q p)
  where
    by : (letter : ℕ) → length (letter_to_z q letter) ≤ 2
    by zero = omega arith
    by (suc zero) = omega arith
    by (suc (suc zero)) = omega arith
    by (suc (suc (suc _))) = omega arith

-- and at most one gathers it
gather-short : (z p q : ℕ) → length (gather z p q) ≤ 1
gather-short z p q = by ((letter_of q p == 0) || (q == z))
  where
    by : (b : Bool) → length (if b then [] else (Cx q z ∷ [])) ≤ 1
    by true = omega arith
    by false = omega arith

-- cx is its own inverse
pub undone-gather : (z p q : ℕ) → undone (gather z p q) ≡ gather z p q
undone-gather z p q = by ((letter_of q p == 0) || (q == z))
  where
    by : (b : Bool) → undone (if b then [] else (Cx q z ∷ [])) ≡ (if b then [] else (Cx q z ∷ []))
    by true = refl
    by false = refl

-- ---- what is appended
pub appends_both : (old mid new : Vec Gate Global) (c d : List Gate) → Appends old mid c → Appends mid new d → Appends old new (c ++ d)
appends_both old mid new c d h g = record {
  items = g.items ∙ ap (λ items. items ++ d) h.items ∙ append_assoc old.items c d;
  len = omega (arith, length-append c d);
  capacity = g.capacity ∙ h.capacity;
}

-- one step of a loop in rising order
pub rising_more : (f : ℕ → List ChannelGate) (q : ℕ) (old mid new : Vec Gate Global) → Appends old mid (as_gates (rising f q 0)) → Appends mid new (as_gates (f q)) → Appends old new (as_gates (rising f (q + 1) 0))
rising_more f q old mid new h g =
    subst (Appends old new) (sym (as_gates-append (rising f q 0) (f q)) ∙ ap as_gates (sym (rising-push f q 0 ∙ ap (λ k. rising f q 0 ++ f k) (let e : 0 + q ≡ q = omega arith in e))))
    (appends_both old mid new _ _ h g)

-- and of one in falling order
pub falling_more : (f : ℕ → List ChannelGate) (n q : ℕ) (old mid new : Vec Gate Global) → 0 < q → q ≤ n → Appends old mid (as_gates (undone (rising f (n - q) q))) → Appends mid new (as_gates (undone (f (q - 1))))
    → Appends old new (as_gates (undone (rising f (n - (q - 1)) (q - 1))))
falling_more f n q old mid new some few h g =
    subst (Appends old new) (sym (as_gates-append (undone (rising f (n - q) q)) (undone (f (q - 1)))) ∙ ap as_gates (sym (undone-append (f (q - 1)) (rising f (n - q) q)) ∙ ap undone joined))
    (appends_both old mid new _ _ h g)
  where
    joined : f (q - 1) ++ rising f (n - q) q ≡ rising f (n - (q - 1)) (q - 1)
    joined = ap (λ k. f (q - 1) ++ rising f (n - q) k) (let e : q ≡ suc (q - 1) = omega arith in e) ∙ ap (λ k. rising f k (q - 1)) (let e : suc (n - q) ≡ n - (q - 1) = omega arith in e)

-- ---- how much
pub to_z_len : (p count q : ℕ) → length (as_gates (rising (to_z p) count q)) ≤ count * 2
to_z_len p count q = omega (arith, length-as_gates (rising (to_z p) count q), length-rising (to_z p) 2 (to_z-short p) count q)

pub from_z_len : (p count q : ℕ) → length (as_gates (undone (rising (to_z p) count q))) ≤ count * 2
from_z_len p count q = omega (arith, length-as_gates (undone (rising (to_z p) count q)), length-undone (rising (to_z p) count q), length-rising (to_z p) 2 (to_z-short p) count q)

pub gather_len : (z p count q : ℕ) → length (as_gates (rising (gather z p) count q)) ≤ count
gather_len z p count q = omega (arith, length-as_gates (rising (gather z p) count q), length-rising (gather z p) 1 (gather-short z p) count q)

pub back_len : (z p count q : ℕ) → length (as_gates (undone (rising (gather z p) count q))) ≤ count
back_len z p count q = omega (arith, length-as_gates (undone (rising (gather z p) count q)), length-undone (rising (gather z p) count q), length-rising (gather z p) 1 (gather-short z p) count q)

-- z itself is not gathered
gather-none : (z p : ℕ) → gather z p z ≡ []
gather-none z p = by (letter_of z p == 0) (z == z) (eq-eqb z z refl)
  where
    by : (a b : Bool) → b ≡ true → (if a || b then [] else (Cx z z ∷ [])) ≡ []
    by true b e = refl
    by false true e = refl
    by false false e = absurd cc

-- so one qubit fewer
length-but : (z p count q : ℕ) → q ≤ z → z < q + count → suc (length (rising (gather z p) count q)) ≤ count
length-but z p zero q l h = absurd (omega arith)
length-but z p (suc count) q l h = elim (cases_eq q z) [
  | inl e ↦ omega (
    arith,
    ap (λ k. length (gather z p k ++ rising (gather z p) count (suc k))) e,
    ap (λ gates. length (gates ++ rising (gather z p) count (suc z))) (gather-none z p),
    length-rising (gather z p) 1 (gather-short z p) count (suc z),
    ap (λ k. length (rising (gather z p) count (suc k))) e,
  )
  | inr d ↦ omega (arith, length-append (gather z p q) (rising (gather z p) count (suc q)), gather-short z p q, length-but z p count (suc q) (omega arith) (omega arith))
]

-- in the two loops
pub gathers_few : (z p n : ℕ) → z < n → suc (length (as_gates (rising (gather z p) n 0))) ≤ n
gathers_few z p n l = omega (arith, length-as_gates (rising (gather z p) n 0), length-but z p n 0 (omega arith) (omega arith))

pub backs_few : (z p n : ℕ) → z < n → suc (length (as_gates (undone (rising (gather z p) n 0)))) ≤ n
backs_few z p n l = omega (arith, length-as_gates (undone (rising (gather z p) n 0)), length-undone (rising (gather z p) n 0), length-but z p n 0 (omega arith) (omega arith))

-- ---- the whole block
regroup : (old front gathers back end : List Gate) (center : Gate) → (((old ++ front) ++ gathers) ++ (center ∷ [])) ++ back ++ end ≡ old ++ ((front ++ gathers) ++ (center ∷ (back ++ end)))
regroup old front gathers back end center = simp append_assoc

-- the five pieces are the block
pub block_pieces : (n p z : ℕ) (old : List Gate) → z ≡ highest n p
    → ((((old ++ as_gates (rising (to_z p) n 0)) ++ as_gates (rising (gather z p) n 0)) ++ (Gate.T z ∷ [])) ++ as_gates (undone (rising (gather z p) n 0))) ++ as_gates (undone (rising (to_z p) n 0))
    ≡ old ++ block n p
block_pieces n p z old e =
    let front = rising (to_z p) n 0 in
    let gathers = rising (gather z p) n 0 in
    regroup old (as_gates front) (as_gates gathers) (as_gates (undone gathers)) (as_gates (undone front)) (Gate.T z)
    ∙ (λ i. old ++ (sym (as_gates-append front gathers) i ++ (Gate.T z ∷ sym (ap as_gates (undone-append front gathers) ∙ as_gates-append (undone gathers) (undone front)) i)))
    ∙ ap (λ k. old ++ conjugated_gates (front ++ rising (gather k p) n 0) (Gate.T k)) e
