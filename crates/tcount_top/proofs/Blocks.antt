-- The gates of a word: they fit its qubits, and are few.
use Rattle.std.proofs.Common.{◌≡◌, ℕ, zero, suc, ◌+◌, ◌*◌, ◌<◌, ◌≤◌, Bool, true, false, List, [], ◌∷◌, ◌++◌, length, refl, arith, length-append}
use Rattle.std.specs.Prelude.{◌==◌, ◌||◌, if◌then◌else◌}
use Rattle.std.specs.List.{AllByRecursion}
use Rattle.std.proofs.lemmas.Bool.{eqb-false}
use Rattle.tc_circuit.specs.Gate as circuit
use Rattle.tc_circuit.specs.Model.{IsCircuit}
use Rattle.tc_circuit.specs.declared.circuit.Gate.{Gate}
use Rattle.pauli_basis.specs.Letters.{letter_of}
use Rattle.channel_rep.specs.declared.gate.ChannelGate.{ChannelGate}
use Rattle.channel_rep.specs.declared.gate.ChannelGate.TheVariants.{Cx}
use Rattle.channel_rep.specs.Gates.{GateFits}
use Rattle.tc_bridge.specs.Block.{as_gates, undone, letter_to_z, to_z, highest, gather, rising, opening, block, word_gates}
use Rattle.tc_bridge.proofs.Conjugations.{all-append, gate_fits, undone_fits, length-as_gates, length-undone}

-- ---- they fit
letter_fits : (n q l : ℕ) → q < n → AllByRecursion (GateFits n) (letter_to_z q l)
letter_fits n q zero h = tt
letter_fits n q (suc zero) h = (h, tt)
letter_fits n q (suc (suc zero)) h = (h, (h, tt))
letter_fits n q (suc (suc (suc l))) h = tt

gather_fits : (n z p q : ℕ) → z < n → q < n → AllByRecursion (GateFits n) (gather z p q)
gather_fits n z p q hz hq = by (letter_of q p == 0) (q == z) refl
  where
    by : (a b : Bool) → (q == z) ≡ b → AllByRecursion (GateFits n) (if a || b then [] else (Cx q z ∷ []))
    by true b e = tt
    by false true e = tt
    by false false e = ((hq, hz, eqb-false q z e), tt)

rising_fits : (n : ℕ) (f : ℕ → List ChannelGate) → ((q : ℕ) → q < n → AllByRecursion (GateFits n) (f q)) → (count q : ℕ) → q + count ≤ n → AllByRecursion (GateFits n) (rising f count q)
rising_fits n f h zero q l = tt
rising_fits n f h (suc count) q l = all-append (GateFits n) (f q) (rising f count (suc q)) (h q (omega (arith, l))) (rising_fits n f h count (suc q) (omega (arith, l)))

highest_within : (count p : ℕ) → highest count p ≤ count
highest_within zero p = omega arith
highest_within (suc q) p = by (letter_of q p == 0) (highest_within q p)
  where
    by : (b : Bool) → highest q p ≤ q → (if b then highest q p else q) ≤ suc q
    by true h = omega (arith, h)
    by false h = omega arith

highest_below : (n p : ℕ) → 0 < n → highest n p < n
highest_below zero p h = absurd (omega (arith, h))
highest_below (suc q) p h = by (letter_of q p == 0)
  where
    by : (b : Bool) → (if b then highest q p else q) < suc q
    by true = omega (arith, highest_within q p)
    by false = omega arith

opening_fits : (n p : ℕ) → 0 < n → AllByRecursion (GateFits n) (opening n p)
opening_fits n p some =
    all-append (GateFits n) (rising (to_z p) n 0) (rising (gather (highest n p) p) n 0)
    (rising_fits n (to_z p) (λ q h. letter_fits n q (letter_of q p) h) n 0 (omega arith))
    (rising_fits n (gather (highest n p) p) (λ q h. gather_fits n (highest n p) p q (highest_below n p some) h) n 0 (omega arith))

gates_fit : (n : ℕ) (gates : List ChannelGate) → AllByRecursion (GateFits n) gates → IsCircuit n (as_gates gates)
gates_fit n [] h = tt
gates_fit n (g ∷ gates) h = (gate_fits n g h.0, gates_fit n gates h.1)

block_fits : (n p : ℕ) → 0 < n → IsCircuit n (block n p)
block_fits n p some =
    let front = opening_fits n p some in
    all-append (circuit.Fits n) (as_gates (opening n p)) (Gate.T (highest n p) ∷ as_gates (undone (opening n p))) (gates_fit n (opening n p) front)
    (highest_below n p some, gates_fit n (undone (opening n p)) (undone_fits n (opening n p) front))

pub word_fits : (n : ℕ) → 0 < n → (word : List ℕ) → IsCircuit n (word_gates n word)
word_fits n some [] = tt
word_fits n some (p ∷ word) = all-append (circuit.Fits n) (word_gates n word) (block n p) (word_fits n some word) (block_fits n p some)

-- ---- they are few
short_letter : (q l : ℕ) → length (letter_to_z q l) ≤ 2
short_letter q zero = omega arith
short_letter q (suc zero) = omega arith
short_letter q (suc (suc zero)) = omega arith
short_letter q (suc (suc (suc l))) = omega arith

short_gather : (z p q : ℕ) → length (gather z p q) ≤ 2
short_gather z p q = by ((letter_of q p == 0) || (q == z))
  where
    by : (b : Bool) → length (if b then [] else (Cx q z ∷ [])) ≤ 2
    by true = omega arith
    by false = omega arith

short_rising : (f : ℕ → List ChannelGate) → ((q : ℕ) → length (f q) ≤ 2) → (count q : ℕ) → length (rising f count q) ≤ 2 * count
short_rising f h zero q = omega arith
short_rising f h (suc count) q = omega (arith, length-append (f q) (rising f count (suc q)), h q, short_rising f h count (suc q))

short_opening : (n p : ℕ) → length (opening n p) ≤ 4 * n
short_opening n p =
    omega (arith, length-append (rising (to_z p) n 0) (rising (gather (highest n p) p) n 0), short_rising (to_z p) (λ q. short_letter q (letter_of q p)) n 0, short_rising (gather (highest n p) p) (short_gather (highest n p) p) n 0)

short_block : (n p : ℕ) → n ≤ 3 → length (block n p) ≤ 25
short_block n p few =
    omega (arith, few, length-append (as_gates (opening n p)) (Gate.T (highest n p) ∷ as_gates (undone (opening n p))), length-as_gates (opening n p), length-as_gates (undone (opening n p)), length-undone (opening n p), short_opening n p)

pub short_word : (n : ℕ) → n ≤ 3 → (word : List ℕ) → length (word_gates n word) ≤ 25 * length word
short_word n few [] = omega arith
short_word n few (p ∷ word) = omega (arith, length-append (word_gates n word) (block n p), short_block n p few, short_word n few word)
