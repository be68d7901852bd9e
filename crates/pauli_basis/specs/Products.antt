-- Products of Pauli operators by their codes (Nielsen and Chuang, section 10.5.1, the Pauli group).
use Rattle.std.specs.Prelude.{ℕ, zero, suc, ◌+◌, ◌/◌, ◌%◌, ◌==◌, Bool, true, false, bit_xor}
use Rattle.pauli_basis.specs.Letters.{letter_turns, letter_clash}

-- the code of a product: on each qubit the exclusive or of the two letters
abbrev pub product_code : ℕ → ℕ → ℕ
product_code p q = bit_xor p q

-- the quarter turns t of a product on n qubits, P·Q = i ^ t · R: those of the letters, added over the qubits
unfoldable pub turns : ℕ → ℕ → ℕ → ℕ
turns zero p q = 0
turns (suc n) p q = turns n (p / 4) (q / 4) + letter_turns (p % 4) (q % 4)

-- the number of qubits on which both letters are other than I and differ
unfoldable pub clashes : ℕ → ℕ → ℕ → ℕ
clashes zero p q = 0
clashes (suc n) p q = clashes n (p / 4) (q / 4) + letter_clash (p % 4) (q % 4)

-- whether P·Q = Q·P: two Paulis commute where the letters clash on an even number of qubits, and else they anticommute
unfoldable pub commute : ℕ → ℕ → ℕ → Bool
commute n p q = clashes n p q % 2 == 0

-- a Pauli with a sign
pub record Signed : Type 0 where
  pub code : ℕ
  pub is_negative : Bool

-- the quarter turns of a sign: −1 is i ^ 2
abbrev pub sign_turns : Bool → ℕ
sign_turns true = 2
sign_turns false = 0

-- whether −i·P·Q, where P and Q anticommute, is the negative of a Pauli: −i has three quarter turns
unfoldable pub anti_sign : ℕ → ℕ → ℕ → Bool
anti_sign n p q = (turns n p q + 3) % 4 == 2

-- −i·P·Q as a signed Pauli, where P and Q anticommute
abbrev pub anti_image : ℕ → ℕ → ℕ → Signed
anti_image n p q = record { code = product_code p q; is_negative = anti_sign n p q }
