-- The Clifford gates h, s, sdg and cx, and what conjugation by them makes of a Pauli operator: g·P·g† as a Pauli with a
-- sign. Source: Gottesman, The Heisenberg representation of quantum computers, 1998; Nielsen and Chuang, section 10.5.2.
use Rattle.std.specs.Prelude.{ℕ, zero, suc, ◌+◌, ◌*◌, ◌%◌, ◌^◌, ◌<◌, ◌≢◌, ◌==◌, true, false, bit_xor, if◌then◌else◌}
use Rattle.pauli_basis.specs.Letters.{letter_of}
use Rattle.pauli_basis.specs.Products.{Signed, product_code, turns}
use Rattle.channel_rep.specs.declared.gate.ChannelGate.{ChannelGate}
use Rattle.channel_rep.specs.declared.gate.ChannelGate.TheVariants.{H, S, Sdg, Cx}

-- a gate of n qubits: its qubits are below n, and the two of a cx differ
abbrev pub GateFits : ℕ → ChannelGate → Type 0
GateFits n (H q) = q < n
GateFits n (S q) = q < n
GateFits n (Sdg q) = q < n
GateFits n (Cx control target) = (control < n) × (target < n) × (control ≢ target)

abbrev pub positive : ℕ → Signed
positive code = record { code = code; is_negative = false }

abbrev pub negated : ℕ → Signed
negated code = record { code = code; is_negative = true }

-- h: X to Z, Y to −Y, Z to X
abbrev pub h_letter : ℕ → Signed
h_letter zero = positive 0
h_letter (suc zero) = positive 3
h_letter (suc (suc zero)) = negated 2
h_letter (suc (suc (suc _))) = positive 1

-- s: X to Y, Y to −X, Z to itself
abbrev pub s_letter : ℕ → Signed
s_letter zero = positive 0
s_letter (suc zero) = positive 2
s_letter (suc (suc zero)) = negated 1
s_letter (suc (suc (suc _))) = positive 3

-- sdg: X to −Y, Y to X, Z to itself
abbrev pub sdg_letter : ℕ → Signed
sdg_letter zero = positive 0
sdg_letter (suc zero) = negated 2
sdg_letter (suc (suc zero)) = positive 1
sdg_letter (suc (suc (suc _))) = positive 3

-- the code with another letter on qubit q
abbrev pub with_letter : ℕ → ℕ → ℕ → ℕ
with_letter q code letter = bit_xor code (bit_xor (letter_of q code) letter * 4 ^ q)

-- a gate of one qubit acts on the letter of its qubit
abbrev pub on_qubit : ℕ → (ℕ → Signed) → ℕ → Signed
on_qubit q change code = let s = change (letter_of q code) in record { code = with_letter q code s.code; is_negative = s.is_negative }

-- i ^ turns times a Pauli
pub record Phased : Type 0 where
  pub turns : ℕ
  pub code : ℕ

abbrev pub phased_product : ℕ → Phased → Phased → Phased
phased_product n a b = record { turns = a.turns + b.turns + turns n a.code b.code; code = product_code a.code b.code }

-- cx: X on the control to X on both qubits, and X on any other qubit to itself
abbrev pub x_through : ℕ → ℕ → ℕ → ℕ
x_through control target q = if q == control then 4 ^ control + 4 ^ target else 4 ^ q

-- cx: Z on the target to Z on both qubits, and Z on any other qubit to itself
abbrev pub z_through : ℕ → ℕ → ℕ → ℕ
z_through control target q = if q == target then 3 * 4 ^ control + 3 * 4 ^ target else 3 * 4 ^ q

-- cx: a letter on qubit q, with Y = i·X·Z
abbrev pub letter_through : ℕ → ℕ → ℕ → ℕ → ℕ → Phased
letter_through n control target q zero = record { turns = 0; code = 0 }
letter_through n control target q (suc zero) = record { turns = 0; code = x_through control target q }
letter_through n control target q (suc (suc zero)) =
    phased_product n (record { turns = 1; code = x_through control target q }) (record { turns = 0; code = z_through control target q })
letter_through n control target q (suc (suc (suc _))) = record { turns = 0; code = z_through control target q }

-- cx: the letters on the qubits below m, as the product of theirs
abbrev pub letters_through : ℕ → ℕ → ℕ → ℕ → ℕ → Phased
letters_through n control target code zero = record { turns = 0; code = 0 }
letters_through n control target code (suc m) =
    phased_product n (letters_through n control target code m) (letter_through n control target m (letter_of m code))

abbrev pub cx_image : ℕ → ℕ → ℕ → ℕ → Signed
cx_image n control target code =
    let p = letters_through n control target code n in record { code = p.code; is_negative = p.turns % 4 == 2 }

-- g·P·g† on n qubits
unfoldable pub image : ℕ → ChannelGate → ℕ → Signed
image n (H q) code = on_qubit q h_letter code
image n (S q) code = on_qubit q s_letter code
image n (Sdg q) code = on_qubit q sdg_letter code
image n (Cx control target) code = cx_image n control target code
