-- A gate on an image that stands in a byte, computed over all bytes.
use Rattle.std.proofs.Common.{◌≡◌, ◌≢◌, ℕ, ◌+◌, ◌*◌, ◌/◌, ◌%◌, ◌^◌, ◌<◌, ◌&&◌, ◌||◌, bit_and, bit_xor, Bool, T, eqb, eqb→eq}
use mathlib.Core.Bool.{beq}
use Rattle.pauli_basis.specs.Products.{Signed, turns}
use Rattle.pauli_basis.proofs.Small.{all, all_at, all_at2, and_left, and_right}
use Rattle.channel_rep.specs.Gates.{image}
use Rattle.channel_rep.specs.Conjugations.{pauli_in, conjugated}
use Rattle.channel_rep.specs.declared.gate.ChannelGate.TheVariants.{H, S, Sdg, Cx}
use Rattle.channel_rep.proofs.Images.{beq_is, apart}

-- the lower bit of the letter on a qubit
abbrev low : ℕ → ℕ → ℕ
low q byte = byte / 2 ^ (2 * q) % 2

-- and the higher one
abbrev high : ℕ → ℕ → ℕ
high q byte = byte / 2 ^ (2 * q + 1) % 2

-- the byte behind h, as the program makes it
abbrev h_byte : ℕ → ℕ → ℕ
h_byte q byte = bit_xor (bit_xor byte (low q byte * 2 ^ (2 * q + 1) % 256)) (bit_and (high q byte) (bit_xor (low q byte) 1) * 64 % 256)

-- behind s
abbrev s_byte : ℕ → ℕ → ℕ
s_byte q byte = bit_xor (bit_xor byte (3 * bit_xor (high q byte) (low q byte) * 2 ^ (2 * q) % 256)) (bit_and (high q byte) (bit_xor (low q byte) 1) * 64 % 256)

-- behind sdg
abbrev sdg_byte : ℕ → ℕ → ℕ
sdg_byte q byte = bit_xor (bit_xor byte (3 * bit_xor (high q byte) (low q byte) * 2 ^ (2 * q) % 256)) (bit_and (low q byte) (bit_xor (high q byte) 1) * 64 % 256)

-- behind cx
abbrev cx_byte : ℕ → ℕ → ℕ → ℕ
cx_byte control target byte =
    let control_x = bit_xor (low control byte) (high control byte) in
    let turned = bit_and (bit_and control_x (high target byte)) (bit_xor (bit_xor (bit_xor (low target byte) (high target byte)) (high control byte)) 1) in
    bit_xor (bit_xor (bit_xor byte (control_x * 2 ^ (2 * target) % 256)) (3 * high target byte * 2 ^ (2 * control) % 256)) (turned * 64 % 256)

-- whether two Paulis and their signs are the same
abbrev same : Signed → Signed → Bool
same a b = eqb a.code b.code && beq a.is_negative b.is_negative

-- two that pass are the same
same_is : (a b : Signed) → T (same a b) → a ≡ b
same_is a b h = λ i. record { code = eqb→eq a.code b.code (and_left _ _ h) i; is_negative = beq_is a.is_negative b.is_negative (and_right (eqb a.code b.code) _ h) i }

-- h on each qubit and byte
h_bytes : T (all 3 (λ q. all 256 (λ byte. same (pauli_in (h_byte q byte)) (conjugated 3 (H q) (pauli_in byte)))))
unfolding image
h_bytes = tt

-- s on each
s_bytes : T (all 3 (λ q. all 256 (λ byte. same (pauli_in (s_byte q byte)) (conjugated 3 (S q) (pauli_in byte)))))
unfolding image
s_bytes = tt

-- sdg on each
sdg_bytes : T (all 3 (λ q. all 256 (λ byte. same (pauli_in (sdg_byte q byte)) (conjugated 3 (Sdg q) (pauli_in byte)))))
unfolding image
sdg_bytes = tt

-- h at one byte
pub h_byte_is : (q byte : ℕ) → q < 3 → byte < 256 → pauli_in (h_byte q byte) ≡ conjugated 3 (H q) (pauli_in byte)
h_byte_is q byte l h = same_is _ _ (all_at2 3 256 (λ q byte. same (pauli_in (h_byte q byte)) (conjugated 3 (H q) (pauli_in byte))) h_bytes q byte l h)

-- s at one byte
pub s_byte_is : (q byte : ℕ) → q < 3 → byte < 256 → pauli_in (s_byte q byte) ≡ conjugated 3 (S q) (pauli_in byte)
s_byte_is q byte l h = same_is _ _ (all_at2 3 256 (λ q byte. same (pauli_in (s_byte q byte)) (conjugated 3 (S q) (pauli_in byte))) s_bytes q byte l h)

-- sdg at one byte
pub sdg_byte_is : (q byte : ℕ) → q < 3 → byte < 256 → pauli_in (sdg_byte q byte) ≡ conjugated 3 (Sdg q) (pauli_in byte)
sdg_byte_is q byte l h = same_is _ _ (all_at2 3 256 (λ q byte. same (pauli_in (sdg_byte q byte)) (conjugated 3 (Sdg q) (pauli_in byte))) sdg_bytes q byte l h)

-- whether cx makes the byte that it is to make
abbrev cx_matches : ℕ → ℕ → ℕ → Bool
cx_matches control target byte = same (pauli_in (cx_byte control target byte)) (conjugated 3 (Cx control target) (pauli_in byte))

-- cx on each two qubits and byte
cx_bytes : T (all 3 (λ control. all 3 (λ target. eqb control target || all 256 (cx_matches control target))))
unfolding image turns
cx_bytes = tt

-- cx at one byte
pub cx_byte_is : (control target byte : ℕ) → control < 3 → target < 3 → control ≢ target → byte < 256
    → pauli_in (cx_byte control target byte) ≡ conjugated 3 (Cx control target) (pauli_in byte)
cx_byte_is control target byte lc lt d h =
    same_is _ _ (all_at 256 (cx_matches control target)
    (apart control target _ d (all_at2 3 3 (λ control target. eqb control target || all 256 (cx_matches control target)) cx_bytes control target lc lt)) byte h)
