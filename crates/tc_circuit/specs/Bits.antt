-- The bits of a basis state: qubit q is bit q of the state's number, so qubit 0 is the least significant.
-- Source: the convention of OpenQASM 2.0's tools, little-endian qubits.
use Rattle.std.specs.Prelude.{ℕ, ◌+◌, ◌-◌, ◌/◌, ◌%◌, ◌^◌, ◌==◌, Bool, if◌then◌else◌}

-- whether bit q of the state is 1
unfoldable pub has_bit : ℕ → ℕ → Bool
has_bit q state = (state / 2 ^ q) % 2 == 1

-- the state with bit q flipped
unfoldable pub flipped : ℕ → ℕ → ℕ
flipped q state = if has_bit q state then state - 2 ^ q else state + 2 ^ q

-- the state with the target's bit flipped where the control's bit is 1
unfoldable pub crossed : ℕ → ℕ → ℕ → ℕ
crossed control target state = if has_bit control state then flipped target state else state
