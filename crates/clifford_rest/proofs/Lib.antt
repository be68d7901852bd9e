-- What the files hold:
-- Acts: What matrices do to Paulis.
-- Invertible: Matrices with an inverse on the right, up to a power of √2: gates, rotations, and products of these.
-- Multiplies: Conjugation keeps products of Paulis.
-- Ends: One qubit's sweep ends at X and Z, by computing it on all pairs of Paulis: those that commute with X and Z on the lower qubits and anticommute with each other, with each of the four signs.
-- Lists: Lists of gates, one more at a time.
-- Ended: Where one qubit's sweep ends, for all that the computed tests speak of.
-- Undone: The gates that the sweep undoes take every Pauli's image back to the Pauli.
-- Fixed: What leaves X and Z on every qubit leaves every Pauli.
-- Permutations: What a signed permutation makes of a code.
-- Rests: The rest of a signed permutation that is a circuit's channel has that channel.
-- TFree: The channel of a circuit without T gates is a signed permutation.
pub mod Acts
pub mod Invertible
pub mod Multiplies
pub mod Ends
pub mod Lists
pub mod Ended
pub mod Undone
pub mod Fixed
pub mod Permutations
pub mod Rests
pub mod TFree
