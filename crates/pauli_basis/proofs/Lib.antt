-- What the files hold:
-- Small: Facts about all small numbers, by computing.
-- Letters: Laws of two and three letters, each computed for all of them, and the letters of a code.
-- Products: Laws of products of Paulis, on any number of qubits.
-- Masks: The letters of two codes compared all at once, by masks.
-- Text: The text of a Pauli, letter by letter.
pub mod Small
pub mod Letters
pub mod Products
pub mod Masks
pub mod Text
