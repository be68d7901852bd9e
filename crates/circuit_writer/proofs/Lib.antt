-- What the files hold:
-- Sizes: How long a print is.
-- Words: The texts of Paulis are the letters of a word.
pub mod Sizes
pub mod Words
