-- What the files hold:
-- Entries: Entries brought to one power of √2.
-- Tested: Matrices of circuits in place of the circuits.
-- Deciding: Whether two circuits are the same is decided: by the entries of their matrices, for each of the eight phases.
mod Entries
mod Tested
mod Deciding
