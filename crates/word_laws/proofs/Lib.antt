-- What the files hold:
-- Spans: The span of codes under exclusive or.
-- Sparse: The channel of a word is 0 outside the blocks of its letters' span.
-- Rotations: A rotation of a table, row by row: the pairs of rows that anticommute with it, and tables that agree.
-- Parities: The parities of a rotation's numbers, from those of the numbers before.
-- Multiples: How often a rotation's product can be divided by √2.
-- Exponents: One letter changes the least exponent by at most one, and the number of divisions tells by how much.
-- Norms: Behind a letter the channel of a circuit can't be divided by √2 more often than its exponent and 1: the norm of its columns is no multiple of 4 where it is 2.
-- Bits: Words of bits that tell the parities of a table's numbers.
-- Commuting: Two letters that commute: with products, and the signs of their rotations.
-- Exchanges: Letters that commute may change places in a word.
-- Rests: A word's inverse before a channel leaves a signed permutation exactly where the channel is in the word's coset.
pub mod Spans
pub mod Sparse
pub mod Rotations
pub mod Parities
pub mod Multiples
pub mod Exponents
pub mod Norms
pub mod Bits
pub mod Commuting
pub mod Exchanges
pub mod Rests
