-- What the files hold:
-- Behind: The least exponent behind an inverse rotation, by the number of divisions.
-- Few: How many fronts there are at most.
-- Halving: The fronts of a total, in parts.
-- Keeping: What a worker keeps is told by its cells.
-- Numbers: The word of a number, and words that are compared.
-- Passing: A first part whose least exponent passes the letters that are left leads to no word of the level.
-- Removing: Letters taken off a channel, one after another.
-- Resting: What is left of a target behind a front.
-- Splitting: A packed word without its last letter.
-- Totals: The totals of the search, by the truth values of their fronts.
-- Trailing: The target without the first letters of a word, and without one letter more.
pub mod Behind
pub mod Few
pub mod Halving
pub mod Keeping
pub mod Numbers
pub mod Passing
pub mod Removing
pub mod Resting
pub mod Splitting
pub mod Totals
pub mod Trailing
