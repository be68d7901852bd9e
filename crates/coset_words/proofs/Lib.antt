-- What the files hold:
-- Fronts: A letter is brought to the front of a word, past letters that commute with it.
-- Marks: Marks of words.
-- Rests: A letter is taken off a channel, and off the front of a word: whether they lie in one coset stays.
pub mod Fronts
pub mod Marks
pub mod Rests
