-- What the files hold:
-- Congruences: Natural numbers that are whole ones modulo m.
-- Folds: Folds of columns as sums over the rows.
-- Wholes: The fold of a label's numbers as a whole number, not cut.
-- Ranks: In a strictly rising list the place of a member is the number of lesser ones.
-- Rising: The columns of a circuit's label rise strictly.
-- Totals: A label's fold is a sum over the columns of its table, and its tag comes of that sum.
-- Fronts: The tag of a letter before a word, from the cells of the word's own channel.
-- Places: Places of columns by counting, and by the rows in which they lead.
-- Digits: The number of digits with signs has the sign of the first digit other than 0, and two such numbers compare as their digits.
-- Packed: Columns of one block, with their signs fixed, stand in the order of their packed numbers without signs.
-- SparseSums: The fold of a column that is kept by its cells other than 0.
pub mod Congruences
pub mod Folds
pub mod Wholes
pub mod Ranks
pub mod Rising
pub mod Totals
pub mod Fronts
pub mod Places
pub mod Digits
pub mod Packed
pub mod SparseSums
