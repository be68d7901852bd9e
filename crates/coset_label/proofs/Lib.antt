-- What the files hold:
-- FixedSigns: Columns with a fixed sign: a column has the same one as its negative, and as no other column.
-- ColumnLists: The columns of a table as lists of numbers.
-- RisingLists: Sorted lists without repetition are equal where they have the same members.
-- OneCoset: To lie in one coset is an equivalence on tables, and on words.
-- OneLabel: The labels of two tables with independent columns are equal exactly where the tables lie in one coset.
-- InFront: What stands in front keeps cosets.
-- Exponents: The least exponent of a coset is at most that of each of its tables, and the length of each of its words.
-- Permutations: Two tables lie in one coset exactly where they differ by a signed permutation of the columns.
-- WordChannels: The channel of a word is a circuit's channel, and so words of one coset have one label.
-- Digits: The digits of a number, and the number that digits make.
-- PackedWords: Packed words against the words that they stand for.
-- TurnedColumns: Columns with their signs turned, cell by cell.
-- LeadRows: The lead row of a column: that of its first entry other than 0, which decides its sign.
-- RowOrder: The lexicographic order of two columns, row by row.
-- ColumnOrder: The order of a channel's columns with their signs fixed, from their lead rows and their cells.
-- ColumnRuns: Columns put into order run by run: those with one lead row stand together, and each run is sorted by itself.
-- ListedColumns: Lists of columns: the columns in turn, and what their order makes of the label.
-- Horner: The fold of a label's numbers as a polynomial modulo 2^38.
-- ColumnSums: Folds of columns in numbers of 64 bits.
-- KeptLabels: Labels that are kept by indexes.
-- SameLabels: Labels with the same columns, cell by cell.
-- WordSteps: The steps of a word, letter by letter from the last.
-- Deciding: The test tells whether two tables lie in one coset.
pub mod FixedSigns
pub mod ColumnLists
pub mod RisingLists
pub mod OneCoset
pub mod OneLabel
pub mod InFront
pub mod Exponents
pub mod Permutations
pub mod WordChannels
pub mod Digits
pub mod PackedWords
pub mod TurnedColumns
pub mod LeadRows
pub mod RowOrder
pub mod ColumnOrder
pub mod ColumnRuns
pub mod ListedColumns
pub mod Horner
pub mod ColumnSums
pub mod KeptLabels
pub mod SameLabels
pub mod WordSteps
pub mod Deciding
