-- What the files hold:
-- SortedColumns: Each list has a sorted copy, and so each table with its least exponent has a label.
-- FrontsExist: A letter before a word has a channel with the least exponent, of which the number of divisions tells, and a label.
-- ColumnParts: Runs of numbers: a number more at the end of one, and a column more behind the others.
-- BlockSums: Sums over the rows of a block.
-- RunSums: Sums of runs of numbers, one number after the other, and of columns, one column after the other.
-- HeldColumns: Columns of a table that is 0 between different blocks, from the runs of their blocks.
-- HeldParities: How often a letter's product can be divided, from parities that are held.
-- ParityBits: Words of bits that hold parities: a bit more, at any place.
-- BlockParities: The parities of a table that is 0 between different blocks, from those of its blocks.
-- SetOne: A list whose elements are set one after the other.
-- PlacedSums: The sum to which each column gives its fold at its place, and the tag of that sum, in numbers of 64 bits.
-- Counts: Counting in parts.
-- Letters: The sums of a table's columns behind a letter, from the cells before it.
-- Graded: A column's sum by weights that depend on how many rows of its block stand behind is a sum over the digits of its number.
-- Halves: A column's number comes of two sums, its halves, and how large these are.
-- FrontNumbers: The number of a column behind a letter, from the cells before it.
-- DigitOrder: The digits stand in the order of the cells, so columns stand in the order of their numbers.
-- Leads: The size of a column's number tells how many rows of its block stand behind its lead row.
-- SmallNumbers: The norm of a circuit's channel bounds its numbers.
-- PackableWords: The channel of a word is 0 between different blocks of its letters' span, and its numbers are small where its exponent is.
-- WholeNumbers: Numbers of 128 bits with a sign, from two halves of 64 bits, and how many bits such a number has.
-- LetterRows: The turns of all letters in one list, a letter's rows together.
-- QuickMarks: From the sums of a word's columns to the mark of a letter before it.
-- WeightRows: Weights of rows modulo 2^64.
-- CountedPlaces: A column's place, counted by lead rows and then by numbers.
-- Runs: Columns in runs of one lead row: where the runs start and end, and one column more.
-- Closed: The product with a letter of a code on as many qubits is one.
-- SuffixWords: A word with one letter more of those it had.
-- SuffixStarts: What a suffix keeps of the empty word.
-- BlockHomes: The homes of a span's blocks.
-- BlockRows: The rows of a span's blocks, at their homes.
-- SuffixFacts: What a suffix and a letter before it give to the steps of a quick mark.
-- LetterClasses: Letters of one class before a word.
pub mod SortedColumns
pub mod FrontsExist
pub mod ColumnParts
pub mod BlockSums
pub mod RunSums
pub mod HeldColumns
pub mod HeldParities
pub mod ParityBits
pub mod BlockParities
pub mod SetOne
pub mod PlacedSums
pub mod Counts
pub mod Letters
pub mod Graded
pub mod Halves
pub mod FrontNumbers
pub mod DigitOrder
pub mod Leads
pub mod SmallNumbers
pub mod PackableWords
pub mod WholeNumbers
pub mod LetterRows
pub mod QuickMarks
pub mod WeightRows
pub mod CountedPlaces
pub mod Runs
pub mod Closed
pub mod SuffixWords
pub mod SuffixStarts
pub mod BlockHomes
pub mod BlockRows
pub mod SuffixFacts
pub mod LetterClasses
