-- What the files hold:
-- Places: Cells at places of a table, after writes to two of its rows.
-- Images: What the gates make of codes, computed on one to three qubits.
-- Bytes: A gate on an image that stands in a byte, computed over all bytes.
-- Conjugated: Codes conjugated by gates one after another.
-- Signs: Numbers with a sign.
-- Rules: A step's table times a table is the rule by rows.
-- Sweeps: A loop over the rows of a table that changes each row at one turn.
-- Built: Tables up to one power of √2, and tables that are built of steps.
-- Squares: The places of a square table, row by row.
-- Moves: The rows that a run of gates moves.
-- Grids: What a change of a channel's cells leaves: a channel.
-- ConjugatedGrids: A channel whose rows a conjugation moves.
-- OneUnit: Lines with one entry that is 1 or −1.
-- OnePower: Cells divided by √2, several times.
-- Least: A reduced table has the least exponent of all tables that are the same, and is the only one with it.
-- Independent: The columns of a circuit's channel are linearly independent, and so no two of them agree up to sign.
-- Lines: One row of a table: that of the identity, and a row that is lent to be read.
-- Norms: Tables with orthogonal columns: products and moved rows have them too, so each circuit's channel has.
-- Products: Products of tables over powers of √2.
-- Undone: A rotation and its inverse undo each other.
-- Pairs: Pairs of numbers that are turned in lanes, or one by one.
-- TwoLists: Cells in two lists of numbers.
-- TurnedParts: Rows of cells in two lists, turned and scaled.
-- UnitNorms: Orthogonal columns with the norm 1 make a signed permutation.
-- NarrowGrids: What a change of a narrow channel's numbers leaves: a narrow channel.
pub mod Places
pub mod Images
pub mod Bytes
pub mod Conjugated
pub mod Signs
pub mod Rules
pub mod Sweeps
pub mod Built
pub mod Squares
pub mod Moves
pub mod Grids
pub mod ConjugatedGrids
pub mod OneUnit
pub mod OnePower
pub mod Least
pub mod Independent
pub mod Lines
pub mod Norms
pub mod Products
pub mod Undone
mod Pairs
mod TwoLists
mod TurnedParts
mod UnitNorms
mod NarrowGrids
