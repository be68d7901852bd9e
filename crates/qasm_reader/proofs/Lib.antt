-- What the files hold:
-- Shapes: Tests of lexemes, and what they say of the shapes.
-- Splits: A list cut at its first element of a kind.
-- Arguments: Arguments: how they are spelled and found.
-- Rotations: Gates of an angle: how they are spelled and found.
-- Entries: The bodies of definitions: how they are spelled and found.
-- Grammar: `form_of` gives the form of a statement.
-- Lookups: Registers by name, and numbers.
-- Placing: Gates with qubits in place of the numbers of arguments: their T gates, and that they fit.
-- Registers: Registers lie below the number of qubits.
-- Cut: The statements of tokens, one after another, and what a scan makes of the first of them.
-- Order: Rows by their reasons, wherever they stand in the order.
-- Places: The places of names among names: where there are no strangers and no twins, they are below the number of names, and differ.
-- Takeable: A statement to which no row applies can be taken: its gates fit the qubits, and they have few T gates.
-- Written: The pieces of definitions: on places, as they are added, and as they are written one after another.
-- Kept: What is kept of definitions, one after another.
-- Twins: Names in falling order of their places: as a set, and whether one stands twice.
-- Outcomes: Each text is read, or refused, in one way.
-- Names: A set of names with one name more.
-- Small: A circuit that a text reads as is small: a statement that is taken keeps to the limits, and its gates fit the qubits.
-- Within: No row applies to a statement within the limits.
-- Halving: The Ident tokens `OPENQASM` of a text, and where it is cut.
-- Refusing: Where a text is refused: at a place of it, or at its end.
pub mod Shapes
pub mod Splits
pub mod Arguments
pub mod Rotations
pub mod Entries
pub mod Grammar
pub mod Lookups
pub mod Placing
pub mod Registers
pub mod Cut
pub mod Order
pub mod Places
pub mod Takeable
pub mod Written
pub mod Kept
pub mod Twins
pub mod Outcomes
pub mod Names
mod Small
mod Within
mod Halving
mod Refusing
