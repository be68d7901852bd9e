-- What the files hold:
-- Flips: A state with one bit flipped.
-- Gates: What the product with a gate's matrix is, row by row.
-- Cells: A cell that a gate makes, from the cells that it is made of.
-- Bounds: How large the entries grow.
-- Same: Being the same up to a phase is an equivalence, which gates keep.
-- Built: The matrix of a circuit, gate by gate.
-- Counts: The T gates of lists of gates, for the crates above.
pub mod Flips
pub mod Gates
pub mod Cells
pub mod Bounds
pub mod Same
pub mod Built
pub mod Counts
