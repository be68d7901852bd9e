-- What the files hold:
-- Turns: The product with a power of ω, coordinate by coordinate.
-- Bounds: How far the operations let coordinates grow.
-- Surds: Z[√2] is a commutative ring, and a part of Z[ω].
pub mod Turns
pub mod Bounds
pub mod Surds
