-- What the files hold:
-- Ring: What follows from the laws of a commutative ring, and the laws of powers.
-- Integers: The whole numbers as a ring: the laws that `lib.IntN` lacks, and the record.
-- Solver: Polynomial identities over a commutative ring, decided by computing normal forms.
-- Reader: Polynomial identities with no expression written out: `search reads` reads the expressions off the goal.
-- Sums: Finite sums over index functions, and matrices as functions of two indices.
-- Cyclotomic: Z[ω] is a commutative ring, and identities over it.
-- Squares: Sums of four squares of whole numbers.
-- Sizes: What holds of each number of qubits.
-- Examples: Identities that the solver closes: over the whole numbers, over any ring, over Z[ω], and with a hypothesis.
pub mod Ring
pub mod Integers
pub mod Solver
pub mod Reader
pub mod Sums
pub mod Cyclotomic
pub mod Squares
pub mod Sizes
mod Examples
