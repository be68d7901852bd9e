-- What the files hold:
-- Identities: The entries of identity matrices, over any commutative ring.
-- Matrices: Square matrices over any commutative ring, by their laws: equations below a size, and what products, sums, multiples and linear combinations keep.
-- Decide: Equality of numbers, and a search below a bound, as tests that compute.
-- Powers: Powers of ω, i and √2.
-- Paulis: Products of Pauli matrices are those of their codes.
-- Commuting: Which Pauli matrices commute, and −i·P·Q where they do not.
-- AllGates: A test of every gate on one to three qubits, by computing.
-- Adjoints: Conjugate transposes.
-- Unitary: The conjugate transpose of a circuit's matrix is its inverse, up to a power of 2.
-- Parity: Even and odd whole numbers.
-- Phases: A number over a power of √2 whose absolute value is 1 is a power of ω.
-- Orthogonal: The Pauli matrices are orthogonal under the trace, and so linearly independent.
-- Commutant: A matrix that commutes with every Pauli is a number times the identity, by the completeness of the Paulis.
-- Embeddings: Sums, matrices and powers of √2 among the numbers of Z[ω].
-- Channels: The equation of a channel, between matrices; channels multiply.
-- Unique: A unitary matrix has one channel at most.
-- OneChannel: Unitary matrices with one channel are the same up to a phase, and those that are have one channel.
-- Axes: The matrices a·I + b·P.
-- Rotations: The channel of a rotation by a Pauli, and of its inverse.
-- Terms: Sums of Paulis with powers of ω before them, as lists: products with a Pauli, and equality up to the order of the terms.
-- GateTerms: The Clifford gates as sums of Paulis, and what conjugation by them makes of a Pauli, computed for one to three qubits.
-- CircuitChannels: Each gate's step has its channel, and so each circuit has the channel that its steps build.
-- ScaledMatrices: Matrices over a power of √2: equal ones, equal ones up to a power of ω, and their products.
-- Appended: The matrix of gates behind others.
-- Conjugations: Clifford gates move past a·I + b·P as they conjugate P, and so a gate between Clifford gates and their inverses is conjugated.
-- Blocks: A letter's block is R(P) exactly.
-- Negatives: R(−P) is, up to a power of ω, R(P) behind a Clifford circuit.
-- Words: Each circuit is a word of rotations behind a circuit without T gates, and each word has a circuit.
-- Counts: Which circuits Clifford gates, blocks and words make, and how many T gates these have.
-- Rising: Gates that loops over the qubits append, in rising order and undone in falling order.
-- Traces: The entries of a channel as traces.
-- Clauses: The laws on words, as contracts state them.
-- Squares: R(P)² is a Clifford operator: s between the gates that take P to Z and their inverses.
-- Prefixes: The first gates of a circuit: their steps and their T gates.
-- Taken: One step more of a channel under way.
-- Codes: Conjugation of codes by gates and by their inverses.
-- CliffordTables: Tables with one entry in each column, 1 or −1, under gates, and those that gates build.
pub mod Identities
pub mod Matrices
pub mod Decide
pub mod Powers
pub mod Paulis
pub mod Commuting
pub mod AllGates
pub mod Adjoints
pub mod Unitary
pub mod Parity
pub mod Phases
pub mod Orthogonal
pub mod Commutant
pub mod Embeddings
pub mod Channels
pub mod Unique
pub mod OneChannel
pub mod Axes
pub mod Rotations
pub mod Terms
pub mod GateTerms
pub mod CircuitChannels
pub mod ScaledMatrices
pub mod Appended
pub mod Conjugations
pub mod Blocks
pub mod Negatives
pub mod Words
pub mod Counts
pub mod Rising
pub mod Traces
pub mod Clauses
pub mod Squares
pub mod Prefixes
pub mod Taken
pub mod Codes
pub mod CliffordTables
