-- What the files hold:
-- Sums: Sums over views, by their places.
-- Fronts: What stands before the end marks of a list of entries.
-- Turns: Each step keeps the rule of one deque.
-- Takings: What taking an entry does to a view, by what is given of it.
-- Rounds: What rounds of tries do to a list of thefts.
-- Pushes: What the deques were given.
-- Moves: What a call for a block does to a seat.
-- Kept: What keeps a deal together.
-- Cover: The dealt blocks, one behind the other, are the positions below the total.
-- Indexes: Lists by index.
-- TakingBack: What the owners take back, a theft at a time and a worker at a time.
-- AllBack: What the owners take back of all workers.
-- Counts: Sums over lists of lists, and over the numbers of all workers.
-- Permuted: Lists by how often each element stands in them, or by their sums: which are parts of one another, and which are permutations.
-- Parting: How shares are taken apart, one by one.
-- Full: Every part comes back.
-- Ties: What the shares of one deal know of each other.
-- Settles: The blocks of all workers are dealt ones, none more than once; and all of them, once all shares have ended.
-- Positions: The positions of all dealt blocks, in whatever order.
-- Steps: A worker's numbers, in steps of the workers.
-- Pushing: Entries are pushed one by one.
-- LendingOne: What a worker's ways take from the owners, one by one.
-- LendingAll: What the ways of all workers take from the owners.
-- Rotated: A sum over all workers, a worker first and then those after it, counted round.
-- AllGiven: What all deques were given, one worker's first and then those after it.
-- Noted: A seat was given no block twice.
-- Fresh: Seats of which nothing was taken.
-- Handing: Shares are made one by one.
-- Ready: Owners that lent a part to each other worker are ready.
pub mod Sums
pub mod Fronts
pub mod Turns
pub mod Takings
pub mod Rounds
pub mod Pushes
pub mod Moves
pub mod Kept
pub mod Cover
pub mod Indexes
pub mod TakingBack
pub mod AllBack
pub mod Counts
pub mod Permuted
pub mod Parting
pub mod Full
pub mod Ties
pub mod Settles
pub mod Positions
pub mod Steps
pub mod Pushing
pub mod LendingOne
pub mod LendingAll
pub mod Rotated
pub mod AllGiven
pub mod Noted
pub mod Fresh
pub mod Handing
pub mod Ready
