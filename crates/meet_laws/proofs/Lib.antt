-- What the files hold:
-- Cliffords: A circuit's channel in the coset of the identity is that of a circuit without T gates.
-- Between: Two circuits' channels lie in one coset exactly where a Clifford operator stands between them, and a Clifford operator before a word moves behind a word as long.
-- Follow: Words before others: where one is exchanged for another of its coset, as many letters as before can follow.
-- Parts: The fronts of a least word are least, and halves that meet spell one.
-- Fronts: The fronts of least words, and those that are tried at a total.
-- Meeting: Halves that meet spell the least word.
-- Totals: The totals of the search, even and odd.
-- LeastCounts: The least T-count of a circuit is the number of letters of its channel's least word.
pub mod Cliffords
pub mod Between
pub mod Follow
pub mod Parts
pub mod Fronts
pub mod Meeting
pub mod Totals
pub mod LeastCounts
