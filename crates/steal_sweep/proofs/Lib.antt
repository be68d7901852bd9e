-- What the files hold:
-- Views: The views of the seats: the sum of their parts, the least numbers that they know, and what they put.
-- Dealt: The positions of dealt blocks.
-- Found: From what all seats know to the least hit.
-- Joined: One seat that takes in the seats of seekers.
-- Leading: Each step keeps the rule of the best word.
-- Lists: Lists and their images: what holds of each element, and sums.
-- Ranges: Positions that follow one another.
pub mod Views
pub mod Dealt
pub mod Found
pub mod Joined
pub mod Leading
pub mod Lists
pub mod Ranges
