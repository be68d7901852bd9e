pub mod Answers
pub mod Fronts
pub mod Halves
pub mod Kept
pub mod Remainders
pub mod Trails
