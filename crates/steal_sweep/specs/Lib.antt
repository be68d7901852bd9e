pub mod BestRule
pub mod Positions
pub mod Searches
pub mod Seats
pub mod Tests
