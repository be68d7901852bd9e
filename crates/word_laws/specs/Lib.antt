pub mod Spans
pub mod Divisions
pub mod Parities
pub mod Rests
pub mod Laws
