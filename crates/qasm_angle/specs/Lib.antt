pub mod Symbols
pub mod Angles
pub mod Steps
