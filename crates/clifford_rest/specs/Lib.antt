pub mod Sweep
pub mod Rest
pub mod State
pub mod Laws
