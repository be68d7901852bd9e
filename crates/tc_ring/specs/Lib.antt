pub mod Bounds
pub mod Omega
pub mod Surds
pub mod Root2
