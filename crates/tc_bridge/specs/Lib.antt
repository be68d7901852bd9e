pub mod Pauli
pub mod Rotation
pub mod Channel
pub mod Steps
pub mod Progress
pub mod Block
pub mod Laws
