pub mod Bits
pub mod Gate
pub mod Model
pub mod Circuit
pub mod Grid
