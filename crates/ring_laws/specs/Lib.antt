pub mod Ring
pub mod Matrix
pub mod Cyclotomic
