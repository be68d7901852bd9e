pub mod Congruence
pub mod Folds
pub mod Ranks
pub mod Totals
pub mod Fronts
pub mod Digits
pub mod Sparse
pub mod Laws
