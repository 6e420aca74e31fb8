pub mod Filling
pub mod Fronts
