pub mod Limits
pub mod Exclusions
pub mod Nestings
pub mod Comparisons
