pub mod Comparing
pub mod Minimal
