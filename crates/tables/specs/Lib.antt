pub mod Flat
pub mod Front
