pub mod Represents
pub mod Fields
