pub mod Ascending
pub mod Shifting
pub mod Changing
