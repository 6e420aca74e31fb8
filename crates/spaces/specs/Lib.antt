pub mod SpaceTable
pub mod Steps
pub mod Tabled
pub mod Own
