pub mod Own
pub mod Moves
pub mod Sorting
pub mod Initial
pub mod Tasks
pub mod Analysed
pub mod Rescued
