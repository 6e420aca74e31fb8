pub mod Deciding
pub mod Counts
pub mod Entries
