pub mod Ascending
pub mod Kept
pub mod Lowest
pub mod Joining
pub mod Members
pub mod Operations
pub mod Walking
