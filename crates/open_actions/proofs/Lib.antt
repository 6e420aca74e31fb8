pub mod Supporting
pub mod Choosing
pub mod Searching
pub mod Noting
pub mod Descending
pub mod Levels
pub mod OverSchemas
pub mod Answering
