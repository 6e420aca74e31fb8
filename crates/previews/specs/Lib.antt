pub mod Represents
pub mod Steps
pub mod Answers
