pub mod Showing
pub mod Turns
pub mod Answered
pub mod Delivered
