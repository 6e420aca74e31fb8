pub mod Compared
pub mod Filling
pub mod Entering
pub mod Containing
