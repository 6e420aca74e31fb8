pub mod Fitting
pub mod Typing
pub mod Fixed
pub mod Front
