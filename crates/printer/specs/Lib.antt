pub mod Shown
pub mod Ready
pub mod Leaves
