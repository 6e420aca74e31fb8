pub mod GroundRows
pub mod Passing
pub mod Holding
