pub mod Tables
pub mod Parameters
pub mod Entered
pub mod Represented
pub mod Tallies
