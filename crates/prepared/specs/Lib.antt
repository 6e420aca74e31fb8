pub mod Prepared
pub mod Found
