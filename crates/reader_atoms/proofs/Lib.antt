pub mod Many
pub mod Filling
pub mod ArgumentBytes
pub mod Orders
pub mod Derived
pub mod Checks
