pub mod Answering
pub mod Totalling
pub mod Listing
