pub mod Lists
pub mod Bags
