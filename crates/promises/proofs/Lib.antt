pub mod Cards
pub mod Histories
pub mod Listings
pub mod OpenCalls
pub mod Previews
