pub mod Codes
pub mod Sizes
pub mod Checking
pub mod Sections
pub mod Asking
pub mod Previewing
