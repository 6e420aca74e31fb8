pub mod Numbers
pub mod Applying
pub mod Replacing
pub mod Tasks
pub mod Refusing
pub mod Admitting
pub mod Pressing
pub mod Calling
