pub mod Masked
pub mod Supports
pub mod Ready
pub mod Bindings
pub mod Notes
pub mod Answers
pub mod Schemas
