pub mod Room
pub mod Written
pub mod Letters
pub mod Numbers
pub mod Kinds
