pub mod Ordered
pub mod Plain
pub mod Blanks
pub mod AtomLists
