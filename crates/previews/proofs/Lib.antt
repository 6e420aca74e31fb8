pub mod RowLists
pub mod InOrder
pub mod Foreseeing
pub mod Committing
