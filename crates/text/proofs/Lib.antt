pub mod Writing
pub mod Decimal
pub mod NumberRows
pub mod LineTexts
pub mod Lengths
