pub mod Chunks
pub mod RowBytes
pub mod RightRows
pub mod Writing
pub mod Finding
pub mod FactNumbers
