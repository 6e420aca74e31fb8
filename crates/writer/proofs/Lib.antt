pub mod WriteLaws
pub mod CardBytes
pub mod Encoding
