pub mod Headers
pub mod SchemaParts
pub mod Decoding
pub mod SchemaLoop
