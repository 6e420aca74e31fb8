pub mod ListReads
