pub mod AtomLaws
pub mod Loops
pub mod Sequence
pub mod SchemaLaws
pub mod TaskLaws
