pub mod Parts
pub mod Conditions
pub mod SectionRoom
pub mod TaskSections
