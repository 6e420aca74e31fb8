pub mod LinesLeft
pub mod Columns
pub mod LimitLines
pub mod SectionLengths
pub mod ComparisonLines
