pub mod EnteringTotals
pub mod AllTotals
