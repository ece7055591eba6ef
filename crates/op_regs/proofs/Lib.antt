pub mod HomeLemmas
pub mod IntervalLemmas
pub mod LineLemmas
pub mod MarkLemmas
pub mod ScanLemmas
pub mod TableLemmas
