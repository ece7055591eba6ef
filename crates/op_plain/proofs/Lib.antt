pub mod CountedLemmas
mod Nodes
mod Parts
pub mod PlainLemmas
mod PlainRuns
mod Shown
pub mod SimpleLemmas
mod Texts
pub mod WrittenLemmas
