pub mod MadeLemmas
pub mod ProgramLemmas
pub mod Sizes
