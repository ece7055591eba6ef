pub mod GrammarForm
pub mod Opening
pub mod Refusal
pub mod Whole
pub mod WholeStatement
