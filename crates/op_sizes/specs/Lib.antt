pub mod Claims
pub mod ProgramSize
pub mod Sizes
pub mod Texts
pub mod Weights
pub mod Written
