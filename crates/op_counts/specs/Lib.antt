pub mod Claims
pub mod Counting
pub mod Fitting
