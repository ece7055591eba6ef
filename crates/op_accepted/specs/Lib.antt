pub mod Claims
pub mod Fit
pub mod State
