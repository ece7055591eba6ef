pub mod Standing
pub mod Settled
pub mod Surrounding
pub mod Claims
