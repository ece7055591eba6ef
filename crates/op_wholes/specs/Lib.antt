pub mod Claims
pub mod Listed
