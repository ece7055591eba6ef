pub mod Claims
pub mod Simple
pub mod SimpleTests
pub mod Typed
