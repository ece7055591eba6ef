pub mod Agrees
pub mod Charges
pub mod Claims
pub mod Heaped
pub mod Placed
pub mod SimpleCore
pub mod Spacious
pub mod Targets
