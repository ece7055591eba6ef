pub mod Bits
pub mod Following
pub mod ItemsBehind
pub mod Nils
