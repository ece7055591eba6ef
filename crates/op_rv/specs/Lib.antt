pub mod Decoding
pub mod Encoding
pub mod Environment
pub mod Operation
pub mod State
pub mod Step
