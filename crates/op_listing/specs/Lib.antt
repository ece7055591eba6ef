pub mod Digits
pub mod Instruction
pub mod Linked
pub mod Listing
pub mod Names
