pub mod Actions
pub mod Calls
pub mod Closing
pub mod Programs
pub mod Registers
pub mod Routines
