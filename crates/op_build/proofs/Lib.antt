pub mod Making
pub mod Oversized
