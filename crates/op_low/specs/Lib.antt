pub mod Descriptor
pub mod Example
pub mod Machine
pub mod Reading
pub mod Runs
pub mod State
pub mod Valid
