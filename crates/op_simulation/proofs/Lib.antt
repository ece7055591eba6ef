pub mod Runs
pub mod Paths
pub mod Points
pub mod Composition
pub mod Slowing
pub mod Lifting
