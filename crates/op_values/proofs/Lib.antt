pub mod ItemsBehind
pub mod Nodes
pub mod Steps
