pub mod Adding
pub mod Nodes
pub mod Setting
pub mod Shape
pub mod View
