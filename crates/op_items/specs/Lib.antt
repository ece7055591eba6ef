pub mod Adding
pub mod Collections
pub mod First
pub mod Nodes
pub mod Setting
pub mod Shape
pub mod View
