pub mod Agreeing
pub mod FieldIndex
pub mod First
pub mod Growing
pub mod Nodes
pub mod OneType
pub mod Rows
