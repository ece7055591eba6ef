pub mod Tables
pub mod Complete
