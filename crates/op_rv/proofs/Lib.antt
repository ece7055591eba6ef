pub mod Environment
pub mod Memory
pub mod Numbers
pub mod Table
