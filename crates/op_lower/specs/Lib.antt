pub mod Exits
pub mod Lowers
pub mod Made
pub mod Seen
pub mod Temporaries
