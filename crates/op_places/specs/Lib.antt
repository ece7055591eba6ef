pub mod Frames
pub mod Homes
pub mod Moves
pub mod Places
