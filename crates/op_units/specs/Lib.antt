pub mod Cycles
pub mod Forms
pub mod Names
pub mod OneWalk
pub mod Reading
pub mod Search
pub mod Unbuilt
pub mod Walk
