pub mod Compiles
pub mod Effects
pub mod ImageRun
pub mod Leaves
pub mod OneOutcome
pub mod Owes
pub mod Status
