pub mod Judgement
pub mod Given
pub mod Steps
pub mod Rules
