pub mod Arithmetic
pub mod FaultPlan
pub mod FileAnswer
pub mod Got
pub mod Outside
pub mod Rule
