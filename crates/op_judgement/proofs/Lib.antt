pub mod Judging
pub mod Clear
pub mod Stepping
pub mod Computed
pub mod Completing
pub mod Told
