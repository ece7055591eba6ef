pub mod Beginning
pub mod Building
pub mod Meaning
pub mod Means
