pub mod Measures
pub mod Nils
