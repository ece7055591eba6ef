pub mod Managed
