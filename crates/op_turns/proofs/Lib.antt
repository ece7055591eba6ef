pub mod Behind
pub mod Firsts
