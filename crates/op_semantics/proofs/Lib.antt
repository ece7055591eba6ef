pub mod Endings
pub mod Programs
mod RunsArrays
mod RunsClasses
mod RunsInterfaces
mod RunsRaised
mod RunsReading
mod RunsStrings
