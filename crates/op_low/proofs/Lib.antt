pub mod DescriptorLemmas
pub mod ExampleRuns
pub mod MachineLemmas
pub mod ValidRuns
