mod ArrivalLemmas
pub mod Beginning
mod CallSteps
pub mod ClearLemmas
mod ControlSteps
mod EnterLemmas
pub mod Following
mod ExamplePlaced
pub mod FrameLemmas
mod HeadLemmas
mod Loops
mod OperationLemmas
mod OutsideSteps
mod ReturnSteps
mod SavingLemmas
mod SequenceLemmas
pub mod TransferLemmas
mod ValueSteps
pub mod Walks
pub mod WordLemmas
