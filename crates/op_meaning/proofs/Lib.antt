mod ChargeRows
pub mod Charged
pub mod EachNode
pub mod Endings
pub mod Programs
pub mod SetBits
mod RunsCalls
mod RunsFinally
pub mod RunsHeld
mod RunsLoops
mod RunsNumbers
mod RunsParts
mod RunsSets
mod RunsSteps
mod RunsTexts
pub mod RunsWhole
