pub mod EveryStep
pub mod Histories
pub mod Lists
pub mod Makers
pub mod Objects
pub mod Reached
pub mod Rounds
pub mod Scripts
pub mod Sound
pub mod Steps
pub mod Sums
pub mod Typed
pub mod Worklist
mod Examples
