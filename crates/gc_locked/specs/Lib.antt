pub mod Guarded
pub mod Journal
pub mod Locked
pub mod Order
pub mod Rule
pub mod Setup
pub mod Turns
