pub mod Head
pub mod Places
pub mod Reciprocal
pub mod Shape
pub mod Sizes
pub mod Types
