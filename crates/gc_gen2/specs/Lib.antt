pub mod Cells
pub mod Class
pub mod FreeSet
pub mod Summary
pub mod Page
