pub mod Causes
pub mod Command
pub mod Commands
pub mod Played
pub mod Replies
pub mod Summary
pub mod Text
