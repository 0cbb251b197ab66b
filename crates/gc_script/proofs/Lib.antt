pub mod ListLemmas
pub mod TextLemmas
pub mod NumberLemmas
pub mod NameLemmas
pub mod Passed
pub mod KindLemmas
pub mod CallLemmas
pub mod TruncationLemmas
pub mod ReadingLemmas
pub mod OneSpelling
pub mod WordLemmas
pub mod WriteLemmas
pub mod PlainLemmas
pub mod ReadBackLemmas
pub mod GeneratedLemmas
mod Examples
