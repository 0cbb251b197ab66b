pub mod Bay
pub mod Extent
pub mod Inside
pub mod Lending
pub mod Room
