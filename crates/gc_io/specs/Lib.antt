pub mod Adapter
pub mod Faults
pub mod Store
pub mod Streams
pub mod Supply
pub mod Tally
