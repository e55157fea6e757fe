pub mod Faults
pub mod Plans
pub mod Shelves
pub mod Sinks
pub mod Sources
pub mod Streams
