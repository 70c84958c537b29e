pub mod MemoryMoments
pub mod Inside
pub mod DiskModel
pub mod Writes
