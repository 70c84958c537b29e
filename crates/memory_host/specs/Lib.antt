pub mod Memory
pub mod MemoryView
pub mod MemoryLaw
pub mod DiskModel
