pub mod Device
pub mod Disk
pub mod Faults
pub mod Sim
pub mod Unsynced
