pub mod Files
pub mod Starting
pub mod Left
pub mod Databases
pub mod Crashing
pub mod CrashMemory
pub mod Restarting
pub mod inner
