pub mod Acting
pub mod ActsKeeping
pub mod Gathered
pub mod Keeping
pub mod Knowing
pub mod Passing
pub mod Settling
