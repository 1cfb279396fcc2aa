pub mod Bounds
pub mod Entries
pub mod Kept
pub mod Order
pub mod Runs
pub mod Searches
pub mod Slices
pub mod TableLaws
