pub mod History
pub mod Law
pub mod Requests
pub mod Runs
