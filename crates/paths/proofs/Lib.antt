pub mod Levels
pub mod Places
pub mod ReadSteps
pub mod Values
